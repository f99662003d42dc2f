use Rattle.lps_derivation.specs.Expressions.{expr_symbols_of}
use Rattle.lps_solve.proofs.place.+place_leaves.Given as goal

abbrev pub decreases-place_leaves : goal.decreases-place_leaves
decreases-place_leaves l = expr_symbols_of l.expr.now

use Rattle.std.proofs.Common.{arith}
use Rattle.lps_model.specs.VariableLists.{term_vars}
use Rattle.lps_solve.proofs.Collecting.{both_below, flat_more}
use Rattle.lps_solve.proofs.variables.above_terms.Goals as goal

pub loop-term-preserved : goal.loop-term-preserved
loop-term-preserved c =
    both_below c.loop-term.above c.above_term.result c.max-above.result _ _ _
    (flat_more term_vars c.loop-term.term-index c.args.terms.now c.term-item.result c.loop-term-test.true c.term-item.is)
    (omega (arith, c.max-above.ensures)) (omega (arith, c.max-above.ensures)) c.loop-term.invariant c.above_term.ensures

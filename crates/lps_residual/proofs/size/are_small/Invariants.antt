use Rattle.std.proofs.Common.{drop}
use Rattle.std.specs.Prelude.{◌↔◌}
use Rattle.std.specs.List.{AllByRecursion}
use Rattle.lps_nodes.specs.Conditions.{IsLeftSmall}
use Rattle.lps_residual.proofs.size.are_small.Given as goal

-- all are small where those that are left are
abbrev pub invariant-loop-left : goal.invariant-loop-left
invariant-loop-left l = AllByRecursion (λ left. IsLeftSmall left.item) (drop l.left-index l.rest) ↔ AllByRecursion (λ left. IsLeftSmall left.item) l.rest

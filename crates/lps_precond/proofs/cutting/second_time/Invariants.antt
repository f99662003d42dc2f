use Rattle.std.proofs.Common.{◌≡◌, drop}
use Rattle.lps_precond.specs.Cut.{second_in}
use Rattle.lps_precond.proofs.cutting.second_time.Given as goal

-- what is left decides
abbrev pub invariant-loop-item : goal.invariant-loop-item
invariant-loop-item l = second_in (drop l.item-index l.items) ≡ second_in l.items

use Rattle.std.proofs.Common.{◌≡◌, take}
use Rattle.lps_precond.specs.Cut.{conds_of}
use Rattle.lps_precond.proofs.cutting.conditions.Given as goal

-- the items so far are there as conditions
abbrev pub invariant-loop-item : goal.invariant-loop-item
invariant-loop-item l = l.conds.items ≡ conds_of (take l.item-index l.items)

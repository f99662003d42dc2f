use Rattle.std.proofs.Common.{◌≡◌, take}
use Rattle.lps_precond.specs.Cut.{events_of}
use Rattle.lps_precond.proofs.cutting.events.Given as goal

-- what is to happen by the items so far is there
abbrev pub invariant-loop-item : goal.invariant-loop-item
invariant-loop-item l = l.conds.items ≡ events_of (take l.item-index l.items)

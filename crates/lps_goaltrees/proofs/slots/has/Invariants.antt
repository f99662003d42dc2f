use Rattle.std.proofs.Common.{drop}
use Rattle.std.specs.Prelude.{◌↔◌, Contains}
use Rattle.lps_goaltrees.proofs.slots.has.Given as goal

-- the wake is there where it is among those left
abbrev pub invariant-loop-other : goal.invariant-loop-other
invariant-loop-other l = Contains (drop l.other-index l.wakes) l.wake ↔ Contains l.wakes l.wake

use Rattle.std.proofs.Common.{drop, map}
use Rattle.std.specs.Prelude.{Contains}
use Rattle.lps_antecedents.specs.Slots.{held_of}
use Rattle.lps_antecedents.proofs.slot.place_of.Given as goal

-- where it lies, it lies in one of the slots that are left
abbrev pub invariant-loop-place : goal.invariant-loop-place
invariant-loop-place l = Contains (map held_of l.slots) l.held → Contains (map held_of (drop l.place l.slots)) l.held

use Rattle.std.proofs.Common.{◌≡◌, ◌+◌, ◌≤◌, drop, length}
use Rattle.lps_goaltrees.specs.declared.slot.Which.TheVariants.{Now}
use Rattle.lps_goaltrees.specs.Slots.{goals_of}
use Rattle.lps_goaltrees.proofs.slots.count.Given as goal

-- those so far, with those that are left, are all
abbrev pub invariant-loop-slot : goal.invariant-loop-slot
invariant-loop-slot l = (l.count ≤ l.slot-index) × (l.count + length (goals_of Now (drop l.slot-index l.slots)) ≡ length (goals_of Now l.slots))

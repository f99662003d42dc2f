use Rattle.std.proofs.Common.{take}
use Rattle.std.specs.List.{AllZip}
use Rattle.lps_goaltrees.specs.declared.slot.Which.TheVariants.{Now}
use Rattle.lps_goaltrees.specs.Offers.{IsAskedOf}
use Rattle.lps_goaltrees.specs.Slots.{goals_of}
use Rattle.lps_goaltrees.proofs.asked.ask_all.Given as goal

-- the first ones are asked
abbrev pub invariant-loop-slot : goal.invariant-loop-slot
invariant-loop-slot l = AllZip (IsAskedOf l.text l.time) (goals_of Now (take l.slot-index l.slots)) l.asked.items

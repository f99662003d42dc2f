use Rattle.std.proofs.Common.{◌≡◌, take}
use Rattle.lps_sizes.specs.Sizes.{limited}
use Rattle.lps_goaltrees.specs.declared.slot.Which.TheVariants.{Now}
use Rattle.lps_goaltrees.specs.Pursued.{goals_size}
use Rattle.lps_goaltrees.specs.Slots.{goals_of}
use Rattle.lps_goaltrees.proofs.symbols.symbols.Given as goal

-- the symbols of the goals so far
abbrev pub invariant-loop-slot : goal.invariant-loop-slot
invariant-loop-slot l = l.count ≡ limited (goals_size (goals_of Now (take l.slot-index l.slots)))

use Rattle.std.proofs.Common.{◌≡◌, ◌+◌, drop}
use Rattle.lps_sizes.specs.Sizes.{limited}
use Rattle.lps_antecedents.specs.Slots.{held_size, waiting_in}
use Rattle.lps_antecedents.proofs.symbols.symbols_in.Given as goal

-- those so far, and those that are left
abbrev pub invariant-loop-slot : goal.invariant-loop-slot
invariant-loop-slot l = record {
  counts : limited l.count ≡ l.count;
  all : limited (l.count + held_size (waiting_in (drop l.slot-index l.slots))) ≡ limited (held_size (waiting_in l.slots));
}

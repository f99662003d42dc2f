use Rattle.std.proofs.Common.{◌≡◌, ◌+◌}
use Rattle.lps_sizes.specs.Sizes.{limited}
use Rattle.lps_antecedents.specs.Buckets.{slots_of, waiting}
use Rattle.lps_antecedents.specs.Slots.{held_size}
use Rattle.lps_antecedents.proofs.Focus.{values_as}
use Rattle.lps_antecedents.proofs.symbols.symbols.Given as goal

-- those so far, and those in the buckets that are left
abbrev pub invariant-loop-slots : goal.invariant-loop-slots
invariant-loop-slots l = record {
  counts : limited l.count ≡ l.count;
  all : limited (l.count + held_size (waiting (values_as (λ v. v.items) l.slots-iterator))) ≡ limited (held_size (waiting (slots_of l.by_wake)));
}

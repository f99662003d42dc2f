use Rattle.std.proofs.Common.{◌≡◌, ◌++◌, map}
use Rattle.lps_antecedents.specs.Buckets.{slots_of, waiting}
use Rattle.lps_antecedents.proofs.Focus.{values_as}
use Rattle.lps_antecedents.proofs.buckets.Buckets.waiting.Given as goal

-- those so far, and those in the buckets that are left
abbrev pub invariant-loop-slots : goal.invariant-loop-slots
invariant-loop-slots l = map (λ h. h.now) l.all.items ++ waiting (values_as (λ v. v.items) l.slots-iterator) ≡ waiting (slots_of l.self.by_wake)

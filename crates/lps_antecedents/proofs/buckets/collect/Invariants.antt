use Rattle.std.proofs.Common.{◌≡◌, ◌++◌, drop, map}
use Rattle.lps_antecedents.specs.Slots.{waiting_in}
use Rattle.lps_antecedents.proofs.buckets.collect.Given as goal

-- those so far, and those that are left
abbrev pub invariant-loop-slot : goal.invariant-loop-slot
invariant-loop-slot l = map (λ h. h.now) l.all.items ++ waiting_in (drop l.slot-index l.slots) ≡ map (λ h. h.now) l.fn.all.items ++ waiting_in l.slots

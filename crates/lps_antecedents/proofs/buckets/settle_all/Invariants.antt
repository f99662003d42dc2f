use Rattle.std.proofs.Common.{◌≡◌, drop}
use Rattle.lps_terms.specs.declared.text.Text.{Text}
use Rattle.lps_antecedents.specs.Buckets.{AreReadyIn, IsSound, kept, slots_of, waiting}
use Rattle.lps_antecedents.proofs.buckets.settle_all.Given as goal

-- only the buckets of the wakes that are left may be changed
abbrev pub invariant-loop-wake : goal.invariant-loop-wake
invariant-loop-wake l = record {
  sound : IsSound (slots_of l.by_wake) l.watch (drop l.wake-index l.changed);
  waits : waiting (slots_of l.by_wake) ≡ waiting (slots_of l.fn.by_wake);
  ready : (text : Text) → AreReadyIn text (kept (slots_of l.fn.by_wake)) → AreReadyIn text (kept (slots_of l.by_wake));
}

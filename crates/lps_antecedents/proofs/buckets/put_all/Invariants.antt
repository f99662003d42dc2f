use Rattle.std.proofs.Common.{◌≡◌}
use Rattle.std.specs.Prelude.{◌⊎◌, ◌↔◌, Contains}
use Rattle.lps_residual.specs.Moments.{IsReady}
use Rattle.lps_antecedents.specs.declared.held.Held.{Held}
use Rattle.lps_antecedents.specs.Buckets.{AreReadyIn, IsSoundOf, kept, slots_of, waited, waiting}
use Rattle.lps_antecedents.proofs.buckets.put_all.Given as goal

-- those that wait, and those that are left to be put in
abbrev pub invariant-loop-held : goal.invariant-loop-held
invariant-loop-held l = record {
  waits : (x : Held) → (Contains (waiting (slots_of l.buckets.by_wake)) x ⊎ Contains l.held-iterator.rest.items x) ↔ (Contains (waiting (slots_of l.fn.buckets.by_wake)) x ⊎ Contains l.fn.all.items x);
  waited : waited (slots_of l.buckets.by_wake) ≡ waited (slots_of l.fn.buckets.by_wake);
  ready : (h : Held) → Contains l.held-iterator.rest.items h → IsReady l.program h.node;
  sound : IsSoundOf l.buckets;
  kept : AreReadyIn l.program (kept (slots_of l.buckets.by_wake));
}

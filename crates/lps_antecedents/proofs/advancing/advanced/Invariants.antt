use Rattle.std.proofs.Common.{◌≡◌, drop, take}
use Rattle.std.specs.Prelude.{◌⊎◌, ◌↔◌, Contains}
use Rattle.lps_facts.specs.Facts.{members}
use Rattle.lps_meaning.specs.declared.goal.GoalKey.{GoalKey}
use Rattle.lps_residual.specs.Moments.{IsReady}
use Rattle.lps_antecedents.specs.declared.held.Held.{Held}
use Rattle.lps_antecedents.specs.Advancing.{BySome, LiesInSome, OverAll}
use Rattle.lps_antecedents.specs.Buckets.{ChangesOnly, kept, slots_of, waiting}
use Rattle.lps_antecedents.proofs.advancing.advanced.Given as goal

-- what is gathered and waits so far, with what those in the buckets that are left give
abbrev pub invariant-loop-wake : goal.invariant-loop-wake
invariant-loop-wake l = record {
  same : l.bindings ≡ l.fn.bindings;
  changes : ChangesOnly (take l.wake-index l.wakes) (slots_of l.fn.by_wake) (slots_of l.by_wake);
  ready : (h : Held) → Contains l.gathered.held.items h → IsReady l.program h.node;
  gathered : OverAll l.program l.time (members l.facts) l.events (LiesInSome l.wakes (kept (slots_of l.fn.by_wake))) (λ goes ends.
      ((o : Held) → ((Contains l.gathered.held.items o ⊎ Contains (waiting (slots_of l.by_wake)) o) ⊎ BySome (LiesInSome (drop l.wake-index l.wakes) (kept (slots_of l.fn.by_wake))) goes o)
      ↔ (Contains (waiting (slots_of l.fn.by_wake)) o ⊎ BySome (LiesInSome l.wakes (kept (slots_of l.fn.by_wake))) goes o))
      × ((key : GoalKey) → (Contains l.gathered.keys.keys key ⊎ BySome (LiesInSome (drop l.wake-index l.wakes) (kept (slots_of l.fn.by_wake))) ends key)
      ↔ BySome (LiesInSome l.wakes (kept (slots_of l.fn.by_wake))) ends key));
}

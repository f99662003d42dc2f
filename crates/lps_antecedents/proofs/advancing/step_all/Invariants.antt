use Rattle.std.proofs.Common.{◌≡◌, drop, length, map, take}
use Rattle.std.specs.Prelude.{◌⊎◌, ◌↔◌, Contains}
use Rattle.lps_facts.specs.Facts.{members}
use Rattle.lps_meaning.specs.declared.goal.GoalKey.{GoalKey}
use Rattle.lps_residual.specs.Moments.{IsReady}
use Rattle.lps_antecedents.specs.declared.held.Held.{Held}
use Rattle.lps_antecedents.specs.Advancing.{OverAll}
use Rattle.lps_antecedents.specs.Lists.{ByOne}
use Rattle.lps_antecedents.specs.Slots.{before_in, held_of, waiting_in}
use Rattle.lps_antecedents.proofs.advancing.step_all.Given as goal

-- what is gathered and waits so far, with what those that are left give
abbrev pub invariant-loop-place : goal.invariant-loop-place
invariant-loop-place l = record {
  same : l.bindings ≡ l.fn.bindings;
  size : length l.slots.items ≡ length l.fn.slots.items;
  before : before_in l.slots.items ≡ before_in l.fn.slots.items;
  left : drop l.place l.slots.items ≡ drop l.place l.fn.slots.items;
  ready : ((h : Held) → Contains l.fn.gathered.held.items h → IsReady l.program h.node) → (h : Held) → Contains l.gathered.held.items h → IsReady l.program h.node;
  stepped : OverAll l.program l.time (members l.facts) l.events (Contains (map held_of l.fn.slots.items)) (λ goes ends.
      ((o : Held) → ((Contains l.gathered.held.items o ⊎ Contains (waiting_in (take l.place l.slots.items)) o) ⊎ ByOne (map held_of (drop l.place l.fn.slots.items)) goes o)
      ↔ (Contains l.fn.gathered.held.items o ⊎ ByOne (map held_of l.fn.slots.items) goes o))
      × ((key : GoalKey) → (Contains l.gathered.keys.keys key ⊎ ByOne (map held_of (drop l.place l.fn.slots.items)) ends key)
      ↔ (Contains l.fn.gathered.keys.keys key ⊎ ByOne (map held_of l.fn.slots.items) ends key)));
}

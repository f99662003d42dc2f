-- What lies in a bucket: those that wait now, and those that waited before the last cycle.
use Rattle.std.specs.Prelude.{◌≡◌, ⊤, ◌&&◌, ℕ, Bool, true, cond, List, [], ◌∷◌, Some, slice_get, sum_by, map, Contains}
use Rattle.lps_nodes.specs.Nodes.{node_size}
use Rattle.lps_antecedents.specs.declared.held.Held.{Held}
use Rattle.lps_antecedents.specs.declared.slot.Slot.{Slot}
use Rattle.lps_antecedents.specs.Lists.{Gains}

abbrev pub held_of : Slot → Held
held_of slot = slot.held

-- what lies in the slots that meet a test
abbrev pub held_where : (Slot → Bool) → List Slot → List Held
held_where test [] = []
held_where test (slot ∷ slots) = cond (test slot) (slot.held ∷ held_where test slots) (held_where test slots)

-- those that wait now
abbrev pub waiting_in : List Slot → List Held
waiting_in slots = held_where (λ slot. slot.waits) slots

-- those that waited before
abbrev pub waited_in : List Slot → List Held
waited_in slots = held_where (λ slot. slot.waited) slots

-- all that lies there, and whether it waited before
abbrev pub before_in : List Slot → List (Held × Bool)
before_in slots = map (λ slot. (slot.held, slot.waited)) slots

-- no two are the same
abbrev pub AreApart : List Held → Type 0
AreApart [] = ⊤
AreApart (one ∷ others) = (Contains others one → ⊥) × AreApart others

-- the size of some together
abbrev pub held_size : List Held → ℕ
held_size all = sum_by (λ (h : Held). node_size h.node) all

-- ---- changes

-- one that waited before is switched on, or off; any other is off
abbrev pub switched : Bool → Slot → Slot
switched on slot = record { held = slot.held; waited = slot.waited; waits = on && slot.waited }

-- it waits, and waited before
abbrev pub IsSettled : Slot → Type 0
IsSettled slot = (slot.waited ≡ true) × (slot.waits ≡ true)

-- those that wait now waited before, and the others are gone
abbrev pub left_settled : List Slot → List Slot
left_settled [] = []
left_settled (slot ∷ slots) = cond slot.waits (record { held = slot.held; waited = slot.waits; waits = slot.waits } ∷ left_settled slots) (left_settled slots)

-- it lies there
abbrev pub IsHeldAt : List Slot → ℕ → Held → Type 0
IsHeldAt slots place held = (slot : Slot) × (slice_get slots place ≡ Some slot) × (slot.held ≡ held)

-- one more waits now
pub record IsAdded (held : Held) (old new : List Slot) : Type 0 where
  pub waited : waited_in new ≡ waited_in old
  pub waits : Gains (waiting_in old) (waiting_in new) (λ h. h ≡ held)
  pub lies : Gains (map held_of old) (map held_of new) (λ h. h ≡ held)
  pub apart : AreApart (map held_of old) → AreApart (map held_of new)

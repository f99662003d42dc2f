-- The goals that have changed and are closed are all that are closed.
use Rattle.std.proofs.Common.{◌≡◌, ◌∙◌, ℕ, List, refl, sym, ap, inl, inr}
use Rattle.std.specs.Prelude.{◌↔◌, Contains, Option, Some, None}
use Rattle.std.specs.List.{filter_map}
use Rattle.std.specs.List.Sorted.{IsStrictlySortedBy}
use Rattle.std.specs.Ordering.{nat_cmp, on}
use Rattle.lps_meaning.specs.declared.goal.Closed.{Closed}
use Rattle.lps_meaning.specs.declared.goal.GoalId.{GoalId}
use Rattle.lps_goaltrees.specs.declared.goal.Goal.{Goal}
use Rattle.lps_goaltrees.specs.declared.slot.Slot.{Slot}
use Rattle.lps_goaltrees.specs.declared.slot.Which.TheVariants as w
use Rattle.lps_goaltrees.specs.declared.table.Table.{Table}
use Rattle.lps_goaltrees.specs.Pursued.{closed_as, closing_of, with_number}
use Rattle.lps_goaltrees.specs.Slots.{IsStored, closing_at, closing_with, goals_of, version, version_at}
use Rattle.lps_goaltrees.proofs.Closing.{closing_is}
use Rattle.lps_goaltrees.proofs.Lists.{of_chosen, rising_chosen, some_none, to_chosen}
use Rattle.lps_goaltrees.proofs.Places.{of_version, version_of}

-- a goal with a number that is closed so
closing_goal : (number : ℕ) (goal : Option Goal) (p : GoalId × Closed) → closing_with number goal ≡ Some p → (one : Goal) × (goal ≡ Some one) × (with_number (record { 0 = number }) (closed_as one) ≡ Some p)
closing_goal number None p is = absurd (some_none (sym is))
closing_goal number (Some one) p is = (one, refl, is)

same_closing : (goal : Goal) (number : ℕ) → goal.goal.0 ≡ number → closing_of goal ≡ with_number (record { 0 = number }) (closed_as goal)
same_closing goal number same = ap (λ n. with_number (record { 0 = n }) (closed_as goal)) same

-- the number of what is closed is that of its goal
closing_number : (slots : List Slot) (number : ℕ) (p : GoalId × Closed) → closing_at slots number ≡ Some p → p.0.0 ≡ number
closing_number slots number p is =
    let m = closing_goal number (version_at w.Now slots number) p is in sym (ap (λ (n : GoalId). n.0) (closing_is (record { 0 = number }) p.0 (closed_as m.0) p.1 m.2).0)

pub closings_rise : (slots : List Slot) (numbers : List ℕ) → IsStrictlySortedBy nat_cmp numbers → IsStrictlySortedBy (on (λ (p : GoalId × Closed). p.0.0) nat_cmp) (filter_map (closing_at slots) numbers)
closings_rise slots numbers sorted = rising_chosen (closing_at slots) (λ n. n) (λ (p : GoalId × Closed). p.0.0) (closing_number slots) numbers sorted

module _ {limit next : ℕ} {table : Table} {changed : List ℕ} (slots : List Slot) (stored : IsStored w.Before limit next table changed slots) (p : GoalId × Closed) where
  pub exact_closings : Contains (filter_map (closing_at slots) changed) p ↔ ((goal : Goal) × Contains (goals_of w.Now slots) goal × (closing_of goal ≡ Some p))
  exact_closings = (
    λ there.
        let n = of_chosen (closing_at slots) changed p there in
        let g = closing_goal n.0 (version_at w.Now slots n.0) p n.2 in
        let s = of_version w.Now slots n.0 g.0 g.1 in (
          g.0,
          to_chosen (λ (slot : Slot). version w.Now slot.versions) slots s.0 g.0 s.1 s.3,
          same_closing g.0 n.0 ((stored.goals s.0 s.1 w.Now g.0 s.3).numbered ∙ s.2) ∙ g.2,
        ),
    λ m.
        let s = of_chosen (λ (slot : Slot). version w.Now slot.versions) slots m.0 m.1 in
        elim (stored.noted s.0 s.1) [
          | inl same ↦
              let pending = (stored.kept s.0 s.1 m.0 (ap (version w.Before) same.1 ∙ sym (ap (version w.Now) same.1) ∙ s.2)).1 in
              absurd (some_none (sym (closing_is m.0.goal p.0 (closed_as m.0) p.1 m.2).1 ∙ pending))
          | inr among ↦ to_chosen (closing_at slots) changed s.0.number p among
              (ap (closing_with s.0.number) (version_of w.Now slots stored.rising s.0 s.1 ∙ s.2)
              ∙ sym (same_closing m.0 s.0.number (stored.goals s.0 s.1 w.Now m.0 s.2).numbered) ∙ m.2)
        ],
  )

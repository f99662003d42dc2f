-- What is kept of goals once they are settled, cleaned up and closed.
use Rattle.std.proofs.Common.{◌≡◌, ◌<◌, ◌∙◌, ℕ, Bool, true, false, cond, List, [], ◌∷◌, ◌++◌, map, refl, sym, ap, subst, inl, inr}
use Rattle.std.specs.Prelude.{◌⊎◌, Contains, Option, Some, None}
use Rattle.std.specs.List.{cons_option, filter}
use Rattle.lps_model.proofs.Elements.{first_or_later, nothing_contained}
use Rattle.lps_meaning.specs.Reports.{is_pending}
use Rattle.lps_residual.specs.declared.waking.Wake.{Wake}
use Rattle.lps_goaltrees.specs.declared.goal.Goal.{Goal}
use Rattle.lps_goaltrees.specs.declared.slot.Change.{Change}
use Rattle.lps_goaltrees.specs.declared.slot.Change.TheVariants as act
use Rattle.lps_goaltrees.specs.declared.slot.Slot.{Slot}
use Rattle.lps_goaltrees.specs.declared.slot.Versions.{Versions}
use Rattle.lps_goaltrees.specs.declared.slot.Versions.TheVariants as v
use Rattle.lps_goaltrees.specs.declared.slot.Which.{Which}
use Rattle.lps_goaltrees.specs.declared.slot.Which.TheVariants as w
use Rattle.lps_goaltrees.specs.declared.table.Table.{Table}
use Rattle.lps_goaltrees.specs.Pursued.{closed_as}
use Rattle.lps_goaltrees.specs.Slots.{ArePending, AreRising, IsCleaned, IsGoalOf, IsSame, IsStored, changed_at, changed_by, closed_versions, goals_of, is_used, is_used_by, pending_goals, pending_only, version, version_at, wakes_of}
use Rattle.lps_goaltrees.proofs.Closing.{pending_is}
use Rattle.lps_goaltrees.proofs.Lists.{of_filtered, some_none, some_same}
use Rattle.lps_goaltrees.proofs.Places.{chosen_alike, chosen_mapped, here_or_elsewhere, of_mapped, rising_mapped, same_number, version_mapped, version_of}

pub append_none : {X : Type 0} (xs : List X) → xs ++ [] ≡ xs
append_none [] = refl
append_none (x ∷ xs) = ap (λ ys. x ∷ ys) (append_none xs)

-- ---- one change of one goal

-- a version of the slot once it is changed
changed_version : (change : Change) (number : ℕ) (slot : Slot) (kind : Which) →
    ((slot.number ≡ number) × (version kind (changed_at change number slot).versions ≡ version kind (changed_by change slot.versions)))
    ⊎ ((slot.number ≡ number → ⊥) × (version kind (changed_at change number slot).versions ≡ version kind slot.versions))
changed_version change number slot kind = elim (here_or_elsewhere change number slot) [
  | inl here ↦ inl (here.0, ap (λ (s : Slot). version kind s.versions) here.1)
  | inr elsewhere ↦ inr (elsewhere.0, ap (λ (s : Slot). version kind s.versions) elsewhere.1)
]

-- no change but that to another goal makes a version that was not there
pub no_new_version : (which : Which) (versions : Versions) (kind : Which) (goal : Goal) → version kind (changed_by (act.Settle which) versions) ≡ Some goal → version which versions ≡ Some goal
no_new_version which versions w.Now goal is = is
no_new_version which versions w.Before goal is = is

settled_version : (which : Which) (versions : Versions) → version which (changed_by (act.Settle which) versions) ≡ version which versions
settled_version w.Now versions = refl
settled_version w.Before versions = refl

-- what is noted of a slot: it has not changed, or its number is among these
noted_later : (n : ℕ) (left : List ℕ) (slot : Slot) → (slot.number ≡ n → ⊥) → IsSame slot.versions ⊎ Contains (n ∷ left) slot.number → IsSame slot.versions ⊎ Contains left slot.number
noted_later n left slot other (inl same) = inl same
noted_later n left slot other (inr among) = elim (first_or_later n left slot.number among) [
  | inl e ↦ absurd (other (sym e))
  | inr later ↦ inr later
]

-- ---- settling

pub settled_goals : (which : Which) (number : ℕ) (slots : List Slot) → goals_of which (map (changed_at (act.Settle which) number) slots) ≡ goals_of which slots
settled_goals which number slots =
    chosen_mapped (λ (slot : Slot). version which slot.versions) (changed_at (act.Settle which) number) slots (λ slot there. elim (changed_version (act.Settle which) number slot which) [
      | inl here ↦ here.1 ∙ settled_version which slot.versions
      | inr elsewhere ↦ elsewhere.1
    ])

pub settled_found : (which : Which) (number : ℕ) (slots : List Slot) (n : ℕ) → version_at which (map (changed_at (act.Settle which) number) slots) n ≡ version_at which slots n
settled_found which number slots n = version_mapped which (changed_at (act.Settle which) number) slots (same_number (act.Settle which) number) (λ slot. elim (changed_version (act.Settle which) number slot which) [
  | inl here ↦ here.1 ∙ settled_version which slot.versions
  | inr elsewhere ↦ elsewhere.1
]) n

module _ (which : Which) (limit next : ℕ) (table : Table) (number : ℕ) (left : List ℕ) (slots : List Slot) where
  abbrev settle : Slot → Slot
  settle slot = changed_at (act.Settle which) number slot

  pub settled : IsStored which limit next table (number ∷ left) slots → IsStored which limit next table left (map settle slots)
  settled was = record {
    rising = rising_mapped settle (same_number (act.Settle which) number) slots was.rising;
    below = λ slot there. let m = of_mapped settle slots slot there in
        subst (λ (s : Slot). s.number < next) m.2 (subst (λ n. n < next) (sym (same_number (act.Settle which) number m.0)) (was.below m.0 m.1));
    goals = λ slot there. let m = of_mapped settle slots slot there in
        subst (λ (s : Slot). (kind : Which) (goal : Goal) → version kind s.versions ≡ Some goal → IsGoalOf table s.number goal) m.2 (goals m.0 m.1);
    noted = λ slot there. let m = of_mapped settle slots slot there in
        subst (λ (s : Slot). IsSame s.versions ⊎ Contains left s.number) m.2 (noted m.0 (was.noted m.0 m.1));
    kept = λ slot there. let m = of_mapped settle slots slot there in
        subst (λ (s : Slot). (goal : Goal) → version which s.versions ≡ Some goal → (s.number < limit) × (closed_as goal ≡ None)) m.2 (kept m.0 m.1);
  }
    where
      at_number : (slot : Slot) (goal : Goal) → IsGoalOf table slot.number goal → IsGoalOf table (settle slot).number goal
      at_number slot goal is = subst (λ n. IsGoalOf table n goal) (sym (same_number (act.Settle which) number slot)) is

      goals : (slot : Slot) → Contains slots slot → (kind : Which) (goal : Goal) → version kind (settle slot).versions ≡ Some goal → IsGoalOf table (settle slot).number goal
      goals slot there kind goal is = elim (changed_version (act.Settle which) number slot kind) [
        | inl here ↦ at_number slot goal (was.goals slot there which goal (no_new_version which slot.versions kind goal (sym here.1 ∙ is)))
        | inr elsewhere ↦ at_number slot goal (was.goals slot there kind goal (sym elsewhere.1 ∙ is))
      ]

      noted : (slot : Slot) → IsSame slot.versions ⊎ Contains (number ∷ left) slot.number → IsSame (settle slot).versions ⊎ Contains left (settle slot).number
      noted slot is = elim (here_or_elsewhere (act.Settle which) number slot) [
        | inl here ↦ inl (version which slot.versions, ap (λ (s : Slot). s.versions) here.1)
        | inr elsewhere ↦ subst (λ (s : Slot). IsSame s.versions ⊎ Contains left s.number) (sym elsewhere.1) (noted_later number left slot elsewhere.0 is)
      ]

      kept : (slot : Slot) → Contains slots slot → (goal : Goal) → version which (settle slot).versions ≡ Some goal → ((settle slot).number < limit) × (closed_as goal ≡ None)
      kept slot there goal is =
          let before : version which slot.versions ≡ Some goal = elim (changed_version (act.Settle which) number slot which) [
            | inl here ↦ sym (settled_version which slot.versions) ∙ sym here.1 ∙ is
            | inr elsewhere ↦ sym elsewhere.1 ∙ is
          ] in
          let k = was.kept slot there goal before in (subst (λ n. n < limit) (sym (same_number (act.Settle which) number slot)) k.0, k.1)

-- where nothing is noted, nothing has changed
pub all_same : {which : Which} {limit next : ℕ} {table : Table} {slots : List Slot} → IsStored which limit next table [] slots → (slot : Slot) → Contains slots slot → IsSame slot.versions
all_same stored slot there = elim (stored.noted slot there) [
  | inl same ↦ same
  | inr among ↦ absurd (nothing_contained slot.number among)
]

pub one_version : (slots : List Slot) → ((slot : Slot) → Contains slots slot → IsSame slot.versions) → (one two : Which) → goals_of one slots ≡ goals_of two slots
one_version slots same one two = chosen_alike (λ (slot : Slot). version one slot.versions) (λ (slot : Slot). version two slot.versions) slots (λ slot there.
    let s = same slot there in ap (version one) s.1 ∙ sym (ap (version two) s.1))

-- ---- cleaning up

module _ (number : ℕ) (slots : List Slot) where
  abbrev clean : Slot → Slot
  clean slot = changed_at act.Clean number slot

  same_versions : (slot : Slot) → (clean slot).versions ≡ slot.versions
  same_versions slot = elim (here_or_elsewhere act.Clean number slot) [
    | inl here ↦ ap (λ (s : Slot). s.versions) here.1
    | inr elsewhere ↦ ap (λ (s : Slot). s.versions) elsewhere.1
  ]

  pub cleaned_goals : (which : Which) → goals_of which (map clean slots) ≡ goals_of which slots
  cleaned_goals which = chosen_mapped (λ (slot : Slot). version which slot.versions) clean slots (λ slot there. ap (version which) (same_versions slot))

  pub cleaned : (old new : Table) → IsCleaned number slots old new → (which : Which) (limit next : ℕ) (noted : List ℕ) → IsStored which limit next old noted slots →
      IsStored which limit next new noted (map clean slots)
  cleaned old new less which limit next noted was = record {
    rising = rising_mapped clean (same_number act.Clean number) slots was.rising;
    below = λ slot there. let m = of_mapped clean slots slot there in
        subst (λ (s : Slot). s.number < next) m.2 (subst (λ n. n < next) (sym (same_number act.Clean number m.0)) (was.below m.0 m.1));
    goals = λ slot there. let m = of_mapped clean slots slot there in
        subst (λ (s : Slot). (kind : Which) (goal : Goal) → version kind s.versions ≡ Some goal → IsGoalOf new s.number goal) m.2 (goals m.0 m.1);
    noted = λ slot there. let m = of_mapped clean slots slot there in
        subst (λ (s : Slot). IsSame s.versions ⊎ Contains noted s.number) m.2
        (subst (λ vs. IsSame vs ⊎ Contains noted (clean m.0).number) (sym (same_versions m.0)) (subst (λ n. IsSame m.0.versions ⊎ Contains noted n) (sym (same_number act.Clean number m.0)) (was.noted m.0 m.1)));
    kept = λ slot there. let m = of_mapped clean slots slot there in
        subst (λ (s : Slot). (goal : Goal) → version which s.versions ≡ Some goal → (s.number < limit) × (closed_as goal ≡ None)) m.2
        (λ goal is. let k = was.kept m.0 m.1 goal (ap (version which) (sym (same_versions m.0)) ∙ is) in (subst (λ n. n < limit) (sym (same_number act.Clean number m.0)) k.0, k.1));
  }
    where
      -- what wakes a version of the goal with the number still does
      among : (slot : Slot) → Contains slots slot → (kind : Which) (goal : Goal) → version kind slot.versions ≡ Some goal → (wake : Wake) → Contains goal.wakes wake → slot.number ≡ number →
          Contains (wakes_of (version_at w.Before slots number)) wake ⊎ Contains (wakes_of (version_at w.Now slots number)) wake
      among slot there kind goal is wake woken same = by kind is
        where
          at : (kind : Which) → version kind slot.versions ≡ Some goal → Contains (wakes_of (version_at kind slots number)) wake
          at kind is = subst (λ n. Contains (wakes_of (version_at kind slots n)) wake) same
              (subst (λ g. Contains (wakes_of g) wake) (sym (version_of kind slots was.rising slot there ∙ is)) woken)

          by : (kind : Which) → version kind slot.versions ≡ Some goal → Contains (wakes_of (version_at w.Before slots number)) wake ⊎ Contains (wakes_of (version_at w.Now slots number)) wake
          by w.Before is = inl (at w.Before is)
          by w.Now is = inr (at w.Now is)

      goals : (slot : Slot) → Contains slots slot → (kind : Which) (goal : Goal) → version kind (clean slot).versions ≡ Some goal → IsGoalOf new (clean slot).number goal
      goals slot there kind goal is =
          let before : version kind slot.versions ≡ Some goal = ap (version kind) (sym (same_versions slot)) ∙ is in
          let g = was.goals slot there kind goal before in
          subst (λ n. IsGoalOf new n goal) (sym (same_number act.Clean number slot)) (record {
            numbered = g.numbered;
            woken = λ wake woken. less wake slot.number (g.woken wake woken) (among slot there kind goal before wake woken);
          })

-- ---- slots without a version

module _ (slots : List Slot) where
  unused : (slot : Slot) → is_used slot ≡ false → (which : Which) → version which slot.versions ≡ None
  unused slot none which = by slot.versions none
    where
      by : (versions : Versions) → is_used_by versions ≡ false → version which versions ≡ None
      by (v.Same None) none = refl
      by (v.Same (Some goal)) none = absurd cc
      by (v.Changed before now) none = absurd cc

  pub swept : (which : Which) (limit next : ℕ) (table : Table) (noted : List ℕ) → AreRising (filter is_used slots) → IsStored which limit next table noted slots →
      IsStored which limit next table noted (filter is_used slots)
  swept which limit next table noted rising was =
      let back : (slot : Slot) → Contains (filter is_used slots) slot → Contains slots slot = λ slot there. (of_filtered is_used slots slot there).0 in
      record {
        rising = rising;
        below = λ slot there. was.below slot (back slot there);
        goals = λ slot there. was.goals slot (back slot there);
        noted = λ slot there. was.noted slot (back slot there);
        kept = λ slot there. was.kept slot (back slot there);
      }

pub swept_goals : (which : Which) (slots : List Slot) → goals_of which (filter is_used slots) ≡ goals_of which slots
swept_goals which [] = refl
swept_goals which (slot ∷ slots) = by (is_used slot) refl (swept_goals which slots)
  where
    by : (b : Bool) → is_used slot ≡ b → goals_of which (filter is_used slots) ≡ goals_of which slots →
        goals_of which (cond b (slot ∷ filter is_used slots) (filter is_used slots)) ≡ cons_option (version which slot.versions) (goals_of which slots)
    by true used rest = ap (cons_option (version which slot.versions)) rest
    by false none rest = rest ∙ ap (λ g. cons_option g (goals_of which slots)) (sym (unused slots slot none which))

-- a slot that is used and has not changed has each version
pub used_same : (slot : Slot) → is_used slot ≡ true → IsSame slot.versions → (which : Which) → (goal : Goal) × (version which slot.versions ≡ Some goal)
used_same slot used same which = by same.0 same.1
  where
    by : (g : Option Goal) → slot.versions ≡ v.Same g → (goal : Goal) × (version which slot.versions ≡ Some goal)
    by None is = absurd (false_true (ap is_used_by (sym is) ∙ used))
      where
        false_true : false ≡ true → ⊥
        false_true e = cc
    by (Some goal) is = (goal, ap (version which) is)

-- ---- closing

pending_once : (goal : Option Goal) → pending_only (pending_only goal) ≡ pending_only goal
pending_once None = refl
pending_once (Some goal) = by (is_pending (closed_as goal)) refl
  where
    by : (b : Bool) → is_pending (closed_as goal) ≡ b → pending_only (cond b (Some goal) None) ≡ cond b (Some goal) None
    by true is = ap (λ (b : Bool). cond b (Some goal) None) is
    by false is = refl

pub pending_alone : (goal : Option Goal) (one : Goal) → pending_only goal ≡ Some one → closed_as one ≡ None
pending_alone None one is = absurd (some_none (sym is))
pending_alone (Some goal) one is = by (is_pending (closed_as goal)) refl is
  where
    by : (b : Bool) → is_pending (closed_as goal) ≡ b → cond b (Some goal) None ≡ Some one → closed_as one ≡ None
    by true pending is = subst (λ (g : Goal). closed_as g ≡ None) (some_same is) (pending_is (closed_as goal) pending)
    by false closed is = absurd (some_none (sym is))

pub pending_stays : (goal : Option Goal) → ((one : Goal) → goal ≡ Some one → closed_as one ≡ None) → pending_only goal ≡ goal
pending_stays None pending = refl
pending_stays (Some goal) pending = ap (λ status. cond (is_pending status) (Some goal) None) (pending goal refl)

closed_pending : (versions : Versions) → pending_only (version w.Now (closed_versions versions)) ≡ pending_only (version w.Now versions)
closed_pending (v.Same goal) = refl
closed_pending (v.Changed before now) = pending_once now

closed_before : (versions : Versions) → version w.Before (closed_versions versions) ≡ version w.Before versions
closed_before (v.Same goal) = refl
closed_before (v.Changed before now) = refl

closed_same : (versions : Versions) → IsSame versions → IsSame (closed_versions versions)
closed_same (v.Same goal) same = same
closed_same (v.Changed before now) same = absurd (changed_same before now same.0 same.1)
  where
    changed_same : (before now goal : Option Goal) → v.Changed before now ≡ v.Same goal → ⊥
    changed_same before now goal e = cc

-- a version of a slot that is closed was there before
of_closed : (versions : Versions) (kind : Which) (goal : Goal) → version kind (closed_versions versions) ≡ Some goal → version kind versions ≡ Some goal
of_closed (v.Same one) kind goal is = is
of_closed (v.Changed before now) w.Before goal is = is
of_closed (v.Changed before None) w.Now goal is = absurd (some_none (sym is))
of_closed (v.Changed before (Some one)) w.Now goal is = by (is_pending (closed_as one)) is
  where
    by : (b : Bool) → cond b (Some one) None ≡ Some goal → Some one ≡ Some goal
    by true is = is
    by false is = absurd (some_none (sym is))

-- each goal is pending now, or its number is left
abbrev pub AreClosedBut : List ℕ → List Slot → Type 0
AreClosedBut left slots = (slot : Slot) → Contains slots slot → ((goal : Goal) → version w.Now slot.versions ≡ Some goal → closed_as goal ≡ None) ⊎ Contains left slot.number

-- at first the numbers that are noted are left
pub closed_but_noted : {limit next : ℕ} {table : Table} {changed : List ℕ} (slots : List Slot) → IsStored w.Before limit next table changed slots → AreClosedBut changed slots
closed_but_noted slots was slot there = elim (was.noted slot there) [
  | inl same ↦ inl (λ goal is. (was.kept slot there goal (ap (version w.Before) same.1 ∙ sym (ap (version w.Now) same.1) ∙ is)).1)
  | inr among ↦ inr among
]

pub closed_goals : (number : ℕ) (slots : List Slot) → pending_goals (map (changed_at act.Close number) slots) ≡ pending_goals slots
closed_goals number slots =
    chosen_mapped (λ (slot : Slot). pending_only (version w.Now slot.versions)) (changed_at act.Close number) slots (λ slot there. elim (changed_version act.Close number slot w.Now) [
      | inl here ↦ ap pending_only here.1 ∙ closed_pending slot.versions
      | inr elsewhere ↦ ap pending_only elsewhere.1
    ])

pub closed_before_goals : (number : ℕ) (slots : List Slot) → goals_of w.Before (map (changed_at act.Close number) slots) ≡ goals_of w.Before slots
closed_before_goals number slots =
    chosen_mapped (λ (slot : Slot). version w.Before slot.versions) (changed_at act.Close number) slots (λ slot there. elim (changed_version act.Close number slot w.Before) [
      | inl here ↦ here.1 ∙ closed_before slot.versions
      | inr elsewhere ↦ elsewhere.1
    ])

module _ (limit next : ℕ) (table : Table) (changed : List ℕ) (number : ℕ) (left : List ℕ) (slots : List Slot) where
  abbrev close : Slot → Slot
  close slot = changed_at act.Close number slot

  pub closed : IsStored w.Before limit next table changed slots → IsStored w.Before limit next table changed (map close slots)
  closed was = record {
    rising = rising_mapped close (same_number act.Close number) slots was.rising;
    below = λ slot there. let m = of_mapped close slots slot there in
        subst (λ (s : Slot). s.number < next) m.2 (subst (λ n. n < next) (sym (same_number act.Close number m.0)) (was.below m.0 m.1));
    goals = λ slot there. let m = of_mapped close slots slot there in
        subst (λ (s : Slot). (kind : Which) (goal : Goal) → version kind s.versions ≡ Some goal → IsGoalOf table s.number goal) m.2 (goals m.0 m.1);
    noted = λ slot there. let m = of_mapped close slots slot there in
        subst (λ (s : Slot). IsSame s.versions ⊎ Contains changed s.number) m.2 (noted m.0 (was.noted m.0 m.1));
    kept = λ slot there. let m = of_mapped close slots slot there in
        subst (λ (s : Slot). (goal : Goal) → version w.Before s.versions ≡ Some goal → (s.number < limit) × (closed_as goal ≡ None)) m.2 (kept m.0 m.1);
  }
    where
      goals : (slot : Slot) → Contains slots slot → (kind : Which) (goal : Goal) → version kind (close slot).versions ≡ Some goal → IsGoalOf table (close slot).number goal
      goals slot there kind goal is =
          let before : version kind slot.versions ≡ Some goal = elim (changed_version act.Close number slot kind) [
            | inl here ↦ of_closed slot.versions kind goal (sym here.1 ∙ is)
            | inr elsewhere ↦ sym elsewhere.1 ∙ is
          ] in
          subst (λ n. IsGoalOf table n goal) (sym (same_number act.Close number slot)) (was.goals slot there kind goal before)

      noted : (slot : Slot) → IsSame slot.versions ⊎ Contains changed slot.number → IsSame (close slot).versions ⊎ Contains changed (close slot).number
      noted slot (inr among) = inr (subst (Contains changed) (sym (same_number act.Close number slot)) among)
      noted slot (inl same) = elim (here_or_elsewhere act.Close number slot) [
        | inl here ↦ inl (subst (λ (s : Slot). IsSame s.versions) (sym here.1) (closed_same slot.versions same))
        | inr elsewhere ↦ inl (subst (λ (s : Slot). IsSame s.versions) (sym elsewhere.1) same)
      ]

      kept : (slot : Slot) → Contains slots slot → (goal : Goal) → version w.Before (close slot).versions ≡ Some goal → ((close slot).number < limit) × (closed_as goal ≡ None)
      kept slot there goal is =
          let before : version w.Before slot.versions ≡ Some goal = elim (changed_version act.Close number slot w.Before) [
            | inl here ↦ sym (closed_before slot.versions) ∙ sym here.1 ∙ is
            | inr elsewhere ↦ sym elsewhere.1 ∙ is
          ] in
          let k = was.kept slot there goal before in (subst (λ n. n < limit) (sym (same_number act.Close number slot)) k.0, k.1)

  pub closed_but : IsStored w.Before limit next table changed slots → AreClosedBut (number ∷ left) slots → AreClosedBut left (map close slots)
  closed_but was but slot there =
      let m = of_mapped close slots slot there in
      subst (λ (s : Slot). ((goal : Goal) → version w.Now s.versions ≡ Some goal → closed_as goal ≡ None) ⊎ Contains left s.number) m.2 (by m.0 m.1 (but m.0 m.1))
    where
      -- a changed goal is dropped where it is closed, and one that is not was pending before
      now : (slot : Slot) → Contains slots slot → (versions : Versions) → slot.versions ≡ versions → (goal : Goal) → version w.Now (closed_versions versions) ≡ Some goal → closed_as goal ≡ None
      now slot there (v.Same one) same goal is = (was.kept slot there goal (ap (version w.Before) same ∙ is)).1
      now slot there (v.Changed before one) same goal is = pending_alone one goal is

      by : (slot : Slot) → Contains slots slot → ((goal : Goal) → version w.Now slot.versions ≡ Some goal → closed_as goal ≡ None) ⊎ Contains (number ∷ left) slot.number →
          ((goal : Goal) → version w.Now (close slot).versions ≡ Some goal → closed_as goal ≡ None) ⊎ Contains left (close slot).number
      by slot there is = elim (changed_version act.Close number slot w.Now) [
        | inl here ↦ inl (λ goal now_is. now slot there slot.versions refl goal (sym here.1 ∙ now_is))
        | inr elsewhere ↦ elim is [
          | inl pending ↦ inl (λ goal now_is. pending goal (sym elsewhere.1 ∙ now_is))
          | inr among ↦ elim (first_or_later number left slot.number among) [
            | inl e ↦ absurd (elsewhere.0 (sym e))
            | inr later ↦ inr (subst (Contains left) (sym (same_number act.Close number slot)) later)
          ]
        ]
      ]

-- where nothing is left, each goal is pending
pub all_pending : (slots : List Slot) → AreClosedBut [] slots → ArePending slots
all_pending slots but slot there = elim (but slot there) [
  | inl pending ↦ pending
  | inr among ↦ absurd (nothing_contained slot.number among)
]

pub pending_are : (slots : List Slot) → ArePending slots → pending_goals slots ≡ goals_of w.Now slots
pending_are slots pending = chosen_alike (λ (slot : Slot). pending_only (version w.Now slot.versions)) (λ (slot : Slot). version w.Now slot.versions) slots
    (λ slot there. pending_stays (version w.Now slot.versions) (pending slot there))

abbrev is_open : Goal → Bool
is_open goal = is_pending (closed_as goal)

-- of the goals now, those that are pending
pub pending_filtered : (slots : List Slot) → pending_goals slots ≡ filter (λ goal. is_pending (closed_as goal)) (goals_of w.Now slots)
pending_filtered [] = refl
pending_filtered (slot ∷ slots) = by (version w.Now slot.versions) (pending_filtered slots)
  where
    by : (one : Option Goal) → pending_goals slots ≡ filter is_open (goals_of w.Now slots) → cons_option (pending_only one) (pending_goals slots) ≡ filter is_open (cons_option one (goals_of w.Now slots))
    by None rest = rest
    by (Some goal) rest = on (is_pending (closed_as goal)) rest
      where
        on : (b : Bool) → pending_goals slots ≡ filter is_open (goals_of w.Now slots) → cons_option (cond b (Some goal) None) (pending_goals slots) ≡ cond b (goal ∷ filter is_open (goals_of w.Now slots)) (filter is_open (goals_of w.Now slots))
        on true rest = ap (λ goals. goal ∷ goals) rest
        on false rest = rest

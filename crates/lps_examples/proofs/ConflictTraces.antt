-- Two goals that want what may not happen at once: which denials are violated, and which goals there are and how they stand.
use Rattle.std.proofs.Common.{ℕ, zero, suc, ◌≡◌, ◌≤◌, ◌⊎◌, List, [], ◌∷◌, length, refl, sym, ap, subst, ◌∙◌, arith, inl, inr}
use Rattle.std.specs.Prelude.{Contains, codes}
use Rattle.std.specs.declared.cmp.Ordering.{Ordering}
use Rattle.std.specs.List.Sorted.{IsStrictlySortedBy}
use Rattle.lps_terms.specs.declared.atom.Atom.{Atom}
use Rattle.lps_model.specs.declared.trace.Trace.{Trace}
use Rattle.lps_model.specs.Trace.{events_at}
use Rattle.lps_model.proofs.Elements.{nothing_contained, first_or_later, first_is_contained, later_is_contained}
use Rattle.lps_meaning.specs.declared.goal.Closed.TheVariants as c
use Rattle.lps_meaning.specs.declared.goal.GoalKey.{GoalKey}
use Rattle.lps_meaning.specs.Cycles.{key_cmp, AreGoals}
use Rattle.lps_meaning.specs.Denials.{Violates, ViolatesNone, ViolatesNumber}
use Rattle.lps_meaning.specs.Goals.{IsGoal, IsClosed}
use Rattle.lps_examples.specs.Examples.{event_e, event_f, action_a, action_c}
use Rattle.lps_examples.specs.Conflicts.{conflict_text, conflict_denial, trace_with, picks_a, due_rule, due_key}
use Rattle.lps_examples.proofs.ExampleWalks.{other_letter, only_one, constants, constants_ground, only_numbered, small_atom}
use Rattle.lps_examples.proofs.OtherAlternative.{one_of_two}
use Rattle.lps_examples.proofs.DueRules as d
use Rattle.lps_examples.proofs.DueRules.{Due}

-- ---- atoms

pub e_not_f : event_e ≡ event_f → ⊥
e_not_f = other_letter event_e event_f 101 102 refl refl (λ e. omega (arith, e))

pub e_not_a : event_e ≡ action_a → ⊥
e_not_a = other_letter event_e action_a 101 97 refl refl (λ e. omega (arith, e))

pub e_not_c : event_e ≡ action_c → ⊥
e_not_c = other_letter event_e action_c 101 99 refl refl (λ e. omega (arith, e))

pub f_not_a : event_f ≡ action_a → ⊥
f_not_a = other_letter event_f action_a 102 97 refl refl (λ e. omega (arith, e))

pub f_not_c : event_f ≡ action_c → ⊥
f_not_c = other_letter event_f action_c 102 99 refl refl (λ e. omega (arith, e))

pub a_not_c : action_a ≡ action_c → ⊥
a_not_c = other_letter action_a action_c 97 99 refl refl (λ e. omega (arith, e))

pub neither : {X : Type 0} (x y q : X) → (x ≡ q → ⊥) → (y ≡ q → ⊥) → Contains (x ∷ y ∷ []) q → ⊥
neither x y q not_x not_y among = elim (first_or_later x (y ∷ []) q among) [ inl e ↦ not_x e | inr later ↦ not_y (only_one y q later) ]

-- ---- the denial

module _ (level : List ℕ → ℕ) (trace : Trace) (events : List Atom) where
  -- both actions violate it
  pub both_violate : Contains events action_a → Contains events action_c → ViolatesNumber conflict_text level trace events 1
  both_violate a c = (
    conflict_denial,
    refl,
    record {
      values = constants 0;
      times = times;
      all_ground = constants_ground 0;
      small = (small_atom (codes "a"), (small_atom (codes "c"), tt));
      met = ((refl, refl, a), ((refl, refl, c), tt));
    },
  )
    where
      times : ℕ → ℕ
      times zero = length trace.cycles
      times (suc v) = suc (length trace.cycles)

  -- and nothing else does
  pub needs_both : (k : ℕ) → ViolatesNumber conflict_text level trace events k → Contains events action_a × Contains events action_c
  needs_both k h =
      let v : Violates conflict_text level trace events conflict_denial =
      subst (λ items. Violates conflict_text level trace events items) (sym (only_numbered conflict_denial h.0 k h.1).1) h.2 in (v.met.0.2, v.met.1.0.2)

  pub without_a : (Contains events action_a → ⊥) → ViolatesNone conflict_text level trace events
  without_a none k h = none (needs_both k h).0

  pub without_c : (Contains events action_c → ⊥) → ViolatesNone conflict_text level trace events
  without_c none k h = none (needs_both k h).1

-- ---- goals

abbrev pub due_a : Due conflict_text
due_a = record { number = 1; event = codes "e"; action = codes "a"; plus = 2; of_text = refl; event_kind = refl; action_kind = refl }

abbrev pub due_c : Due conflict_text
due_c = record { number = 2; event = codes "f"; action = codes "c"; plus = 1; of_text = refl; event_kind = refl; action_kind = refl }

abbrev pub keys_at_one : List GoalKey
keys_at_one = due_key 1 1 ∷ due_key 2 1 ∷ []

abbrev pub keys_at_two : List GoalKey
keys_at_two = due_key 1 1 ∷ due_key 2 1 ∷ due_key 1 2 ∷ []

pub none_are_sorted : {K : Type 0} (cmp : K → K → Ordering) → IsStrictlySortedBy cmp []
unfolding IsStrictlySortedBy
none_are_sorted cmp = tt

two_sorted : IsStrictlySortedBy key_cmp keys_at_one
unfolding IsStrictlySortedBy
two_sorted = ((refl, tt), (tt, tt))

three_sorted : IsStrictlySortedBy key_cmp keys_at_two
unfolding IsStrictlySortedBy
three_sorted = ((refl, (refl, tt)), ((refl, tt), (tt, tt)))

-- nothing happens by 0, and what happens by 1 happens then
none_then : (k : ℕ) → k ≤ 0 → (trace : Trace) (a : Atom) → Contains (events_at trace k) a → ⊥
none_then zero upto trace a h = nothing_contained a h
none_then (suc k) upto trace a h = omega (arith, upto)

in_one : (k : ℕ) → k ≤ 1 → (trace : Trace) (a : Atom) → Contains (events_at trace k) a → 1 ≡ k
in_one zero upto trace a h = absurd (nothing_contained a h)
in_one (suc zero) upto trace a h = refl
in_one (suc (suc k)) upto trace a h = absurd (omega (arith, upto))

in_two : (k : ℕ) → k ≤ 2 → (trace : Trace) (a : Atom) → Contains (events_at trace k) a → (1 ≡ k) ⊎ (2 ≡ k)
in_two zero upto trace a h = absurd (nothing_contained a h)
in_two (suc zero) upto trace a h = inl refl
in_two (suc (suc zero)) upto trace a h = inr refl
in_two (suc (suc (suc k))) upto trace a h = absurd (omega (arith, upto))

pub one_of_three : {X : Type 0} (x y z q : X) → Contains (x ∷ y ∷ z ∷ []) q → (x ≡ q) ⊎ ((y ≡ q) ⊎ (z ≡ q))
one_of_three x y z q among =
    elim (first_or_later x (y ∷ z ∷ []) q among) [
      | inl e ↦ inl e
      | inr later ↦ elim (first_or_later y (z ∷ []) q later) [ inl e ↦ inr (inl e) | inr last ↦ inr (inr (only_one z q last)) ]
    ]

module _ (level : List ℕ → ℕ) where
  -- a goal is one of rule 1 that came with e, or one of rule 2 that came with f
  pub goal_among : (trace : Trace) (key : GoalKey) → IsGoal conflict_text level trace key →
      (Contains (events_at trace key.time) event_e × (due_key 1 key.time ≡ key)) ⊎ (Contains (events_at trace key.time) event_f × (due_key 2 key.time ≡ key))
  goal_among trace key g =
      elim (one_of_two (due_rule (codes "e") (codes "a") 2) (due_rule (codes "f") (codes "c") 1) g.rule key.rule g.of_text) [
        | inl one ↦ inl (d.goal_is conflict_text level trace due_a key one.0 g)
        | inr two ↦ inr (d.goal_is conflict_text level trace due_c key two.0 g)
      ]

  pub no_goals : (trace : Trace) → AreGoals conflict_text level trace 0 []
  no_goals trace = record {
    sorted = none_are_sorted key_cmp;
    exact = λ key. (
      (λ among. absurd (nothing_contained key among)),
      (λ g. elim (goal_among trace key g.1) [
        | inl one ↦ absurd (none_then key.time g.0 trace event_e one.0)
        | inr two ↦ absurd (none_then key.time g.0 trace event_f two.0)
      ]),
    );
  }

  -- the goals of cycle 1, whatever comes after it
  module _ (trace : Trace) (first : events_at trace 1 ≡ event_e ∷ event_f ∷ []) where
    goal_one : IsGoal conflict_text level trace (due_key 1 1)
    goal_one = d.is_goal conflict_text level trace due_a 0
        (subst (λ xs. Contains xs event_e) (sym first) (first_is_contained event_e (event_f ∷ [])))

    goal_two : IsGoal conflict_text level trace (due_key 2 1)
    goal_two = d.is_goal conflict_text level trace due_c 0
        (subst (λ xs. Contains xs event_f) (sym first) (later_is_contained event_e (event_f ∷ []) event_f (first_is_contained event_f [])))

    pub goals_at_one : AreGoals conflict_text level trace 1 keys_at_one
    goals_at_one = record {
      sorted = two_sorted;
      exact = λ key. (
        (λ among. elim (first_or_later (due_key 1 1) (due_key 2 1 ∷ []) key among) [
          | inl e ↦ subst (λ q. (q.time ≤ 1) × IsGoal conflict_text level trace q) e (omega arith, goal_one)
          | inr later ↦ subst (λ q. (q.time ≤ 1) × IsGoal conflict_text level trace q) (only_one (due_key 2 1) key later) (omega arith, goal_two)
        ]),
        (λ g. elim (goal_among trace key g.1) [
          | inl one ↦ subst (Contains keys_at_one) (ap (due_key 1) (in_one key.time g.0 trace event_e one.0) ∙ one.1) (first_is_contained (due_key 1 1) (due_key 2 1 ∷ []))
          | inr two ↦ subst (Contains keys_at_one) (ap (due_key 2) (in_one key.time g.0 trace event_f two.0) ∙ two.1)
              (later_is_contained (due_key 1 1) (due_key 2 1 ∷ []) (due_key 2 1) (first_is_contained (due_key 2 1) []))
        ]),
      );
    }

  -- and those of cycle 2, in which e happens again
  pub goals_at_two : AreGoals conflict_text level (trace_with picks_a) 2 keys_at_two
  goals_at_two = record {
    sorted = three_sorted;
    exact = λ key. (
      (λ among. elim (one_of_three (due_key 1 1) (due_key 2 1) (due_key 1 2) key among) [
        | inl e ↦ subst Known e (omega arith, goal_one (trace_with picks_a) refl)
        | inr later ↦ elim later [
          | inl e ↦ subst Known e (omega arith, goal_two (trace_with picks_a) refl)
          | inr e ↦ subst Known e (omega arith, d.is_goal conflict_text level (trace_with picks_a) due_a 1 (0, omega arith, refl))
        ]
      ]),
      (λ g. elim (goal_among (trace_with picks_a) key g.1) [
        | inl one ↦
            elim (in_two key.time g.0 (trace_with picks_a) event_e one.0) [
              | inl e ↦ subst (Contains keys_at_two) (ap (due_key 1) e ∙ one.1) (0, omega arith, refl)
              | inr e ↦ subst (Contains keys_at_two) (ap (due_key 1) e ∙ one.1) (2, omega arith, refl)
            ]
        | inr two ↦
            elim (in_two key.time g.0 (trace_with picks_a) event_f two.0) [
              | inl e ↦ subst (Contains keys_at_two) (ap (due_key 2) e ∙ two.1) (1, omega arith, refl)
              | inr e ↦ absurd (neither event_e action_a event_f e_not_f (λ e. f_not_a (sym e)) (subst (λ k. Contains (events_at (trace_with picks_a) k) event_f) (sym e) two.0))
            ]
      ]),
    );
  }
    where
      Known : GoalKey → Type 0
      Known key = (key.time ≤ 2) × IsGoal conflict_text level (trace_with picks_a) key

  -- ---- how they stand in cycle 2, once a is done

  pub solved : IsClosed conflict_text level (trace_with picks_a) 100 (due_key 1 1) 2 c.Solved
  solved = d.met conflict_text level (trace_with picks_a) due_a 100 1 2 1 (record { later = omega arith; upto = omega arith; in_time = omega arith; happens = (1, omega arith, refl) })

  pub failed : IsClosed conflict_text level (trace_with picks_a) 100 (due_key 2 1) 2 c.Failed
  failed = (d.not_met conflict_text level (trace_with picks_a) due_c 100 1 2 never, d.not_live conflict_text level (trace_with picks_a) due_c 100 1 2 (omega arith), d.not_cut conflict_text level (trace_with picks_a) due_c 100 1 2)
    where
      never : (k : ℕ) → d.IsDoneIn conflict_text level (trace_with picks_a) due_c 1 2 k → ⊥
      never k h = elim (in_two k h.upto (trace_with picks_a) action_c h.happens) [
        | inl e ↦ let later = h.later in omega (arith, e, later)
        | inr e ↦ neither event_e action_a action_c e_not_c a_not_c (subst (λ k. Contains (events_at (trace_with picks_a) k) action_c) (sym e) h.happens)
      ]

-- The whole report of two goals that want what may not happen at once.
use Rattle.std.proofs.Common.{ℕ, zero, suc, ◌≡◌, ◌⊎◌, List, [], ◌∷◌, refl, sym, ap, subst, ◌∙◌, arith, inl, inr}
use Rattle.std.specs.Prelude.{Contains, Option, Some, None}
use Rattle.std.specs.Fmt.{digits}
use Rattle.std.specs.List.Sorted.{IsStrictlySortedBy}
use Rattle.std.specs.declared.cmp.Ordering.TheVariants.{Less}
use Rattle.std.specs.Ordering.{nat_cmp, on}
use Rattle.lps_terms.specs.declared.atom.Atom.{Atom}
use Rattle.lps_terms.specs.Order.{atom_cmp}
use Rattle.lps_model.specs.declared.trace.Trace.{Trace}
use Rattle.lps_model.specs.Rules.{numbered}
use Rattle.lps_model.specs.Trace.{no_cycle}
use Rattle.lps_model.proofs.Elements.{nothing_contained, first_or_later, first_is_contained}
use Rattle.lps_meaning.specs.declared.goal.Closed.{Closed}
use Rattle.lps_meaning.specs.declared.goal.Closed.TheVariants as c
use Rattle.lps_meaning.specs.declared.goal.GoalId.{GoalId}
use Rattle.lps_meaning.specs.declared.goal.GoalKey.{GoalKey}
use Rattle.lps_meaning.specs.declared.goal.NewGoal.{NewGoal}
use Rattle.lps_meaning.specs.Goals.{IsPending, HasStatus}
use Rattle.lps_meaning.specs.Holds.{Holds}
use Rattle.lps_meaning.specs.Reports.{Block, IsState, IsNew, IsClosedIn, AreCreated, IsBlockOf, AreCounts, block_text}
use Rattle.lps_meaning.proofs.Lists.{number_contained}
use Rattle.lps_meaning.proofs.Persistence.{start_law, update_law}
use Rattle.lps_meaning.proofs.ReportLaws.{one_status}
use Rattle.lps_examples.specs.Conflicts.{conflict_text, cycle_one, cycle_two, trace_with, picks_a, due_key, ReportExample}
use Rattle.lps_examples.proofs.ExampleWalks.{only_one, one_sorted}
use Rattle.lps_examples.proofs.OtherAlternative.{one_of_two}
use Rattle.lps_examples.proofs.ConflictTraces.{none_are_sorted, keys_at_one, keys_at_two, no_goals, goals_at_one, goals_at_two, due_a, due_c, solved, failed}
use Rattle.lps_examples.proofs.DueRules as d

abbrev trace : Trace
trace = trace_with picks_a

abbrev new : ℕ → GoalKey → NewGoal
new n key = record { goal = record { 0 = n }; key = key }

abbrev closed_as : ℕ → Closed → GoalId × Closed
closed_as n how = (record { 0 = n }, how)

-- ---- lists

two_sorted : {X : Type 0} (f : X → ℕ) (x y : X) → nat_cmp (f x) (f y) ≡ Less → IsStrictlySortedBy (on f nat_cmp) (x ∷ y ∷ [])
unfolding IsStrictlySortedBy
two_sorted f x y less = ((less, tt), (tt, tt))

one_of_three : {X : Type 0} (x y z q : X) (n : ℕ) → numbered (x ∷ y ∷ z ∷ []) n ≡ Some q → ((n ≡ 1) × (x ≡ q)) ⊎ (((n ≡ 2) × (y ≡ q)) ⊎ ((n ≡ 3) × (z ≡ q)))
one_of_three x y z q zero e = absurd (cc)
one_of_three x y z q (suc zero) e = inl (refl, cc)
one_of_three x y z q (suc (suc zero)) e = inr (inl (refl, cc))
one_of_three x y z q (suc (suc (suc zero))) e = inr (inr (refl, cc))
one_of_three x y z q (suc (suc (suc (suc n)))) e = absurd (cc)

none_is_none : (how : Closed) → None ≡ Some how → ⊥
none_is_none how e = cc

some_is_same : (a b : Closed) → ◌≡◌ {A = Option Closed} (Some a) (Some b) → a ≡ b
some_is_same a b e = cc

module _ (level : List ℕ → ℕ) where
  -- the text has no laws, and nothing holds
  no_state : (i : ℕ) → IsState conflict_text level trace i []
  no_state i = record { sorted = none_are_sorted atom_cmp; exact = λ fluent. ((λ among. absurd (nothing_contained fluent among)), (λ holds. absurd (none i fluent holds))) }
    where
      none : (i : ℕ) (fluent : Atom) → Holds conflict_text level trace i fluent → ⊥
      none zero fluent h = nothing_contained fluent ((start_law conflict_text level trace fluent).0 h)
      none (suc i) fluent h = elim ((update_law conflict_text level trace fluent i).0 h) [
        | inl begins ↦ nothing_contained begins.of_text.law begins.of_text.in_text
        | inr held ↦ none i fluent held.0
      ]

  -- a goal that is closed in a cycle is closed as its status says
  as_status : (keys : List GoalKey) (k n : ℕ) (key : GoalKey) (status : Option Closed) (how : Closed) → HasStatus conflict_text level trace 100 key k status →
      (is : IsClosedIn conflict_text level 100 trace keys k n how) → key ≡ is.key → status ≡ Some how
  as_status keys k n key status how has is same =
      one_status conflict_text level trace 100 is.key k status (Some how) (subst (λ q. HasStatus conflict_text level trace 100 q k status) same has) is.closed

  pending_a : (now : ℕ) → IsPending conflict_text level trace 100 (due_key 1 now) now
  pending_a now = d.new_pending conflict_text level trace due_a 100 now (omega arith)

  pending_c : IsPending conflict_text level trace 100 (due_key 2 1) 1
  pending_c = d.new_pending conflict_text level trace due_c 100 1 (omega arith)

  -- ---- cycle 0

  abbrev block_zero : Block
  block_zero = record { cycle = no_cycle; facts = []; created = []; closed = [] }

  zero_is : IsBlockOf conflict_text level 100 trace 0 block_zero
  zero_is = record {
    cycle = refl;
    state = no_state 0;
    keys = [];
    goals = no_goals level trace;
    created = record {
      sorted = none_are_sorted (on (λ (g : NewGoal). g.goal.0) nat_cmp);
      exact = λ n key. ((λ among. absurd (nothing_contained (new n key) among)), (λ is. absurd (nothing_contained key (number_contained [] n key is.0))));
    };
    closed = record {
      sorted = none_are_sorted (on (λ (g : GoalId × Closed). g.0.0) nat_cmp);
      exact = λ n how. ((λ among. absurd (nothing_contained (closed_as n how) among)), (λ is. absurd (nothing_contained is.key (number_contained [] n is.key is.goal))));
    };
  }

  -- ---- cycle 1: two goals come, and none is closed

  abbrev block_one : Block
  block_one = record { cycle = cycle_one; facts = []; created = new 1 (due_key 1 1) ∷ new 2 (due_key 2 1) ∷ []; closed = [] }

  one_is : IsBlockOf conflict_text level 100 trace 1 block_one
  one_is = record {
    cycle = refl;
    state = no_state 1;
    keys = keys_at_one;
    goals = goals_at_one level trace refl;
    created = record {
      sorted = two_sorted (λ (g : NewGoal). g.goal.0) (new 1 (due_key 1 1)) (new 2 (due_key 2 1)) refl;
      exact = λ n key. (
        (λ among. elim (first_or_later (new 1 (due_key 1 1)) (new 2 (due_key 2 1) ∷ []) (new n key) among) [
          | inl e ↦ subst IsNewThen e (refl, refl)
          | inr later ↦ subst IsNewThen (only_one (new 2 (due_key 2 1)) (new n key) later) (refl, refl)
        ]),
        (λ is. elim (one_of_two (due_key 1 1) (due_key 2 1) key n is.0) [
          | inl e ↦ subst (Contains block_one.created) (λ j. new (sym e.0 j) (e.1 j)) (0, omega arith, refl)
          | inr e ↦ subst (Contains block_one.created) (λ j. new (sym e.0 j) (e.1 j)) (1, omega arith, refl)
        ]),
      );
    };
    closed = record {
      sorted = none_are_sorted (on (λ (g : GoalId × Closed). g.0.0) nat_cmp);
      exact = λ n how. (
        (λ among. absurd (nothing_contained (closed_as n how) among)),
        (λ is. elim (one_of_two (due_key 1 1) (due_key 2 1) is.key n is.goal) [
          | inl e ↦ absurd (none_is_none how (as_status keys_at_one 1 n (due_key 1 1) None how (pending_a 1) is e.1))
          | inr e ↦ absurd (none_is_none how (as_status keys_at_one 1 n (due_key 2 1) None how pending_c is e.1))
        ]),
      );
    };
  }
    where
      IsNewThen : NewGoal → Type 0
      IsNewThen g = IsNew conflict_text level 100 trace keys_at_one 1 g.goal.0 g.key

  -- ---- cycle 2: one goal comes, one is solved, and one fails

  abbrev block_two : Block
  block_two = record { cycle = cycle_two picks_a; facts = []; created = new 3 (due_key 1 2) ∷ []; closed = closed_as 1 c.Solved ∷ closed_as 2 c.Failed ∷ [] }

  created_two : AreCreated conflict_text level 100 trace keys_at_two 2 block_two.created
  created_two = record {
    sorted = one_sorted (on (λ (g : NewGoal). g.goal.0) nat_cmp) (new 3 (due_key 1 2));
    exact = λ n key. (
      (λ among. subst (λ (g : NewGoal). IsNew conflict_text level 100 trace keys_at_two 2 g.goal.0 g.key) (only_one (new 3 (due_key 1 2)) (new n key) among) (refl, refl)),
      (λ is. elim (one_of_three (due_key 1 1) (due_key 2 1) (due_key 1 2) key n is.0) [
        | inl e ↦ absurd (not_new (ap (λ q. q.time) e.1 ∙ is.1))
        | inr later ↦ elim later [
          | inl e ↦ absurd (not_new (ap (λ q. q.time) e.1 ∙ is.1))
          | inr e ↦ subst (Contains block_two.created) (λ j. new (sym e.0 j) (e.1 j)) (first_is_contained (new 3 (due_key 1 2)) [])
        ]
      ]),
    );
  }
    where
      not_new : ◌≡◌ {A = ℕ} 1 2 → ⊥
      not_new e = omega (arith, e)

  two_is : IsBlockOf conflict_text level 100 trace 2 block_two
  two_is = record {
    cycle = refl;
    state = no_state 2;
    keys = keys_at_two;
    goals = goals_at_two level;
    created = created_two;
    closed = record {
      sorted = two_sorted (λ (g : GoalId × Closed). g.0.0) (closed_as 1 c.Solved) (closed_as 2 c.Failed) refl;
      exact = λ n how. (
        (λ among. elim (first_or_later (closed_as 1 c.Solved) (closed_as 2 c.Failed ∷ []) (closed_as n how) among) [
          | inl e ↦ subst IsClosedThen e (record { key = due_key 1 1; goal = refl; closed = solved level; before = inr (1, refl, omega arith, pending_a 1) })
          | inr later ↦ subst IsClosedThen (only_one (closed_as 2 c.Failed) (closed_as n how) later)
              (record { key = due_key 2 1; goal = refl; closed = failed level; before = inr (1, refl, omega arith, pending_c) })
        ]),
        (λ is. elim (one_of_three (due_key 1 1) (due_key 2 1) (due_key 1 2) is.key n is.goal) [
          | inl e ↦ let same = as_status keys_at_two 2 n (due_key 1 1) (Some c.Solved) how (solved level) is e.1 in
              subst (Contains block_two.closed) (λ j. closed_as (sym e.0 j) (some_is_same c.Solved how same j)) (0, omega arith, refl)
          | inr later ↦ elim later [
            | inl e ↦ let same = as_status keys_at_two 2 n (due_key 2 1) (Some c.Failed) how (failed level) is e.1 in
                subst (Contains block_two.closed) (λ j. closed_as (sym e.0 j) (some_is_same c.Failed how same j)) (1, omega arith, refl)
            | inr e ↦ absurd (none_is_none how (as_status keys_at_two 2 n (due_key 1 2) None how (pending_a 2) is e.1))
          ]
        ]),
      );
    };
  }
    where
      IsClosedThen : GoalId × Closed → Type 0
      IsClosedThen g = IsClosedIn conflict_text level 100 trace keys_at_two 2 g.0.0 g.1

  -- ---- the report

  counts : AreCounts conflict_text level 100 trace (record { pending = 1; failed = 1; cut = 0 })
  counts = record {
    keys = keys_at_two;
    goals = goals_at_two level;
    statuses = Some c.Solved ∷ Some c.Failed ∷ None ∷ [];
    each = (solved level, (failed level, (pending_a 2, tt)));
    pending = refl;
    failed = refl;
    cut = refl;
  }

pub report : ReportExample
unfolding block_text digits
report level = record {
  blocks = _;
  are_blocks = (_, _, (block_zero level, zero_is level, refl), (_, _, (block_one level, one_is level, refl), (_, _, (block_two level, two_is level, refl), refl, refl), refl), refl);
  counts = record { pending = 1; failed = 1; cut = 0 };
  are_counts = counts level;
  spelled = refl;
}

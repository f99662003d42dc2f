-- The plain runs of two goals that want what may not happen at once, and cycles that are not legal.
use Rattle.std.proofs.Common.{ℕ, ◌≡◌, List, [], ◌∷◌, ◌++◌, map, refl, sym, ap, subst, ◌∙◌, arith, inl, inr}
use Rattle.std.specs.Prelude.{Contains, Some}
use Rattle.lps_terms.specs.declared.atom.Atom.{Atom}
use Rattle.lps_terms.specs.declared.prefer.Prefer.{Prefer}
use Rattle.lps_terms.specs.declared.prefer.Prefer.TheVariants.{Oldest, Newest}
use Rattle.lps_terms.specs.Order.{atom_cmp}
use Rattle.lps_model.specs.declared.cycle.Pick.{Pick}
use Rattle.lps_model.specs.Rules.{numbered}
use Rattle.lps_model.specs.Run.{first_trace}
use Rattle.lps_model.specs.Trace.{events_at, happens_in}
use Rattle.lps_model.proofs.Elements.{nothing_contained, first_is_contained}
use Rattle.lps_meaning.specs.declared.goal.GoalKey.{GoalKey}
use Rattle.lps_meaning.specs.Cycles.{IsLegal, IsProposal, ArePicks}
use Rattle.lps_meaning.specs.Denials.{ViolatesNone, ViolatesNumber}
use Rattle.lps_meaning.specs.Goals.{IsPending}
use Rattle.lps_meaning.specs.Plain.{Pass, last, more, order_of, IsPassedOver, IsPlain, IsPlainRun}
use Rattle.lps_meaning.proofs.Lists.{number_contained}
use Rattle.lps_meaning.proofs.Numbers.{goals_unique, some_same}
use Rattle.lps_meaning.proofs.Uniqueness.{run_unique, run_of_plain}
use Rattle.lps_examples.specs.Examples.{event_e, event_f, action_a, action_c}
use Rattle.lps_examples.specs.Conflicts.{conflict_text, conflict_batches, cycle_one, cycle_two, trace_at_one, trace_with, picked, picks_a, picks_c, due_key, IsIllegal, ConflictExample, EitherIsRun, IllegalExample}
use Rattle.lps_examples.proofs.ExampleWalks.{first_same, rest_same, only_one}
use Rattle.lps_examples.proofs.OtherAlternative.{one_of_two}
use Rattle.lps_examples.proofs.DueRules as d
use Rattle.lps_examples.proofs.ConflictTraces.{e_not_a, e_not_c, f_not_a, a_not_c, neither, both_violate, without_a, without_c, keys_at_one, keys_at_two, none_are_sorted, no_goals, goals_at_one, goals_at_two, due_a, due_c, solved, failed}

module _ (level : List ℕ → ℕ) where
  -- ---- cycle 1

  cycle_one_legal : IsLegal conflict_text level 100 (first_trace []) cycle_one
  cycle_one_legal = record {
    room = omega arith;
    few = omega arith;
    outside = ((record { kind = refl; arity = refl }, refl), ((record { kind = refl; arity = refl }, refl), tt));
    judged = (
      without_a level (first_trace []) (event_e ∷ []) (λ h. e_not_a (only_one event_e action_a h)),
      (without_a level (first_trace []) (event_e ∷ event_f ∷ []) (neither event_e event_f action_a e_not_a f_not_a), tt),
    );
    keys = [];
    goals = no_goals level (first_trace []);
    picks = tt;
    no_more = λ n key group pend free proposal. absurd (nothing_contained key (number_contained [] n key pend.0));
  }

  -- ---- cycle 2

  pending_a : IsPending conflict_text level trace_at_one 100 (due_key 1 1) 1
  pending_a = d.new_pending conflict_text level trace_at_one due_a 100 1 (omega arith)

  proposed_a : IsProposal conflict_text level 100 trace_at_one (due_key 1 1) (action_a ∷ [])
  proposed_a = d.proposed conflict_text level trace_at_one due_a 100 1 (omega arith) (omega arith)

  only_a : (group : List Atom) → IsProposal conflict_text level 100 trace_at_one (due_key 1 1) group → group ≡ action_a ∷ []
  only_a = d.group_is conflict_text level trace_at_one due_a 100 1

  only_c : (group : List Atom) → IsProposal conflict_text level 100 trace_at_one (due_key 2 1) group → group ≡ action_c ∷ []
  only_c = d.group_is conflict_text level trace_at_one due_c 100 1

  -- with the event each action alone is admitted, and both are not, in either order
  a_passes : ViolatesNone conflict_text level trace_at_one (event_e ∷ action_a ∷ [])
  a_passes = without_c level trace_at_one (event_e ∷ action_a ∷ []) (neither event_e action_a action_c e_not_c a_not_c)

  c_passes : ViolatesNone conflict_text level trace_at_one (event_e ∷ action_c ∷ [])
  c_passes = without_a level trace_at_one (event_e ∷ action_c ∷ []) (neither event_e action_c action_a e_not_a (λ e. a_not_c (sym e)))

  a_then_c : ViolatesNumber conflict_text level trace_at_one (event_e ∷ action_a ∷ action_c ∷ []) 1
  a_then_c = both_violate level trace_at_one (event_e ∷ action_a ∷ action_c ∷ []) (1, omega arith, refl) (2, omega arith, refl)

  c_then_a : ViolatesNumber conflict_text level trace_at_one (event_e ∷ action_c ∷ action_a ∷ []) 1
  c_then_a = both_violate level trace_at_one (event_e ∷ action_c ∷ action_a ∷ []) (2, omega arith, refl) (1, omega arith, refl)

  -- cycle 2 is legal where its picks are, and leave no goal a proposal
  module _ (picks : List Pick) (are : ArePicks conflict_text level 100 trace_at_one keys_at_one [] (event_e ∷ []) picks)
      (no_a : (Contains (map (λ (pick : Pick). pick.goal) picks) 1 → ⊥) → ViolatesNumber conflict_text level trace_at_one (happens_in (cycle_two picks) ++ action_a ∷ []) 1)
      (no_c : (Contains (map (λ (pick : Pick). pick.goal) picks) 2 → ⊥) → ViolatesNumber conflict_text level trace_at_one (happens_in (cycle_two picks) ++ action_c ∷ []) 1) where
    legal_two : IsLegal conflict_text level 100 trace_at_one (cycle_two picks)
    legal_two = record {
      room = omega arith;
      few = omega arith;
      outside = ((record { kind = refl; arity = refl }, refl), tt);
      judged = (without_a level trace_at_one (event_e ∷ []) (λ h. e_not_a (only_one event_e action_a h)), tt);
      keys = keys_at_one;
      goals = goals_at_one level trace_at_one refl;
      picks = are;
      no_more = λ n key group pend free proposal.
          elim (one_of_two (due_key 1 1) (due_key 2 1) key n pend.0) [
            | inl one ↦
                let group_is = only_a group (subst (λ q. IsProposal conflict_text level 100 trace_at_one q group) (sym one.1) proposal) in
                (1, subst (λ g. ViolatesNumber conflict_text level trace_at_one (happens_in (cycle_two picks) ++ g) 1) (sym group_is) (no_a (λ among. free (subst (Contains (map (λ (pick : Pick). pick.goal) picks)) (sym one.0) among))))
            | inr two ↦
                let group_is = only_c group (subst (λ q. IsProposal conflict_text level 100 trace_at_one q group) (sym two.1) proposal) in
                (1, subst (λ g. ViolatesNumber conflict_text level trace_at_one (happens_in (cycle_two picks) ++ g) 1) (sym group_is) (no_c (λ among. free (subst (Contains (map (λ (pick : Pick). pick.goal) picks)) (sym two.0) among))))
          ];
    }

  legal_a : IsLegal conflict_text level 100 trace_at_one (cycle_two picks_a)
  legal_a = legal_two picks_a (((due_key 1 1, (refl, pending_a), proposed_a), nothing_contained 1, a_passes, tt))
      (λ free. absurd (free (first_is_contained 1 []))) (λ free. a_then_c)

  legal_c : IsLegal conflict_text level 100 trace_at_one (cycle_two picks_c)
  legal_c = legal_two picks_c (((due_key 2 1, (refl, d.new_pending conflict_text level trace_at_one due_c 100 1 (omega arith)), d.proposed conflict_text level trace_at_one due_c 100 1 (omega arith) (omega arith)), nothing_contained 2, c_passes, tt))
      (λ free. c_then_a) (λ free. absurd (free (first_is_contained 2 [])))

  -- ---- plain runs

  -- once the one action is picked, a pass gives the other goal nothing
  c_over : (taken : List ℕ) → IsPassedOver conflict_text level 100 trace_at_one keys_at_one 2 taken (event_e ∷ action_a ∷ [])
  c_over taken = d.passed_over conflict_text level trace_at_one due_c 100 1 keys_at_one 2 taken (event_e ∷ action_a ∷ []) refl 1 a_then_c

  a_over : (taken : List ℕ) → IsPassedOver conflict_text level 100 trace_at_one keys_at_one 1 taken (event_e ∷ action_c ∷ [])
  a_over taken = d.passed_over conflict_text level trace_at_one due_a 100 1 keys_at_one 1 taken (event_e ∷ action_c ∷ []) refl 1 c_then_a

  plain_one : (prefer : Prefer) → order_of prefer 0 ≡ [] → IsPlain conflict_text level 100 prefer (first_trace []) cycle_one
  unfolding cycle_one_legal
  plain_one prefer none = record { legal = cycle_one_legal; passes = last (subst (λ ns. Pass conflict_text level 100 (first_trace []) [] ns [] (event_e ∷ event_f ∷ []) []) (sym none) refl) refl }

  plain_a : IsPlain conflict_text level 100 Oldest trace_at_one (cycle_two picks_a)
  unfolding legal_a legal_two
  plain_a = record {
    legal = legal_a;
    passes = more (picked 1 action_a) [] [] (inr (
      d.the_offer conflict_text level trace_at_one due_a,
      [],
      d.given conflict_text level trace_at_one due_a 100 1 keys_at_one 1 [] (event_e ∷ []) refl (omega arith) (omega arith)
          (d.not_yet conflict_text level trace_at_one due_a 1) (nothing_contained 1) a_passes,
      refl,
      inl (c_over (1 ∷ []), refl),
    )) (last (inl (inl (first_is_contained 1 []), inl (c_over (1 ∷ []), refl))) refl) refl;
  }

  plain_c : IsPlain conflict_text level 100 Newest trace_at_one (cycle_two picks_c)
  unfolding legal_c legal_two
  plain_c = record {
    legal = legal_c;
    passes = more (picked 2 action_c) [] [] (inr (
      d.the_offer conflict_text level trace_at_one due_c,
      [],
      d.given conflict_text level trace_at_one due_c 100 1 keys_at_one 2 [] (event_e ∷ []) refl (omega arith) (omega arith)
          (d.not_yet conflict_text level trace_at_one due_c 1) (nothing_contained 2) c_passes,
      refl,
      inl (a_over (2 ∷ []), refl),
    )) (last (inl (inl (first_is_contained 2 []), inl (a_over (2 ∷ []), refl))) refl) refl;
  }

  -- the run with the one plain cycle after the other
  run_of : (prefer : Prefer) (picks : List Pick) → order_of prefer 0 ≡ [] → IsPlain conflict_text level 100 prefer trace_at_one (cycle_two picks) →
      IsPlainRun conflict_text level 100 prefer conflict_batches (trace_with picks)
  run_of prefer picks none plain = record { initial = record { sorted = none_are_sorted atom_cmp; exact = λ fact. ((λ h. h), (λ h. h)) }; plain = (plain_one prefer none, (plain, tt)); events = refl }

  run_a : IsPlainRun conflict_text level 100 Oldest conflict_batches (trace_with picks_a)
  run_a = run_of Oldest picks_a refl plain_a

  run_c : IsPlainRun conflict_text level 100 Newest conflict_batches (trace_with picks_c)
  run_c = run_of Newest picks_c refl plain_c

  differ : trace_with picks_a ≡ trace_with picks_c → ⊥
  differ same = let events : event_e ∷ action_a ∷ [] ≡ event_e ∷ action_c ∷ [] = ap (λ t. events_at t 2) same in a_not_c (first_same (rest_same events))

  -- ---- cycles that are not legal

  both_at_once : IsIllegal level trace_at_one (picked 1 action_a ∷ picked 2 action_c ∷ [])
  both_at_once legal = legal.picks.3.2 1 a_then_c

  none_made : IsIllegal level trace_at_one []
  none_made legal =
      let keys : keys_at_one ≡ legal.keys = goals_unique conflict_text level trace_at_one 1 keys_at_one legal.keys (goals_at_one level trace_at_one refl) legal.goals in
      let number : numbered legal.keys 1 ≡ Some (due_key 1 1) = subst (λ ks. numbered ks 1 ≡ Some (due_key 1 1)) keys refl in
      let more = legal.no_more 1 (due_key 1 1) (action_a ∷ []) (number, pending_a) (nothing_contained 1) proposed_a in a_passes more.0 more.1

  one_twice : IsIllegal level trace_at_one (picked 1 action_a ∷ picked 1 action_a ∷ [])
  one_twice legal = legal.picks.3.1 (first_is_contained 1 [])

  not_wanted : IsIllegal level trace_at_one (picked 2 action_a ∷ [])
  not_wanted legal =
      let keys : legal.keys ≡ keys_at_one = goals_unique conflict_text level trace_at_one 1 legal.keys keys_at_one legal.goals (goals_at_one level trace_at_one refl) in
      let pick = legal.picks.0 in
      let key : pick.0 ≡ due_key 2 1 = sym (some_same (subst (λ ks. numbered ks 2 ≡ Some pick.0) keys pick.1.0)) in
      a_not_c (first_same (only_c (action_a ∷ []) (subst (λ q. IsProposal conflict_text level 100 trace_at_one q (action_a ∷ [])) key pick.2)))

  -- goal 1 is solved in cycle 2, and goal 2 has failed
  module _ (n : ℕ) (key : GoalKey) (number : numbered keys_at_two n ≡ Some key) (closed : IsPending conflict_text level (trace_with picks_a) 100 key 2 → ⊥) where
    not_pending : (action : Atom) → IsIllegal level (trace_with picks_a) (picked n action ∷ [])
    not_pending action legal =
        let keys : legal.keys ≡ keys_at_two = goals_unique conflict_text level (trace_with picks_a) 2 legal.keys keys_at_two legal.goals (goals_at_two level) in
        let pick = legal.picks.0 in
        let same : pick.0 ≡ key = some_same (sym (subst (λ ks. numbered ks n ≡ Some pick.0) keys pick.1.0) ∙ number) in
        closed (subst (λ q. IsPending conflict_text level (trace_with picks_a) 100 q 2) same pick.1.1)

pub conflict : ConflictExample
conflict level = (
  run_a level,
  run_c level,
  (λ other. differ level (run_unique conflict_text level 100 Oldest conflict_batches (trace_with picks_a) (trace_with picks_c) (run_a level) other)),
  (λ other. differ level (run_unique conflict_text level 100 Newest conflict_batches (trace_with picks_a) (trace_with picks_c) other (run_c level))),
  c_passes level,
)

pub either : EitherIsRun
either level = (
  run_of_plain conflict_text level 100 Oldest conflict_batches (trace_with picks_a) (run_a level),
  run_of_plain conflict_text level 100 Newest conflict_batches (trace_with picks_c) (run_c level),
)

pub illegal : IllegalExample
illegal level = (
  both_at_once level,
  none_made level,
  one_twice level,
  not_wanted level,
  not_pending level 1 (due_key 1 1) refl (λ pend. pend.0 (solved level)) action_a,
  not_pending level 2 (due_key 2 1) refl (λ pend. (failed level).1 pend.1) action_c,
)

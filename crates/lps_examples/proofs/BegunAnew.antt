-- What begins with p at 1 is over, and what begins with p at 2 is not.
use Rattle.std.proofs.Common.{ℕ, zero, suc, false, ◌≡◌, ◌≤◌, ◌⊎◌, List, [], ◌∷◌, refl, sym, ap, subst, ◌∙◌, arith, inl, inr}
use Rattle.std.specs.Prelude.{Contains, Some, codes}
use Rattle.lps_terms.specs.declared.item.Item.{Item}
use Rattle.lps_terms.specs.declared.term.Term.{Term}
use Rattle.lps_terms.specs.Order.{atom_cmp}
use Rattle.lps_terms.specs.Put.{put_atom}
use Rattle.lps_model.specs.Trace.{events_at}
use Rattle.lps_model.proofs.Elements.{nothing_contained, first_is_contained}
use Rattle.lps_derivation.specs.Derivation.{of_fact}
use Rattle.lps_meaning.specs.Cycles.{IsProposal}
use Rattle.lps_examples.specs.Examples.{from_to, at_time, event_e, fluent_p, action_a, anew_text, anew_trace, anew_key}
use Rattle.lps_meaning.specs.Goals.{Reaches, IsFulfilledWithin, IsLive, IsPending, shared_values}
use Rattle.lps_meaning.specs.Holds.{Holds, IsTrueAt}
use Rattle.lps_meaning.specs.Items.{IsSmallItem, put_item}
use Rattle.lps_model.specs.Rules.{Rule, numbered}
use Rattle.lps_meaning.specs.Sequences.{Entry, Place, Times, Walk, stop, pass, passed, IsSmallSoFar, start, done}
use Rattle.lps_examples.proofs.ExampleWalks.{not_empty, other_letter, only_one, constants, constants_ground, stops_or_passes, some_of, only_numbered, small_atom, one_sorted}
use Rattle.lps_meaning.proofs.Persistence.{start_law, update_law}

abbrev consequent : List Item
consequent = at_time fluent_p 2 ∷ from_to action_a 2 3 ∷ []

abbrev the_rule : Rule
the_rule = record { antecedent = from_to event_e 0 1 ∷ []; alternatives = consequent ∷ [] }

abbrev entry_p : Entry
entry_p = record { env = 0; nest = 0; joins = false; item = at_time fluent_p 2 }

abbrev entry_a : Entry
entry_a = record { env = 0; nest = 0; joins = false; item = from_to action_a 2 3 }

abbrev begin : Place
begin = start anew_text 1 consequent

abbrev behind_p : Times → Place
behind_p t = passed t begin entry_p (entry_a ∷ [])

-- a does not happen
never : (k : ℕ) (u : ℕ → Term) → Contains (events_at anew_trace k) (put_atom u action_a) → ⊥
never zero u h = nothing_contained _ h
never (suc zero) u h = other_letter event_e (put_atom u action_a) 101 97 refl refl (λ e. omega (arith, e)) (only_one event_e (put_atom u action_a) h)
never (suc (suc zero)) u h = nothing_contained _ h
never (suc (suc (suc k))) u h = nothing_contained _ h

-- p at 2, a from 2 to 3
abbrev time_of : ℕ → ℕ
time_of zero = 0
time_of (suc zero) = 1
time_of (suc (suc zero)) = 2
time_of (suc (suc (suc n))) = 3

abbrev times : Times
times env = time_of

module _ (level : List ℕ → ℕ) where
  -- p holds all the time
  holds_p : (k : ℕ) → Holds anew_text level anew_trace k fluent_p
  holds_p zero = (start_law anew_text level anew_trace fluent_p).1 (first_is_contained fluent_p [])
  holds_p (suc k) = (update_law anew_text level anew_trace fluent_p k).1 (inr (holds_p k, λ ends. nothing_contained _ ends.0.of_text.in_text))

  p_is_true : IsTrueAt anew_text level anew_trace 2 fluent_p
  p_is_true = of_fact (holds_p 2)

  small_at : (e : Entry) → IsSmallItem (put_item (constants e.env) e.item) → IsSmallSoFar [] constants (behind_p times) e
  small_at e h = record { other = constants; alike = record { start = refl; past = (refl, tt); links = tt }; small = h }

  is_live : IsLive anew_text level anew_trace 100 anew_key 2 (behind_p times)
  is_live = record {
    plan = record {
      reaches = record {
        rule = the_rule;
        of_text = refl;
        alternative = 1;
        items = consequent;
        of_rule = refl;
        values = constants;
        times = times;
        ground = constants_ground;
        of_key = record { values = refl; times = refl };
        walk = pass 0 0 false (at_time fluent_p 2) (entry_a ∷ []) refl refl (omega arith, p_is_true) (small_atom (codes "p")) (omega arith) stop;
      };
      within = tt;
      on = record {
        next = entry_a;
        rest = [];
        is_next = refl;
        step = refl;
        ahead = omega arith;
        in_order = ((refl, omega arith), tt);
        limits = (tt, (tt, tt));
        small = (small_at entry_a (small_atom (codes "a")), tt);
      };
    };
    no_call = refl;
  }

  -- what is reached is the start, or the place behind p
  module _ (now : ℕ) (end : Place) (r : Reaches anew_text level anew_trace anew_key now end) where
    rule_is : the_rule ≡ r.rule
    rule_is = some_of r.of_text

    items_are : consequent ≡ r.items
    items_are = (only_numbered consequent r.items r.alternative (subst (λ q. numbered q.alternatives r.alternative ≡ Some r.items) (sym rule_is) r.of_rule)).1

    where_is : (end ≡ begin) ⊎ (end ≡ behind_p r.times)
    where_is =
        let walk : Walk anew_text level anew_trace (shared_values r.rule) r.values r.times now end begin =
        subst (λ items. Walk anew_text level anew_trace (shared_values r.rule) r.values r.times now end (start anew_text 1 items)) (sym items_are) r.walk in
        elim (stops_or_passes anew_text level anew_trace (shared_values r.rule) r.values r.times entry_p (entry_a ∷ []) refl refl walk) [
          | inl e ↦ inl e
          | inr g ↦ elim (stops_or_passes anew_text level anew_trace (shared_values r.rule) r.values r.times entry_a [] refl refl g.walk) [
            | inl e ↦ inr e
            | inr f ↦ absurd (never (r.times 0 3) (r.values 0) f.is_true.1)
          ]
        ]

  not_met : IsFulfilledWithin anew_text level anew_trace 100 anew_key 2 → ⊥
  not_met h =
      elim (where_is 2 h.met.end h.met.reaches) [
        | inl e ↦ not_empty entry_p (entry_a ∷ []) (sym (ap (λ p. p.left) e) ∙ h.met.whole)
        | inr e ↦ not_empty entry_a [] (sym (ap (λ p. p.left) e) ∙ h.met.whole)
      ]

  -- no group is done anywhere
  none_done : (other : Place) → IsLive anew_text level anew_trace 100 anew_key 2 other → done other ≤ 0
  none_done other live =
      elim (where_is 2 other live.plan.reaches) [
        | inl e ↦ let none : done other ≡ 0 = ap done e in omega (arith, none)
        | inr e ↦ let none : done other ≡ 0 = ap done e in omega (arith, none)
      ]

  proposed : IsProposal anew_text level 100 anew_trace anew_key (action_a ∷ [])
  unfolding is_live
  proposed = record {
    end = behind_p times;
    live = is_live;
    most = none_done;
    group_of = record {
      atom = action_a;
      from = record { 0 = 2 };
      to = record { 0 = 3 };
      item = refl;
      action = refl;
      begins = refl;
      sorted = one_sorted atom_cmp action_a;
      exact = λ a. ((λ h. h), (λ h. h));
    };
  }

  pub begun_anew : IsPending anew_text level anew_trace 100 anew_key 2 × IsProposal anew_text level 100 anew_trace anew_key (action_a ∷ [])
  begun_anew = ((not_met, (behind_p times, is_live)), proposed)

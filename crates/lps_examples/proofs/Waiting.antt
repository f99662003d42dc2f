-- A goal that waits for an event: it has a live plan, and proposes nothing.
use Rattle.std.proofs.Common.{ℕ, zero, suc, true, false, ◌≡◌, ◌≤◌, ◌⊎◌, List, [], ◌∷◌, refl, sym, ap, subst, ◌∙◌, arith, inl, inr}
use Rattle.std.specs.Prelude.{Contains, Some, codes}
use Rattle.lps_terms.specs.declared.atom.Atom.{Atom}
use Rattle.lps_terms.specs.declared.item.Item.{Item}
use Rattle.lps_terms.specs.declared.item.Item.TheVariants as i
use Rattle.lps_terms.specs.declared.term.Term.{Term}
use Rattle.lps_terms.specs.declared.time_var.TimeVar.{TimeVar}
use Rattle.lps_terms.specs.Put.{put_atom}
use Rattle.lps_model.specs.Order.{is_action}
use Rattle.lps_model.specs.Trace.{events_at}
use Rattle.lps_model.proofs.Elements.{nothing_contained}
use Rattle.lps_meaning.specs.Cycles.{IsProposal}
use Rattle.lps_examples.specs.Examples.{from_to, event_e, event_f, action_a, action_c, waiting_text, waiting_trace, waiting_key}
use Rattle.lps_meaning.specs.Goals.{Reaches, IsFulfilledWithin, IsLive, IsPending, shared_values}
use Rattle.lps_meaning.specs.Items.{IsSmallItem, put_item}
use Rattle.lps_model.specs.Rules.{Rule, numbered, kind_of}
use Rattle.lps_meaning.specs.Sequences.{Entry, Place, Times, Walk, stop, pass, passed, IsSmallSoFar, start, done}
use Rattle.lps_examples.proofs.ExampleWalks.{first_same, not_empty, other_letter, only_one, constants, constants_ground, stops_or_passes, some_of, only_numbered, small_atom}

abbrev consequent : List Item
consequent = from_to action_a 2 3 ∷ from_to event_f 4 5 ∷ from_to action_c 6 7 ∷ []

abbrev the_rule : Rule
the_rule = record { antecedent = from_to event_e 0 1 ∷ []; alternatives = consequent ∷ [] }

abbrev entry_of : Item → Entry
entry_of item = record { env = 0; nest = 0; joins = false; item = item }

abbrev entry_a : Entry
entry_a = entry_of (from_to action_a 2 3)

abbrev entry_f : Entry
entry_f = entry_of (from_to event_f 4 5)

abbrev entry_c : Entry
entry_c = entry_of (from_to action_c 6 7)

abbrev begin : Place
begin = start waiting_text 1 consequent

abbrev behind_a : Times → Place
behind_a t = passed t begin entry_a (entry_f ∷ entry_c ∷ [])

-- f does not happen
never : (k : ℕ) (u : ℕ → Term) → Contains (events_at waiting_trace k) (put_atom u event_f) → ⊥
never zero u h = nothing_contained _ h
never (suc zero) u h = other_letter event_e (put_atom u event_f) 101 102 refl refl (λ e. omega (arith, e)) (only_one event_e (put_atom u event_f) h)
never (suc (suc zero)) u h = other_letter action_a (put_atom u event_f) 97 102 refl refl (λ e. omega (arith, e)) (only_one action_a (put_atom u event_f) h)
never (suc (suc (suc k))) u h = nothing_contained _ h

-- a from 1 to 2, f from 2 to 3, c from 3 to 4
abbrev time_of : ℕ → ℕ
time_of zero = 0
time_of (suc zero) = 1
time_of (suc (suc zero)) = 1
time_of (suc (suc (suc zero))) = 2
time_of (suc (suc (suc (suc zero)))) = 2
time_of (suc (suc (suc (suc (suc zero))))) = 3
time_of (suc (suc (suc (suc (suc (suc zero)))))) = 3
time_of (suc (suc (suc (suc (suc (suc (suc n))))))) = 4

abbrev times : Times
times env = time_of

module _ (level : List ℕ → ℕ) where
  small_at : (e : Entry) → IsSmallItem (put_item (constants e.env) e.item) → IsSmallSoFar [] constants (behind_a times) e
  small_at e h = record { other = constants; alike = record { start = refl; past = (refl, tt); links = tt }; small = h }

  is_live : IsLive waiting_text level waiting_trace 100 waiting_key 2 (behind_a times)
  is_live = record {
    plan = record {
      reaches = record {
        rule = the_rule;
        of_text = refl;
        alternative = 1;
        items = consequent;
        of_rule = refl;
        values = constants;
        times = times;
        ground = constants_ground;
        of_key = record { values = refl; times = refl };
        walk = pass 0 0 false (from_to action_a 2 3) (entry_f ∷ entry_c ∷ []) refl refl (omega arith, (0, omega arith, refl)) (small_atom (codes "a")) (refl, omega arith) stop;
      };
      within = tt;
      on = record {
        next = entry_f;
        rest = entry_c ∷ [];
        is_next = refl;
        step = refl;
        ahead = omega arith;
        in_order = ((refl, omega arith), ((refl, omega arith), tt));
        limits = (tt, (tt, (tt, tt)));
        small = (small_at entry_f (small_atom (codes "f")), (small_at entry_c (small_atom (codes "c")), tt));
      };
    };
    no_call = refl;
  }

  -- what is reached is the start, or the place behind a
  module _ (now : ℕ) (end : Place) (r : Reaches waiting_text level waiting_trace waiting_key now end) where
    rule_is : the_rule ≡ r.rule
    rule_is = some_of r.of_text

    items_are : consequent ≡ r.items
    items_are = (only_numbered consequent r.items r.alternative (subst (λ q. numbered q.alternatives r.alternative ≡ Some r.items) (sym rule_is) r.of_rule)).1

    where_is : (end ≡ begin) ⊎ (end ≡ behind_a r.times)
    where_is =
        let walk : Walk waiting_text level waiting_trace (shared_values r.rule) r.values r.times now end begin =
        subst (λ items. Walk waiting_text level waiting_trace (shared_values r.rule) r.values r.times now end (start waiting_text 1 items)) (sym items_are) r.walk in
        elim (stops_or_passes waiting_text level waiting_trace (shared_values r.rule) r.values r.times entry_a (entry_f ∷ entry_c ∷ []) refl refl walk) [
          | inl e ↦ inl e
          | inr g ↦ elim (stops_or_passes waiting_text level waiting_trace (shared_values r.rule) r.values r.times entry_f (entry_c ∷ []) refl refl g.walk) [
            | inl e ↦ inr e
            | inr f ↦ absurd (never (r.times 0 5) (r.values 0) f.is_true.1)
          ]
        ]

  not_met : IsFulfilledWithin waiting_text level waiting_trace 100 waiting_key 2 → ⊥
  not_met h =
      elim (where_is 2 h.met.end h.met.reaches) [
        | inl e ↦ not_empty entry_a (entry_f ∷ entry_c ∷ []) (sym (ap (λ p. p.left) e) ∙ h.met.whole)
        | inr e ↦ not_empty entry_f (entry_c ∷ []) (sym (ap (λ p. p.left) e) ∙ h.met.whole)
      ]

  abbrev atom_of : Atom → Item → Atom
  atom_of d (i.Span a from to) = a
  atom_of d _ = d

  none_proposed : (group : List Atom) → IsProposal waiting_text level 100 waiting_trace waiting_key group → ⊥
  none_proposed group p =
      let one : 1 ≤ done p.end = p.most (behind_a times) is_live in
      elim (where_is 2 p.end p.live.plan.reaches) [
        | inl e ↦ let none : done p.end ≡ 0 = ap done e in absurd (omega (arith, one, none))
        | inr e ↦
            let next : entry_f ≡ p.live.plan.on.next = first_same (sym (ap (λ q. q.left) e) ∙ p.live.plan.on.is_next) in
            no_action p.group_of.atom p.group_of.from p.group_of.to (ap (λ q. q.item) next ∙ p.group_of.item) p.group_of.action
      ]
    where
      no_action : (atom : Atom) (from to : TimeVar) → from_to event_f 4 5 ≡ i.Span atom from to → is_action (kind_of waiting_text atom.name) ≡ true → ⊥
      no_action atom from to is action =
          let same : event_f ≡ atom = ap (atom_of atom) is in
          let plain : is_action (kind_of waiting_text atom.name) ≡ false = subst (λ a. is_action (kind_of waiting_text a.name) ≡ false) same refl in absurd (cc)

  pub waiting : IsPending waiting_text level waiting_trace 100 waiting_key 2
      × ((group : List Atom) → IsProposal waiting_text level 100 waiting_trace waiting_key group → ⊥)
  waiting = ((not_met, (behind_a times, is_live)), none_proposed)

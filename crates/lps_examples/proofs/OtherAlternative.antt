-- A goal whose first alternative is too late, and which is pending by its second.
use Rattle.std.proofs.Common.{ℕ, zero, suc, false, ◌≡◌, ◌≤◌, ◌⊎◌, List, [], ◌∷◌, map, refl, sym, ap, subst, ◌∙◌, arith, inl, inr}
use Rattle.std.specs.Prelude.{pos, ◌+ℤ◌, ◌≤ℤ◌, Contains, Some, codes}
use Rattle.lps_terms.specs.declared.item.Item.{Item}
use Rattle.lps_terms.specs.declared.term.Term.{Term}
use Rattle.lps_terms.specs.Put.{put_atom}
use Rattle.lps_model.specs.declared.trace.Trace.{Trace}
use Rattle.lps_model.specs.Trace.{events_at}
use Rattle.lps_model.proofs.Elements.{nothing_contained}
use Rattle.lps_examples.specs.Examples.{from_to, at_most, event_e, action_a, action_c, other_text, other_trace, other_key, OtherAlternativeExample}
use Rattle.lps_meaning.specs.Goals.{Reaches, IsFulfilledWithin, HasLive, IsLive, shared_values, shared_times}
use Rattle.lps_model.specs.Rules.{Rule, numbered}
use Rattle.lps_meaning.specs.Sequences.{Entry, Place, Walk, stop, AreLimits, AreInOrder, IsAhead, start}
use Rattle.lps_examples.proofs.Deadline.{too_late}
use Rattle.lps_examples.proofs.ExampleWalks.{first_same, not_empty, other_letter, only_one, constants, constants_ground, stops_or_passes, some_of, small_atom}

abbrev pub first_way : List Item
first_way = from_to action_a 2 3 ∷ at_most 3 1 2 ∷ []

abbrev pub second_way : List Item
second_way = from_to action_c 2 3 ∷ []

abbrev pub the_rule : Rule
the_rule = record { antecedent = from_to event_e 0 1 ∷ []; alternatives = first_way ∷ second_way ∷ [] }

abbrev pub entry_of : Item → Entry
entry_of item = record { env = 0; nest = 0; joins = false; item = item }

abbrev pub entry_a : Entry
entry_a = entry_of (from_to action_a 2 3)

abbrev pub entry_limit : Entry
entry_limit = entry_of (at_most 3 1 2)

abbrev pub entry_c : Entry
entry_c = entry_of (from_to action_c 2 3)

-- a or c from n to n + 1
abbrev pub time_of : ℕ → ℕ → ℕ
time_of n zero = 0
time_of n (suc zero) = 1
time_of n (suc (suc zero)) = n
time_of n (suc (suc (suc v))) = suc n

-- neither a nor c happens
never_a : (k : ℕ) (u : ℕ → Term) → Contains (events_at other_trace k) (put_atom u action_a) → ⊥
never_a zero u h = nothing_contained _ h
never_a (suc zero) u h = other_letter event_e (put_atom u action_a) 101 97 refl refl (λ e. omega (arith, e)) (only_one event_e (put_atom u action_a) h)
never_a (suc (suc zero)) u h = nothing_contained _ h
never_a (suc (suc (suc zero))) u h = nothing_contained _ h
never_a (suc (suc (suc (suc k)))) u h = nothing_contained _ h

never_c : (k : ℕ) (u : ℕ → Term) → Contains (events_at other_trace k) (put_atom u action_c) → ⊥
never_c zero u h = nothing_contained _ h
never_c (suc zero) u h = other_letter event_e (put_atom u action_c) 101 99 refl refl (λ e. omega (arith, e)) (only_one event_e (put_atom u action_c) h)
never_c (suc (suc zero)) u h = nothing_contained _ h
never_c (suc (suc (suc zero))) u h = nothing_contained _ h
never_c (suc (suc (suc (suc k)))) u h = nothing_contained _ h

pub one_of_two : {X : Type 0} (x y z : X) (n : ℕ) → numbered (x ∷ y ∷ []) n ≡ Some z → ((n ≡ 1) × (x ≡ z)) ⊎ ((n ≡ 2) × (y ≡ z))
one_of_two x y z zero e = absurd (cc)
one_of_two x y z (suc zero) e = inl (refl, some_of e)
one_of_two x y z (suc (suc zero)) e = inr (refl, some_of e)
one_of_two x y z (suc (suc (suc n))) e = absurd (cc)

-- in a trace in which neither happens
module _ (level : List ℕ → ℕ) (trace : Trace) (no_a : (k : ℕ) (u : ℕ → Term) → Contains (events_at trace k) (put_atom u action_a) → ⊥)
    (no_c : (k : ℕ) (u : ℕ → Term) → Contains (events_at trace k) (put_atom u action_c) → ⊥) where
  unfoldable pub second_live : (now : ℕ) → 1 ≤ now → IsLive other_text level trace 100 other_key now (start other_text 1 second_way)
  second_live now since = record {
    plan = record {
      reaches = record {
        rule = the_rule;
        of_text = refl;
        alternative = 2;
        items = second_way;
        of_rule = refl;
        values = constants;
        times = λ env. time_of now;
        ground = constants_ground;
        of_key = record { values = refl; times = refl };
        walk = stop;
      };
      within = tt;
      on = record {
        next = entry_c;
        rest = [];
        is_next = refl;
        step = refl;
        ahead = omega arith;
        in_order = ((refl, since), tt);
        limits = (tt, tt);
        small = (record { other = constants; alike = record { start = refl; past = tt; links = tt }; small = small_atom (codes "c") }, tt);
      };
    };
    no_call = refl;
  }

  -- what is reached is the start of the one or the other alternative
  module _ (now : ℕ) (end : Place) (r : Reaches other_text level trace other_key now end) where
    rule_is : the_rule ≡ r.rule
    rule_is = some_of r.of_text

    time_is : r.times 0 1 ≡ 1
    time_is = first_same (subst (λ q. map (r.times 0) (shared_times q) ≡ 1 ∷ []) (sym rule_is) r.of_key.times)

    abbrev WalkOver : List Item → Type 0
    WalkOver items = Walk other_text level trace (shared_values r.rule) r.values r.times now end (start other_text 1 items)

    abbrev pub AtFirst : Type 0
    AtFirst = (r.alternative ≡ 1) × (first_way ≡ r.items) × (end ≡ start other_text 1 first_way)

    abbrev pub AtSecond : Type 0
    AtSecond = (r.alternative ≡ 2) × (end ≡ start other_text 1 second_way)

    pub where_is : AtFirst ⊎ AtSecond
    where_is =
        elim (one_of_two first_way second_way r.items r.alternative (subst (λ q. numbered q.alternatives r.alternative ≡ Some r.items) (sym rule_is) r.of_rule)) [
          | inl first ↦
              elim (stops_or_passes other_text level trace (shared_values r.rule) r.values r.times entry_a (entry_limit ∷ []) refl refl (subst WalkOver (sym first.1) r.walk)) [
                | inl e ↦ inl (first.0, first.1, e)
                | inr g ↦ absurd (no_a (r.times 0 3) (r.values 0) g.is_true.1)
              ]
          | inr second ↦
              elim (stops_or_passes other_text level trace (shared_values r.rule) r.values r.times entry_c [] refl refl (subst WalkOver (sym second.1) r.walk)) [
                | inl e ↦ inr (second.0, e)
                | inr g ↦ absurd (no_c (r.times 0 3) (r.values 0) g.is_true.1)
              ]
        ]

  not_met : IsFulfilledWithin other_text level trace 100 other_key 3 → ⊥
  not_met h =
      elim (where_is 3 h.met.end h.met.reaches) [
        | inl first ↦ not_empty entry_a (entry_limit ∷ []) (sym (ap (λ p. p.left) first.2) ∙ h.met.whole)
        | inr second ↦ not_empty entry_c [] (sym (ap (λ p. p.left) second.1) ∙ h.met.whole)
      ]

  is_second : (has : HasLive other_text level trace 100 other_key 3) → has.1.plan.reaches.alternative ≡ 2
  is_second (end, plan_of) =
      let r = plan_of.plan.reaches in
      elim (where_is 3 end r) [
        | inr second ↦ second.0
        | inl first ↦
            let here = first.2 in
            let next : entry_a ≡ plan_of.plan.on.next = first_same (sym (ap (λ p. p.left) here) ∙ plan_of.plan.on.is_next) in
            let ahead : 3 ≤ r.times 0 2 = subst (λ e. IsAhead 3 (r.times e.env) e.item) (sym next) plan_of.plan.on.ahead in
            let placed = (subst (λ p. AreInOrder other_text r.times p.before p.left) here plan_of.plan.on.in_order).0 in
            let limits = subst (λ items. AreLimits r.times items []) (sym first.1) (subst (λ p. AreLimits r.times r.items p.links) here plan_of.plan.on.limits) in
            let bound : pos (r.times 0 3) ≤ℤ pos 3 = subst (λ n. pos (r.times 0 3) ≤ℤ (pos n +ℤ pos 2)) (time_is 3 end r) limits.1.0 in
            absurd (too_late (r.times 0 2) ahead (subst (λ n. pos n ≤ℤ pos 3) placed.0 bound))
      ]

pub other_alternative : OtherAlternativeExample
other_alternative level =
    ((not_met level other_trace never_a never_c, (start other_text 1 second_way, second_live level other_trace never_a never_c 3 (omega arith))), is_second level other_trace never_a never_c)

-- Two calls one after the other: each nests at 1, so at depth 1 both may be replaced.
use Rattle.std.proofs.Common.{ℕ, zero, suc, false, ◌≡◌, List, [], ◌∷◌, refl, sym, ap, subst, ◌∙◌, arith, inl, inr}
use Rattle.std.specs.Prelude.{Contains, Some, codes}
use Rattle.lps_terms.specs.declared.item.Item.{Item}
use Rattle.lps_terms.specs.declared.term.Term.{Term}
use Rattle.lps_terms.specs.Put.{put_atom}
use Rattle.lps_model.specs.Trace.{events_at}
use Rattle.lps_model.proofs.Elements.{nothing_contained}
use Rattle.lps_examples.specs.Examples.{from_to, nullary, event_e, action_a, action_c, one_after_other_text, one_after_other_trace, one_after_other_key}
use Rattle.lps_meaning.specs.Goals.{Reaches, IsLive, IsPending, shared_values}
use Rattle.lps_model.specs.Rules.{Rule, MacroClause, numbered}
use Rattle.lps_meaning.specs.Sequences.{Entry, Place, Times, Walk, stop, pass, replace, passed, replaced, link_at, IsSmallSoFar, start}
use Rattle.lps_examples.proofs.ExampleWalks.{not_empty, other_letter, only_one, constants, constants_ground, stops_or_passes, stops_or_replaces, some_of, only_numbered, small_atom}

abbrev consequent : List Item
consequent = from_to (nullary (codes "m")) 2 3 ∷ from_to (nullary (codes "n")) 4 5 ∷ []

abbrev the_rule : Rule
the_rule = record { antecedent = from_to event_e 0 1 ∷ []; alternatives = consequent ∷ [] }

abbrev clause : List ℕ → List ℕ → MacroClause
clause outer inner = record { head = nullary outer; begin = 0; end = 1; items = from_to (nullary inner) 0 1 ∷ [] }

abbrev call_m : Entry
call_m = record { env = 0; nest = 0; joins = false; item = from_to (nullary (codes "m")) 2 3 }

abbrev call_n : Entry
call_n = record { env = 0; nest = 0; joins = false; item = from_to (nullary (codes "n")) 4 5 }

-- the items of the two bodies
abbrev entry_a : Entry
entry_a = record { env = 1; nest = 1; joins = false; item = from_to action_a 0 1 }

abbrev entry_c : Entry
entry_c = record { env = 2; nest = 1; joins = false; item = from_to action_c 0 1 }

-- the start, the first body in the place of its call, the place behind its action, and the second body in the place of its call
abbrev begin : Place
begin = start one_after_other_text 1 consequent

abbrev in_first : Place
in_first = replaced one_after_other_text begin (link_at begin call_m (nullary (codes "m")) 2 3 1 (clause (codes "m") (codes "a"))) (call_n ∷ [])

abbrev behind_a : Times → Place
behind_a t = passed t in_first entry_a (call_n ∷ [])

abbrev in_second : Times → Place
in_second t = replaced one_after_other_text (behind_a t) (link_at (behind_a t) call_n (nullary (codes "n")) 4 5 1 (clause (codes "n") (codes "c"))) []

-- m and a from 1 to 2, n and c from 2 to 3
abbrev times : Times
times zero zero = 0
times zero (suc zero) = 1
times zero (suc (suc zero)) = 1
times zero (suc (suc (suc zero))) = 2
times zero (suc (suc (suc (suc zero)))) = 2
times zero (suc (suc (suc (suc (suc v))))) = 3
times (suc zero) zero = 1
times (suc zero) (suc v) = 2
times (suc (suc e)) zero = 2
times (suc (suc e)) (suc v) = 3

-- c does not happen
never : (k : ℕ) (u : ℕ → Term) → Contains (events_at one_after_other_trace k) (put_atom u action_c) → ⊥
never zero u h = nothing_contained _ h
never (suc zero) u h = other_letter event_e (put_atom u action_c) 101 99 refl refl (λ e. omega (arith, e)) (only_one event_e (put_atom u action_c) h)
never (suc (suc zero)) u h = other_letter action_a (put_atom u action_c) 97 99 refl refl (λ e. omega (arith, e)) (only_one action_a (put_atom u action_c) h)
never (suc (suc (suc k))) u h = nothing_contained _ h

module _ (level : List ℕ → ℕ) where
  small_begin : IsSmallSoFar [] constants begin call_m
  small_begin = record { other = constants; alike = record { start = refl; past = tt; links = tt }; small = small_atom (codes "m") }

  small_behind : IsSmallSoFar [] constants (behind_a times) call_n
  small_behind = record { other = constants; alike = record { start = refl; past = (refl, tt); links = (refl, tt) }; small = small_atom (codes "n") }

  small_second : IsSmallSoFar [] constants (in_second times) entry_c
  small_second = record { other = constants; alike = record { start = refl; past = (refl, tt); links = (refl, (refl, tt)) }; small = small_atom (codes "c") }

  is_live : IsLive one_after_other_text level one_after_other_trace 1 one_after_other_key 2 (in_second times)
  is_live = record {
    plan = record {
      reaches = record {
        rule = the_rule;
        of_text = refl;
        alternative = 1;
        items = consequent;
        of_rule = refl;
        values = constants;
        times = times;
        ground = constants_ground;
        of_key = record { values = refl; times = refl };
        walk = replace call_m (call_n ∷ []) (nullary (codes "m")) (record { 0 = 2 }) (record { 0 = 3 }) 1 (clause (codes "m") (codes "a")) refl refl refl refl refl (refl, refl) small_begin
            (pass 1 1 false (from_to action_a 0 1) (call_n ∷ []) refl refl (omega arith, (0, omega arith, refl)) (small_atom (codes "a")) (refl, omega arith)
            (replace call_n [] (nullary (codes "n")) (record { 0 = 4 }) (record { 0 = 5 }) 1 (clause (codes "n") (codes "c")) refl refl refl refl refl (refl, refl) small_behind stop));
      };
      within = (omega arith, (omega arith, tt));
      on = record {
        next = entry_c;
        rest = [];
        is_next = refl;
        step = refl;
        ahead = omega arith;
        in_order = ((refl, omega arith), tt);
        limits = ((tt, tt), ((tt, tt), (tt, (tt, tt))));
        small = (small_second, tt);
      };
    };
    no_call = refl;
  }

  -- what is reached has something left
  module _ (end : Place) (r : Reaches one_after_other_text level one_after_other_trace one_after_other_key 2 end) where
    abbrev given : List ℕ
    given = shared_values r.rule

    abbrev WalkFrom : Place → Type 0
    WalkFrom place = Walk one_after_other_text level one_after_other_trace given r.values r.times 2 end place

    rule_is : the_rule ≡ r.rule
    rule_is = some_of r.of_text

    items_are : consequent ≡ r.items
    items_are = (only_numbered consequent r.items r.alternative (subst (λ q. numbered q.alternatives r.alternative ≡ Some r.items) (sym rule_is) r.of_rule)).1

    not_whole : (place : Place) (e : Entry) (rest : List Entry) → place.left ≡ e ∷ rest → end ≡ place → end.left ≡ [] → ⊥
    not_whole place e rest left here whole = not_empty e rest (sym (ap (λ p. p.left) here ∙ left) ∙ whole)

    in_first_not_whole : WalkFrom in_first → end.left ≡ [] → ⊥
    in_first_not_whole walk whole =
        elim (stops_or_passes one_after_other_text level one_after_other_trace given r.values r.times entry_a (call_n ∷ []) refl refl walk) [
          | inl e ↦ not_whole in_first entry_a (call_n ∷ []) refl e whole
          | inr g ↦ elim (stops_or_replaces one_after_other_text level one_after_other_trace given r.values r.times call_n [] refl (nullary (codes "n")) (record { 0 = 4 }) (record { 0 = 5 }) refl refl g.walk) [
            | inl e ↦ not_whole (behind_a r.times) call_n [] refl e whole
            | inr q ↦
                let one = only_numbered (clause (codes "n") (codes "c")) q.clause q.number q.named in
                let body : WalkFrom (in_second r.times) = subst WalkFrom
                (λ j. replaced one_after_other_text (behind_a r.times) (link_at (behind_a r.times) call_n (nullary (codes "n")) 4 5 (one.0 j) (sym one.1 j)) []) q.walk in
                elim (stops_or_passes one_after_other_text level one_after_other_trace given r.values r.times entry_c [] refl refl body) [
                  | inl e ↦ not_whole (in_second r.times) entry_c [] refl e whole
                  | inr f ↦ never (r.times 2 1) (r.values 2) f.is_true.1
                ]
          ]
        ]

    nothing_whole : end.left ≡ [] → ⊥
    nothing_whole whole =
        let walk : WalkFrom begin = subst (λ items. WalkFrom (start one_after_other_text 1 items)) (sym items_are) r.walk in
        elim (stops_or_replaces one_after_other_text level one_after_other_trace given r.values r.times call_m (call_n ∷ []) refl (nullary (codes "m")) (record { 0 = 2 }) (record { 0 = 3 }) refl refl walk) [
          | inl e ↦ not_whole begin call_m (call_n ∷ []) refl e whole
          | inr q ↦
              let one = only_numbered (clause (codes "m") (codes "a")) q.clause q.number q.named in
              in_first_not_whole (subst WalkFrom (λ j. replaced one_after_other_text begin (link_at begin call_m (nullary (codes "m")) 2 3 (one.0 j) (sym one.1 j)) (call_n ∷ [])) q.walk) whole
        ]

  pub one_after_other : IsPending one_after_other_text level one_after_other_trace 1 one_after_other_key 2
  one_after_other = ((λ h. nothing_whole h.met.end h.met.reaches h.met.whole), (in_second times, is_live))

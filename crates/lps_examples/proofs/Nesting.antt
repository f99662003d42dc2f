-- Calls within calls, down to one that nests at 5: at depths 3 and 4 the goal is cut, at depth 5 it is pending.
use Rattle.std.proofs.Common.{ℕ, zero, suc, true, false, ◌≡◌, ◌≤◌, ◌<◌, ◌⊎◌, List, [], ◌∷◌, refl, sym, ap, subst, ◌∙◌, arith, inl, inr}
use Rattle.std.specs.Prelude.{Contains, Some, codes}
use Rattle.lps_terms.specs.declared.atom.Atom.{Atom}
use Rattle.lps_terms.specs.declared.item.Item.{Item}
use Rattle.lps_terms.specs.declared.item.Item.TheVariants as i
use Rattle.lps_terms.specs.declared.term.Term.{Term}
use Rattle.lps_terms.specs.declared.time_var.TimeVar.{TimeVar}
use Rattle.lps_terms.specs.Put.{put_atom}
use Rattle.lps_model.specs.Trace.{events_at}
use Rattle.lps_model.proofs.Elements.{nothing_contained}
use Rattle.lps_meaning.specs.declared.goal.Closed.TheVariants as c
use Rattle.lps_examples.specs.Examples.{from_to, nullary, event_e, action_a, nesting_text, nesting_trace, nesting_key}
use Rattle.lps_meaning.specs.Goals.{Reaches, IsFulfilledWithin, HasLive, IsLive, IsCut, IsPending, IsClosed, shared_values}
use Rattle.lps_model.specs.Rules.{Rule, MacroClause, numbered, clauses_of, kind_of, is_macro}
use Rattle.lps_meaning.specs.Sequences.{Entry, Place, Times, Walk, stop, replace, replaced, link_at, AreAlike, IsSmallSoFar, IsWithin, start, is_call}
use Rattle.lps_examples.proofs.ExampleWalks.{first_same, not_empty, other_letter, only_one, constants, constants_ground, stops_or_passes, stops_or_replaces, some_of, only_numbered, small_atom}

abbrev m1 : List ℕ
m1 = codes "m1"

abbrev m2 : List ℕ
m2 = codes "m2"

abbrev m3 : List ℕ
m3 = codes "m3"

abbrev m4 : List ℕ
m4 = codes "m4"

abbrev m5 : List ℕ
m5 = codes "m5"

abbrev consequent : List Item
consequent = from_to (nullary m1) 2 3 ∷ []

abbrev the_rule : Rule
the_rule = record { antecedent = from_to event_e 0 1 ∷ []; alternatives = consequent ∷ [] }

abbrev clause : List ℕ → List ℕ → MacroClause
clause outer inner = record { head = nullary outer; begin = 0; end = 1; items = from_to (nullary inner) 0 1 ∷ [] }

-- the call of the alternative, and the item of the body that nests at n
abbrev outer_call : Entry
outer_call = record { env = 0; nest = 0; joins = false; item = from_to (nullary m1) 2 3 }

abbrev inner : ℕ → List ℕ → Entry
inner n name = record { env = n; nest = n; joins = false; item = from_to (nullary name) 0 1 }

-- the start, and the place with n calls replaced
abbrev at_0 : Place
at_0 = start nesting_text 1 consequent

abbrev at_1 : Place
at_1 = replaced nesting_text at_0 (link_at at_0 outer_call (nullary m1) 2 3 1 (clause m1 m2)) []

abbrev at_2 : Place
at_2 = replaced nesting_text at_1 (link_at at_1 (inner 1 m2) (nullary m2) 0 1 1 (clause m2 m3)) []

abbrev at_3 : Place
at_3 = replaced nesting_text at_2 (link_at at_2 (inner 2 m3) (nullary m3) 0 1 1 (clause m3 m4)) []

abbrev at_4 : Place
at_4 = replaced nesting_text at_3 (link_at at_3 (inner 3 m4) (nullary m4) 0 1 1 (clause m4 m5)) []

abbrev at_5 : Place
at_5 = replaced nesting_text at_4 (link_at at_4 (inner 4 m5) (nullary m5) 0 1 1 (clause m5 (codes "a"))) []

-- all from 1 to 2
abbrev times : Times
times zero zero = 0
times zero (suc zero) = 1
times zero (suc (suc zero)) = 1
times zero (suc (suc (suc v))) = 2
times (suc e) zero = 1
times (suc e) (suc v) = 2

-- a does not happen
never : (k : ℕ) (u : ℕ → Term) → Contains (events_at nesting_trace k) (put_atom u action_a) → ⊥
never zero u h = nothing_contained _ h
never (suc zero) u h = other_letter event_e (put_atom u action_a) 101 97 refl refl (λ e. omega (arith, e)) (only_one event_e (put_atom u action_a) h)
never (suc (suc k)) u h = nothing_contained _ h

module _ (level : List ℕ → ℕ) where
  abbrev Walking : Place → Place → Type 0
  Walking end place = Walk nesting_text level nesting_trace [] constants times 1 end place

  alike_1 : AreAlike [] constants constants at_1
  alike_1 = record { start = refl; past = tt; links = (refl, tt) }

  alike_2 : AreAlike [] constants constants at_2
  alike_2 = record { start = refl; past = tt; links = (refl, (refl, tt)) }

  alike_3 : AreAlike [] constants constants at_3
  alike_3 = record { start = refl; past = tt; links = (refl, (refl, (refl, tt))) }

  alike_4 : AreAlike [] constants constants at_4
  alike_4 = record { start = refl; past = tt; links = (refl, (refl, (refl, (refl, tt)))) }

  alike_5 : AreAlike [] constants constants at_5
  alike_5 = record { start = refl; past = tt; links = (refl, (refl, (refl, (refl, (refl, tt))))) }

  small_in : {place : Place} (n : ℕ) (name : List ℕ) → AreAlike [] constants constants place → IsSmallSoFar [] constants place (inner n name)
  small_in n name alike = record { other = constants; alike = alike; small = small_atom name }

  abbrev walk_3 : {end : Place} → Walking end at_3 → Walking end at_0
  walk_3 walk =
      replace outer_call [] (nullary m1) (record { 0 = 2 }) (record { 0 = 3 }) 1 (clause m1 m2) refl refl refl refl refl (refl, refl)
      (record { other = constants; alike = record { start = refl; past = tt; links = tt }; small = small_atom m1 })
      (replace (inner 1 m2) [] (nullary m2) (record { 0 = 0 }) (record { 0 = 1 }) 1 (clause m2 m3) refl refl refl refl refl (refl, refl) (small_in 1 m2 alike_1)
      (replace (inner 2 m3) [] (nullary m3) (record { 0 = 0 }) (record { 0 = 1 }) 1 (clause m3 m4) refl refl refl refl refl (refl, refl) (small_in 2 m3 alike_2) walk))

  abbrev walk_4 : {end : Place} → Walking end at_4 → Walking end at_0
  walk_4 walk =
      walk_3 (replace (inner 3 m4) [] (nullary m4) (record { 0 = 0 }) (record { 0 = 1 }) 1 (clause m4 m5) refl refl refl refl refl (refl, refl) (small_in 3 m4 alike_3) walk)

  abbrev walk_5 : {end : Place} → Walking end at_5 → Walking end at_0
  walk_5 walk =
      walk_4 (replace (inner 4 m5) [] (nullary m5) (record { 0 = 0 }) (record { 0 = 1 }) 1 (clause m5 (codes "a")) refl refl refl refl refl (refl, refl) (small_in 4 m5 alike_4) walk)

  abbrev reaches_by : {end : Place} → Walking end at_0 → Reaches nesting_text level nesting_trace nesting_key 1 end
  reaches_by walk = record {
    rule = the_rule;
    of_text = refl;
    alternative = 1;
    items = consequent;
    of_rule = refl;
    values = constants;
    times = times;
    ground = constants_ground;
    of_key = record { values = refl; times = refl };
    walk = walk;
  }

  cut_3 : IsCut nesting_text level nesting_trace 3 nesting_key 1 at_3
  cut_3 = record {
    plan = record {
      reaches = reaches_by (walk_3 stop);
      within = (omega arith, (omega arith, (omega arith, tt)));
      on = record {
        next = inner 3 m4;
        rest = [];
        is_next = refl;
        step = refl;
        ahead = omega arith;
        in_order = ((omega arith, omega arith), tt);
        limits = ((tt, tt), ((tt, tt), ((tt, tt), (tt, tt))));
        small = (small_in 3 m4 alike_3, tt);
      };
    };
    call = refl;
    deep = refl;
  }

  cut_4 : IsCut nesting_text level nesting_trace 4 nesting_key 1 at_4
  cut_4 = record {
    plan = record {
      reaches = reaches_by (walk_4 stop);
      within = (omega arith, (omega arith, (omega arith, (omega arith, tt))));
      on = record {
        next = inner 4 m5;
        rest = [];
        is_next = refl;
        step = refl;
        ahead = omega arith;
        in_order = ((omega arith, omega arith), tt);
        limits = ((tt, tt), ((tt, tt), ((tt, tt), ((tt, tt), (tt, tt)))));
        small = (small_in 4 m5 alike_4, tt);
      };
    };
    call = refl;
    deep = refl;
  }

  live_5 : IsLive nesting_text level nesting_trace 5 nesting_key 1 at_5
  live_5 = record {
    plan = record {
      reaches = reaches_by (walk_5 stop);
      within = (omega arith, (omega arith, (omega arith, (omega arith, (omega arith, tt)))));
      on = record {
        next = inner 5 (codes "a");
        rest = [];
        is_next = refl;
        step = refl;
        ahead = omega arith;
        in_order = ((refl, omega arith), tt);
        limits = ((tt, tt), ((tt, tt), ((tt, tt), ((tt, tt), ((tt, tt), (tt, tt))))));
        small = (small_in 5 (codes "a") alike_5, tt);
      };
    };
    no_call = refl;
  }

  -- what is reached is before a call, or at the action
  module _ (end : Place) (r : Reaches nesting_text level nesting_trace nesting_key 1 end) where
    abbrev given : List ℕ
    given = shared_values r.rule

    abbrev WalkFrom : Place → Type 0
    WalkFrom place = Walk nesting_text level nesting_trace given r.values r.times 1 end place

    rule_is : the_rule ≡ r.rule
    rule_is = some_of r.of_text

    items_are : consequent ≡ r.items
    items_are = (only_numbered consequent r.items r.alternative (subst (λ q. numbered q.alternatives r.alternative ≡ Some r.items) (sym rule_is) r.of_rule)).1

    pub record IsBeforeCall : Type 0 where
      pub next : Entry
      pub left : end.left ≡ next ∷ []
      pub call : is_call nesting_text next.item ≡ true

    into : (place : Place) (e : Entry) (a : Atom) (from to : TimeVar) (k : MacroClause) → place.left ≡ e ∷ [] → e.item ≡ i.Span a from to →
        is_macro (kind_of nesting_text a.name) ≡ true → clauses_of nesting_text a.name ≡ k ∷ [] → WalkFrom place →
        IsBeforeCall ⊎ WalkFrom (replaced nesting_text place (link_at place e a from.0 to.0 1 k) [])
    into place e a from to k left item macro clauses walk =
        elim (stops_or_replaces nesting_text level nesting_trace given r.values r.times e [] left a from to item macro walk) [
          | inl here ↦ inl (record { next = e; left = ap (λ p. p.left) here ∙ left; call = subst (λ it. is_call nesting_text it ≡ true) (sym item) macro })
          | inr q ↦ inr (let one = only_numbered k q.clause q.number (subst (λ ks. numbered ks q.number ≡ Some q.clause) clauses q.named) in
              subst WalkFrom (λ j. replaced nesting_text place (link_at place e a from.0 to.0 (one.0 j) (sym one.1 j)) []) q.walk)
        ]

    abbrev IsSomewhere : Type 0
    IsSomewhere = IsBeforeCall ⊎ (end ≡ at_5)

    then : {place : Place} → IsBeforeCall ⊎ WalkFrom place → (WalkFrom place → IsSomewhere) → IsSomewhere
    then (inl h) go = inl h
    then (inr walk) go = go walk

    call_in : (n : ℕ) (place : Place) (name : List ℕ) (k : MacroClause) → place.left ≡ inner n name ∷ [] → is_macro (kind_of nesting_text name) ≡ true →
        clauses_of nesting_text name ≡ k ∷ [] → WalkFrom place → IsBeforeCall ⊎ WalkFrom (replaced nesting_text place (link_at place (inner n name) (nullary name) 0 1 1 k) [])
    call_in n place name k left macro clauses walk = into place (inner n name) (nullary name) (record { 0 = 0 }) (record { 0 = 1 }) k left refl macro clauses walk

    at_action : WalkFrom at_5 → IsSomewhere
    at_action walk =
        elim (stops_or_passes nesting_text level nesting_trace given r.values r.times (inner 5 (codes "a")) [] refl refl walk) [
          | inl e ↦ inr e
          | inr g ↦ absurd (never (r.times 5 1) (r.values 5) g.is_true.1)
        ]

    where_is : IsSomewhere
    where_is =
        let walk : WalkFrom at_0 = subst (λ items. WalkFrom (start nesting_text 1 items)) (sym items_are) r.walk in
        then (into at_0 outer_call (nullary m1) (record { 0 = 2 }) (record { 0 = 3 }) (clause m1 m2) refl refl refl refl walk)
        (λ w1. then (call_in 1 at_1 m2 (clause m2 m3) refl refl refl w1)
        (λ w2. then (call_in 2 at_2 m3 (clause m3 m4) refl refl refl w2)
        (λ w3. then (call_in 3 at_3 m4 (clause m4 m5) refl refl refl w3)
        (λ w4. then (call_in 4 at_4 m5 (clause m5 (codes "a")) refl refl refl w4) at_action))))

  not_met : (depth : ℕ) → IsFulfilledWithin nesting_text level nesting_trace depth nesting_key 1 → ⊥
  not_met depth h =
      elim (where_is h.met.end h.met.reaches) [
        | inl call ↦ not_empty call.next [] (sym call.left ∙ h.met.whole)
        | inr e ↦ not_empty (inner 5 (codes "a")) [] (sym (ap (λ p. p.left) e) ∙ h.met.whole)
      ]

  is_no_call : {e next : Entry} → e ≡ next → is_call nesting_text e.item ≡ true → is_call nesting_text next.item ≡ false → ⊥
  is_no_call same call plain = let yes = subst (λ x. is_call nesting_text x.item ≡ true) same call in cc

  -- a live plan has replaced a call that nests at 5
  not_live : (depth : ℕ) → depth < 5 → HasLive nesting_text level nesting_trace depth nesting_key 1 → ⊥
  not_live depth small (end, live) =
      elim (where_is end live.plan.reaches) [
        | inl call ↦ is_no_call (first_same (sym call.left ∙ live.plan.on.is_next)) call.call live.no_call
        | inr e ↦ let deep : 5 ≤ depth = (subst (λ p. IsWithin depth p) e live.plan.within).0 in omega (arith, small, deep)
      ]

  pub nesting : IsClosed nesting_text level nesting_trace 3 nesting_key 1 c.Cut
      × IsClosed nesting_text level nesting_trace 4 nesting_key 1 c.Cut × IsPending nesting_text level nesting_trace 5 nesting_key 1
  nesting = (
    (not_met 3, not_live 3 (omega arith), (at_3, 1, omega arith, omega arith, cut_3)),
    (not_met 4, not_live 4 (omega arith), (at_4, 1, omega arith, omega arith, cut_4)),
    (not_met 5, (at_5, live_5)),
  )

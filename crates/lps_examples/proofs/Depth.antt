-- A call that nests at 2: at depth 1 the goal is cut, at depth 2 it is pending.
use Rattle.std.proofs.Common.{ℕ, zero, suc, true, false, ◌≡◌, ◌≤◌, ◌⊎◌, List, [], ◌∷◌, map, refl, sym, ap, subst, ◌∙◌, arith, inl, inr}
use Rattle.std.specs.Prelude.{Some, codes}
use Rattle.lps_terms.specs.declared.item.Item.{Item}
use Rattle.lps_meaning.specs.declared.goal.Closed.TheVariants as c
use Rattle.lps_examples.specs.Examples.{from_to, event_e, action_a, call_m, depth_text, depth_trace, depth_key}
use Rattle.lps_meaning.specs.Goals.{Reaches, IsFulfilledWithin, HasLive, IsLive, IsCut, IsPending, IsClosed, shared_values, shared_times}
use Rattle.lps_meaning.specs.Items.{IsSmallItem, put_item}
use Rattle.lps_model.specs.Rules.{Rule, MacroClause, numbered}
use Rattle.lps_meaning.specs.Sequences.{Entry, Place, Values, Times, Walk, stop, pass, replace, passed, replaced, link_at, IsSmallSoFar, IsAhead, IsWithin, HasSameTimes, start, is_call}
use Rattle.lps_examples.proofs.ExampleWalks.{first_same, not_empty, constants, constants_ground, stops_or_passes, stops_or_replaces, some_of, only_numbered, small_atom}
use Rattle.lps_meaning.proofs.Splits.{within_back}

abbrev consequent : List Item
consequent = from_to call_m 1 2 ∷ []

abbrev the_rule : Rule
the_rule = record { antecedent = from_to event_e 0 1 ∷ []; alternatives = consequent ∷ [] }

abbrev the_clause : MacroClause
the_clause = record { head = call_m; begin = 0; end = 2; items = from_to action_a 0 1 ∷ from_to call_m 1 2 ∷ [] }

abbrev entry_at : ℕ → ℕ → Item → Entry
entry_at env nest item = record { env = env; nest = nest; joins = false; item = item }

-- the call of the alternative, and the action and the call of a body
abbrev outer_call : Entry
outer_call = entry_at 0 0 (from_to call_m 1 2)

abbrev inner_action : ℕ → Entry
inner_action n = entry_at n n (from_to action_a 0 1)

abbrev inner_call : ℕ → Entry
inner_call n = entry_at n n (from_to call_m 1 2)

abbrev begin : Place
begin = start depth_text 1 consequent

-- the body in the place of the first call, the place behind its action, and the body in the place of its call
abbrev in_body : Place
in_body = replaced depth_text begin (link_at begin outer_call call_m 1 2 1 the_clause) []

abbrev behind_a : Times → Place
behind_a t = passed t in_body (inner_action 1) (inner_call 1 ∷ [])

abbrev in_second : Times → Place
in_second t = replaced depth_text (behind_a t) (link_at (behind_a t) (inner_call 1) call_m 1 2 1 the_clause) []

-- of the text: m from 1 to 3; of the first body: a from 1 to 2, m from 2 to 3; of the second: a from 2 to 3, m from 3 to 3
abbrev times : Times
times zero zero = 0
times zero (suc zero) = 1
times zero (suc (suc v)) = 3
times (suc zero) zero = 1
times (suc zero) (suc zero) = 2
times (suc zero) (suc (suc v)) = 3
times (suc (suc e)) zero = 2
times (suc (suc e)) (suc v) = 3

module _ (level : List ℕ → ℕ) where
  abbrev Walking : Values → Times → ℕ → Place → Place → Type 0
  Walking s t now end place = Walk depth_text level depth_trace [] s t now end place

  small_at : (place : Place) (e : Entry) → IsSmallItem (put_item (constants e.env) e.item) → map (constants 0) [] ≡ map (constants 0) [] → IsSmallSoFar [] constants begin e
  small_at place e h same = record { other = constants; alike = record { start = same; past = tt; links = tt }; small = h }

  small_behind : (e : Entry) → IsSmallItem (put_item (constants e.env) e.item) → IsSmallSoFar [] constants (behind_a times) e
  small_behind e h = record { other = constants; alike = record { start = refl; past = (refl, tt); links = (refl, tt) }; small = h }

  small_second : (e : Entry) → IsSmallItem (put_item (constants e.env) e.item) → IsSmallSoFar [] constants (in_second times) e
  small_second e h = record { other = constants; alike = record { start = refl; past = (refl, tt); links = (refl, (refl, tt)) }; small = h }

  -- up to a place behind a
  abbrev walk_on : {end : Place} → Walking constants times 2 end (behind_a times) → Walking constants times 2 end begin
  walk_on walk =
      replace outer_call [] call_m (record { 0 = 1 }) (record { 0 = 2 }) 1 the_clause refl refl refl refl refl (refl, refl) (small_at begin outer_call (small_atom (codes "m")) refl)
      (pass 1 1 false (from_to action_a 0 1) (inner_call 1 ∷ []) refl refl (omega arith, (0, omega arith, refl)) (small_atom (codes "a")) (refl, omega arith) walk)

  abbrev reaches_on : {end : Place} → Walking constants times 2 end (behind_a times) → Reaches depth_text level depth_trace depth_key 2 end
  reaches_on walk = record {
    rule = the_rule;
    of_text = refl;
    alternative = 1;
    items = consequent;
    of_rule = refl;
    values = constants;
    times = times;
    ground = constants_ground;
    of_key = record { values = refl; times = refl };
    walk = walk_on walk;
  }

  is_cut : IsCut depth_text level depth_trace 1 depth_key 2 (behind_a times)
  is_cut = record {
    plan = record {
      reaches = reaches_on stop;
      within = (omega arith, tt);
      on = record {
        next = inner_call 1;
        rest = [];
        is_next = refl;
        step = refl;
        ahead = omega arith;
        in_order = ((omega arith, omega arith), tt);
        limits = ((tt, (tt, tt)), (tt, tt));
        small = (small_behind (inner_call 1) (small_atom (codes "m")), tt);
      };
    };
    call = refl;
    deep = refl;
  }

  is_live : IsLive depth_text level depth_trace 2 depth_key 2 (in_second times)
  is_live = record {
    plan = record {
      reaches = reaches_on (replace (inner_call 1) [] call_m (record { 0 = 1 }) (record { 0 = 2 }) 1 the_clause refl refl refl refl refl (refl, refl)
          (small_behind (inner_call 1) (small_atom (codes "m"))) stop);
      within = (omega arith, (omega arith, tt));
      on = record {
        next = inner_action 2;
        rest = inner_call 2 ∷ [];
        is_next = refl;
        step = refl;
        ahead = omega arith;
        in_order = ((refl, omega arith), ((omega arith, omega arith), tt));
        limits = ((tt, (tt, tt)), ((tt, (tt, tt)), (tt, tt)));
        small = (small_second (inner_action 2) (small_atom (codes "a")), (small_second (inner_call 2) (small_atom (codes "m")), tt));
      };
    };
    no_call = refl;
  }

  -- a place that is reached by now
  module _ (now : ℕ) (end : Place) (r : Reaches depth_text level depth_trace depth_key now end) where
    rule_is : the_rule ≡ r.rule
    rule_is = some_of r.of_text

    items_are : consequent ≡ r.items
    items_are = (only_numbered consequent r.items r.alternative (subst (λ q. numbered q.alternatives r.alternative ≡ Some r.items) (sym rule_is) r.of_rule)).1

    time_is : r.times 0 1 ≡ 1
    time_is = first_same (subst (λ q. map (r.times 0) (shared_times q) ≡ 1 ∷ []) (sym rule_is) r.of_key.times)

    abbrev given : List ℕ
    given = shared_values r.rule

    abbrev WalkFrom : Place → Type 0
    WalkFrom place = Walk depth_text level depth_trace given r.values r.times now end place

    -- begins when the alternative does
    abbrev BeginsThere : Type 0
    BeginsThere = r.times 0 1 ≡ r.times 1 0

    -- the start, the first body, behind its action, or past the second call
    abbrev IsSomewhere : Type 0
    IsSomewhere = (end ≡ begin) ⊎ ((end ≡ in_body) × BeginsThere) ⊎ (end ≡ behind_a r.times) ⊎ (WalkFrom (in_second r.times) × (2 ≤ r.times 1 1))

    second : WalkFrom (behind_a r.times) → (end ≡ behind_a r.times) ⊎ WalkFrom (in_second r.times)
    second walk =
        elim (stops_or_replaces depth_text level depth_trace given r.values r.times (inner_call 1) [] refl call_m (record { 0 = 1 }) (record { 0 = 2 }) refl refl walk) [
          | inl e ↦ inl e
          | inr q ↦ inr (let one = only_numbered the_clause q.clause q.number q.named in
              subst (λ p. WalkFrom p) (λ j. replaced depth_text (behind_a r.times) (link_at (behind_a r.times) (inner_call 1) call_m 1 2 (one.0 j) (sym one.1 j)) []) q.walk)
        ]

    where_is : IsSomewhere
    where_is =
        let walk : WalkFrom begin = subst (λ items. WalkFrom (start depth_text 1 items)) (sym items_are) r.walk in
        elim (stops_or_replaces depth_text level depth_trace given r.values r.times outer_call [] refl call_m (record { 0 = 1 }) (record { 0 = 2 }) refl refl walk) [
          | inl e ↦ inl e
          | inr q ↦
              let one = only_numbered the_clause q.clause q.number q.named in
              let begins : BeginsThere = (subst (λ l. HasSameTimes r.times l) (λ j. link_at begin outer_call call_m 1 2 (one.0 j) (sym one.1 j)) q.times).0 in
              let body : WalkFrom in_body = subst (λ p. WalkFrom p) (λ j. replaced depth_text begin (link_at begin outer_call call_m 1 2 (one.0 j) (sym one.1 j)) []) q.walk in
              elim (stops_or_passes depth_text level depth_trace given r.values r.times (inner_action 1) (inner_call 1 ∷ []) refl refl body) [
                | inl e ↦ inr (inl (e, begins))
                | inr g ↦ elim (second g.walk) [ inl e ↦ inr (inr (inl e)) | inr more ↦ inr (inr (inr (more, let from = g.placed.0 in let later = g.placed.1 in omega (arith, from, later)))) ]
              ]
        ]

    -- past the second call no place is within depth 1
    too_deep : IsWithin 1 end → WalkFrom (in_second r.times) → ⊥
    too_deep within walk = let deep = (within_back depth_text level depth_trace given r.values r.times 1 walk within).0 in omega (arith, deep)

  left_is : {end place : Place} → end ≡ place → place.left ≡ end.left
  left_is e = sym (ap (λ p. p.left) e)

  not_met_one : IsFulfilledWithin depth_text level depth_trace 1 depth_key 2 → ⊥
  not_met_one h =
      elim (where_is 2 h.met.end h.met.reaches) [
        | inl e ↦ not_empty outer_call [] (left_is e ∙ h.met.whole)
        | inr (inl e) ↦ not_empty (inner_action 1) (inner_call 1 ∷ []) (left_is e.0 ∙ h.met.whole)
        | inr (inr (inl e)) ↦ not_empty (inner_call 1) [] (left_is e ∙ h.met.whole)
        | inr (inr (inr more)) ↦ too_deep 2 h.met.end h.met.reaches h.within more.0
      ]

  is_no_call : {e next : Entry} → e ≡ next → is_call depth_text e.item ≡ true → is_call depth_text next.item ≡ false → ⊥
  is_no_call same call plain = let yes = subst (λ x. is_call depth_text x.item ≡ true) same call in cc

  not_live_one : HasLive depth_text level depth_trace 1 depth_key 2 → ⊥
  not_live_one (end, live) =
      let r = live.plan.reaches in
      let on = live.plan.on in
      elim (where_is 2 end r) [
        | inl e ↦ is_no_call (first_same (left_is e ∙ on.is_next)) refl live.no_call
        | inr (inl e) ↦
            let ahead : 2 ≤ r.times 1 0 = subst (λ x. IsAhead 2 (r.times x.env) x.item) (sym (first_same (left_is e.0 ∙ on.is_next))) on.ahead in
            let begins = e.1 in omega (arith, ahead, begins, time_is 2 end r)
        | inr (inr (inl e)) ↦ is_no_call (first_same (left_is e ∙ on.is_next)) refl live.no_call
        | inr (inr (inr more)) ↦ too_deep 2 end r live.plan.within more.0
      ]

  -- the action of the second body is over in cycle 3 at the earliest
  not_over : (now : ℕ) (end : Place) (r : Reaches depth_text level depth_trace depth_key now end) → now ≤ 2 → 2 ≤ r.times 1 1 → end.left ≡ [] →
      Walk depth_text level depth_trace (shared_values r.rule) r.values r.times now end (in_second r.times) → ⊥
  not_over now end r by first whole walk =
      elim (stops_or_passes depth_text level depth_trace (shared_values r.rule) r.values r.times (inner_action 2) (inner_call 2 ∷ []) refl refl walk) [
        | inl e ↦ not_empty (inner_action 2) (inner_call 2 ∷ []) (left_is e ∙ whole)
        | inr g ↦ let over = g.is_true.0 in let one = g.placed.0 in let later = g.placed.1 in omega (arith, over, one, later)
      ]

  not_met_two : IsFulfilledWithin depth_text level depth_trace 2 depth_key 2 → ⊥
  not_met_two h =
      elim (where_is 2 h.met.end h.met.reaches) [
        | inl e ↦ not_empty outer_call [] (left_is e ∙ h.met.whole)
        | inr (inl e) ↦ not_empty (inner_action 1) (inner_call 1 ∷ []) (left_is e.0 ∙ h.met.whole)
        | inr (inr (inl e)) ↦ not_empty (inner_call 1) [] (left_is e ∙ h.met.whole)
        | inr (inr (inr more)) ↦ not_over 2 h.met.end h.met.reaches (omega arith) more.1 h.met.whole more.0
      ]

  pub depth : IsClosed depth_text level depth_trace 1 depth_key 2 c.Cut × IsPending depth_text level depth_trace 2 depth_key 2
  depth = ((not_met_one, not_live_one, (behind_a times, 2, omega arith, omega arith, is_cut)), (not_met_two, (in_second times, is_live)))

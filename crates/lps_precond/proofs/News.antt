-- A denial that the old events do not violate is violated by all events only where one of the events that are to happen is new, or
-- where it has a condition on the state after that asks for a touched fluent, or for a derived predicate.
use Rattle.std.proofs.Common.{ℕ, Bool, true, false, ◌≡◌, List, [], ◌∷◌, length, refl, sym, ap, ◌∙◌, subst, arith, inl, inr}
use Rattle.std.specs.Prelude.{◌↔◌, ◌⊎◌, ◌||◌, Contains, Option, Some, None}
use Rattle.std.specs.List.{flat_map, list_any}
use Rattle.std.proofs.lemmas.List.Elements.{Contains-append_left, Contains-append_right}
use Rattle.lps_terms.specs.declared.atom.Atom.{Atom}
use Rattle.lps_terms.specs.declared.cond.Cond.{Cond}
use Rattle.lps_terms.specs.declared.cond.Cond.TheVariants as c
use Rattle.lps_terms.specs.declared.item.Item.{Item}
use Rattle.lps_terms.specs.declared.item.Item.TheVariants as i
use Rattle.lps_terms.specs.declared.kind.Kind.{Kind}
use Rattle.lps_terms.specs.declared.kind.Kind.TheVariants as k
use Rattle.lps_terms.specs.declared.lit.Lit.{Lit}
use Rattle.lps_terms.specs.declared.term.Term.{Term}
use Rattle.lps_terms.specs.declared.text.Text.{Text}
use Rattle.lps_terms.specs.Put.{put_atom}
use Rattle.lps_model.specs.declared.place.Place.TheVariants.{Head}
use Rattle.lps_model.specs.Acceptance.{IsAccepted}
use Rattle.lps_model.specs.Clauses.{clauses}
use Rattle.lps_model.specs.Formed.{is_formed}
use Rattle.lps_model.specs.KindRefusals.{may_stand}
use Rattle.lps_model.specs.Order.{span_in}
use Rattle.lps_model.specs.Rules.{kind_of}
use Rattle.lps_model.proofs.Elements.{first_is_contained, first_or_later, later_is_contained, nothing_contained}
use Rattle.lps_values.specs.Truth.{is_true}
use Rattle.lps_derivation.specs.Derivation.{Agrees, of_fact}
use Rattle.lps_derivation.specs.Instances.{put_cond}
use Rattle.lps_derivation.specs.Laws.{IsDerivedFrom, Passes}
use Rattle.lps_derivation.specs.Levels.{AreLevels}
use Rattle.lps_derivation.proofs.Trees.{only_fact}
use Rattle.lps_meaning.specs.Holds.{IsTrueOver}
use Rattle.lps_meaning.proofs.Persistence.{agrees_same, turn}
use Rattle.lps_facts.specs.Facts.{is_among}
use Rattle.lps_causal.specs.Names.{AreFluents}
use Rattle.lps_causal.proofs.Happening.{is_condition, is_timeless, timeless_everywhere, true_where_fact}
use Rattle.lps_causal.proofs.Placed.{head_kind}
use Rattle.lps_solve.specs.Met.{AreMet, IsMetCond}
use Rattle.lps_solve.proofs.Facts.{among_contains, contains_among}
use Rattle.lps_precond.specs.Cut.{Cut, asks_derived, cuts, events_of, is_derived_kind, touch_by, touch_of}
use Rattle.lps_precond.specs.Stages.{AreNews, IsAnswered, IsViolated, IsViolatedBy, IsViolatedByFluent, ViolateNone, single}
use Rattle.lps_precond.proofs.Alike.{same_truth, then_both}
use Rattle.lps_precond.proofs.Asked.{derived_is, event_conds, is_cut, items, state_conds, stated, touches_are}
use Rattle.lps_precond.proofs.Modes.{AreEventConds, AreStateConds, IsEventCond, IsStateCond}

-- a fluent may not stand in the head of a clause
no_head : (kind : Kind) → Some kind ≡ Some k.Fluent → may_stand Head kind ≡ true → ⊥
no_head k.Fluent e h = cc
no_head k.Derived e h = cc
no_head k.Timeless e h = cc
no_head k.Event e h = cc
no_head k.Action e h = cc
no_head k.Macro e h = cc

neither : (a b : Bool) → (a || b) ≡ false → (a ≡ false) × (b ≡ false)
neither false b h = (refl, h)
neither true b h = absurd (cc)

module _ (text : Text) (accepted : IsAccepted text) (level : List ℕ → ℕ) where
  -- over the same facts the same conditions are met
  same_met : (one two : List Atom) → ((a : Atom) → Contains one a ↔ Contains two a) → (k : Cond) → IsMetCond (clauses text) one level k → IsMetCond (clauses text) two level k
  same_met one two same (c.Lit l) h = record { ground = h.ground; small = h.small; met = agrees_same l.negated _ _ (same_truth text level (Contains one) (Contains two) same l.atom) h.met }
  same_met one two same (c.Built built) h = record { ground = h.ground; small = h.small; met = h.met }

  pub all_met : (one two : List Atom) → ((a : Atom) → Contains one a ↔ Contains two a) → (s : ℕ → Term) (conds : List Cond) → AreMet (clauses text) one level s conds → AreMet (clauses text) two level s conds
  all_met one two same s [] met = tt
  all_met one two same s (k ∷ conds) met = (same_met one two same (put_cond s k) met.0, all_met one two same s conds met.1)

  -- an event is met where it is a fact
  module _ (s : ℕ → Term) (l : Lit) (is : IsEventCond text (c.Lit l)) where
    abbrev event : Atom
    event = put_atom s l.atom

    pub event_met : (facts : List Atom) → IsMetCond (clauses text) facts level (put_cond s (c.Lit l)) → Contains facts event
    event_met facts h = (true_where_fact text accepted level (Contains facts) event is.1).0 (subst (λ n. Agrees n (IsDerivedFrom is_true (clauses text) facts level event)) is.0 h.met)

    event_moves : (facts other : List Atom) → Contains other event → IsMetCond (clauses text) facts level (put_cond s (c.Lit l)) → IsMetCond (clauses text) other level (put_cond s (c.Lit l))
    event_moves facts other at h = record {
      ground = h.ground;
      small = h.small;
      met = subst (λ n. Agrees n (IsDerivedFrom is_true (clauses text) other level event)) (sym is.0) ((true_where_fact text accepted level (Contains other) event is.1).1 at);
    }

  module _ (new old events : List Atom) (split : (a : Atom) → Contains events a ↔ (Contains old a ⊎ Contains new a)) (s : ℕ → Term) where
    -- a condition that is met over the new events
    abbrev HasNew : List Cond → Type 0
    HasNew conds = (k : Cond) × Contains conds k × AreMet (clauses text) new level s (single k)

    pub one_event : (k : Cond) → IsEventCond text k → IsMetCond (clauses text) events level (put_cond s k) → IsMetCond (clauses text) old level (put_cond s k) ⊎ IsMetCond (clauses text) new level (put_cond s k)
    one_event (c.Lit l) is h =
        elim ((split (put_atom s l.atom)).0 (event_met s l is events h)) [
          | inl before ↦ inl (event_moves s l is events old before h)
          | inr here ↦ inr (event_moves s l is events new here h)
        ]
    one_event (c.Built built) is h = absurd is

    old_or_new : (conds : List Cond) → AreEventConds text conds → AreMet (clauses text) events level s conds → AreMet (clauses text) old level s conds ⊎ HasNew conds
    old_or_new [] are met = inl tt
    old_or_new (k ∷ conds) are met = by (one_event k (are k (first_is_contained k conds)) met.0) (old_or_new conds (λ other at. are other (later_is_contained k conds other at)) met.1)
      where
        by : IsMetCond (clauses text) old level (put_cond s k) ⊎ IsMetCond (clauses text) new level (put_cond s k) → AreMet (clauses text) old level s conds ⊎ HasNew conds → AreMet (clauses text) old level s (k ∷ conds) ⊎ HasNew (k ∷ conds)
        by (inr one) rest = inr (k, first_is_contained k conds, (one, tt))
        by (inl one) (inr rest) = inr (rest.0, later_is_contained k conds rest.0 rest.1, rest.2)
        by (inl one) (inl rest) = inl (one, rest)

  -- a fluent is true where it is a fact
  fluent_where_fact : (IsFact : Atom → Type 0) (a : Atom) → kind_of text a.name ≡ Some k.Fluent → IsTrueOver text level IsFact a ↔ IsFact a
  fluent_where_fact IsFact a fluent = (
    (λ tree. only_fact (Passes is_true) (clauses text) IsFact tree (λ defined.
        let found = head_kind text accepted defined.clause defined.among in
        no_head found.kind (sym found.is ∙ ap (kind_of text) defined.named ∙ fluent) found.may)),
    (λ h. of_fact h),
  )

  -- Two sets of fluents differ in the touched ones alone.
  module _ (one two touched : List Atom) (apart : (a : Atom) → (Contains touched a → ⊥) → Contains one a ↔ Contains two a) (ones : AreFluents text one) (twos : AreFluents text two) (s : ℕ → Term) where
    -- a touched fluent that one of the conditions asks for
    abbrev HasTouched : List Cond → Type 0
    HasTouched touches = (k : Cond) × Contains touches k × AreMet (clauses text) touched level s (single k)

    module _ (l : Lit) (h : IsMetCond (clauses text) one level (put_cond s (c.Lit l))) where
      abbrev atom : Atom
      atom = put_atom s l.atom

      alike : IsTrueOver text level (Contains one) atom ↔ IsTrueOver text level (Contains two) atom → IsMetCond (clauses text) two level (put_cond s (c.Lit l))
      alike same = record { ground = h.ground; small = h.small; met = agrees_same l.negated _ _ same h.met }

      of_fluent : kind_of text l.atom.name ≡ Some k.Fluent → (there : Bool) → is_among touched atom ≡ there →
          IsMetCond (clauses text) two level (put_cond s (c.Lit l)) ⊎ HasTouched (c.Lit (record { negated = false; atom = l.atom }) ∷ [])
      of_fluent fluent true there =
          let k : Cond = c.Lit (record { negated = false; atom = l.atom }) in
          inr (k, first_is_contained k [], (record { ground = h.ground; small = h.small; met = (fluent_where_fact (Contains touched) atom fluent).1 (contains_among atom touched there) }, tt))
      of_fluent fluent false there =
          let same = apart atom (λ at. let yes : is_among touched atom ≡ true = among_contains atom touched at in cc) in
          inl (alike (then_both (fluent_where_fact (Contains one) atom fluent) (then_both same (turn (fluent_where_fact (Contains two) atom fluent)))))

      of_kind : (kind : Option Kind) → kind_of text l.atom.name ≡ kind → is_condition kind ≡ true → is_derived_kind kind ≡ false → IsMetCond (clauses text) two level (put_cond s (c.Lit l)) ⊎ HasTouched (touch_by kind l)
      of_kind (Some k.Fluent) is state plain = of_fluent is (is_among touched atom) refl
      of_kind (Some k.Timeless) is state plain =
          inl (alike (timeless_everywhere text accepted level (Contains one) (Contains two) (λ b at. (ones.each b at).kind) (λ b at. (twos.each b at).kind) atom (ap is_timeless is)))
      of_kind (Some k.Derived) is state plain = absurd (cc)
      of_kind (Some k.Event) is state plain = absurd (cc)
      of_kind (Some k.Action) is state plain = absurd (cc)
      of_kind (Some k.Macro) is state plain = absurd (cc)
      of_kind None is state plain = absurd (cc)

    one_stays : (k : Cond) → IsStateCond text k → asks_derived text k ≡ false → IsMetCond (clauses text) one level (put_cond s k) → IsMetCond (clauses text) two level (put_cond s k) ⊎ HasTouched (touch_of text k)
    one_stays (c.Lit l) is plain h = of_kind l h (kind_of text l.atom.name) refl is plain
    one_stays (c.Built built) is plain h = inl (record { ground = h.ground; small = h.small; met = h.met })

    -- conditions that ask for nothing derived stay met, or one of them asks for a touched fluent
    stay_or_touched : (conds : List Cond) → AreStateConds text conds → list_any (asks_derived text) conds ≡ false → AreMet (clauses text) one level s conds →
        AreMet (clauses text) two level s conds ⊎ HasTouched (flat_map (touch_of text) conds)
    stay_or_touched [] are plain met = inl tt
    stay_or_touched (k ∷ conds) are plain met =
        let both = neither (asks_derived text k) (list_any (asks_derived text) conds) plain in
        by (one_stays k (are k (first_is_contained k conds)) both.0 met.0) (stay_or_touched conds (λ other at. are other (later_is_contained k conds other at)) both.1 met.1)
      where
        by : IsMetCond (clauses text) two level (put_cond s k) ⊎ HasTouched (touch_of text k) → AreMet (clauses text) two level s conds ⊎ HasTouched (flat_map (touch_of text) conds) →
            AreMet (clauses text) two level s (k ∷ conds) ⊎ HasTouched (flat_map (touch_of text) (k ∷ conds))
        by (inr here) rest = inr (here.0, Contains-append_left (touch_of text k) (flat_map (touch_of text) conds) here.0 here.1, here.2)
        by (inl stays) (inr later) = inr (later.0, Contains-append_right (touch_of text k) (flat_map (touch_of text) conds) later.0 later.1, later.2)
        by (inl stays) (inl rest) = inl (stays, rest)

  -- where one thing is to happen, all that is to happen is new
  module _ (new events before after : List Atom) (within : (a : Atom) → Contains new a → Contains events a) (denial : Cut) (are : AreEventConds text denial.happen) where
    wider : (s : ℕ → Term) (conds : List Cond) → AreEventConds text conds → AreMet (clauses text) new level s conds → AreMet (clauses text) events level s conds
    wider s [] these met = tt
    wider s (k ∷ conds) these met = (one k (these k (first_is_contained k conds)) met.0, wider s conds (λ other at. these other (later_is_contained k conds other at)) met.1)
      where
        one : (k : Cond) → IsEventCond text k → IsMetCond (clauses text) new level (put_cond s k) → IsMetCond (clauses text) events level (put_cond s k)
        one (c.Lit l) is h = event_moves s l is new events (within (put_atom s l.atom) (event_met s l is new h)) h
        one (c.Built built) is h = absurd is

    only_one : (conds : List Cond) → length conds ≡ 1 → (k : Cond) → Contains conds k → single k ≡ conds
    only_one [] one k at = absurd (nothing_contained k at)
    only_one (x ∷ []) one k at = elim (first_or_later x [] k at) [ inl same ↦ (λ i. sym same i ∷ []) | inr none ↦ absurd (nothing_contained k none) ]
    only_one (x ∷ y ∷ conds) one k at = absurd (omega (arith, one))

    pub over_new : length denial.happen ≡ 1 → (answer : Bool) → (answer ≡ true) ↔ IsViolated (clauses text) new before after level denial →
        IsAnswered (clauses text) events before after level denial (IsViolatedBy (clauses text) new events before after level denial denial.happen) answer
    over_new one answer is = record {
      sound = λ yes. let h = is.0 yes in record { values = h.values; happen = wider h.values denial.happen are h.happen; front = h.front; back = h.back };
      complete = λ h. is.1 (record {
        values = h.violated.values;
        happen = subst (AreMet (clauses text) new level h.violated.values) (only_one denial.happen one h.cond h.among) h.violated.start;
        front = h.violated.front;
        back = h.violated.back;
      });
    }

-- ---- no events

some_event : (first second : ℕ) (items : List Item) → span_in items ≡ Some (first, second) → (k : Cond) × Contains (events_of items) k
some_event first second [] e = absurd (cc)
some_event first second (i.Span a from to ∷ items) e = (c.Lit (record { negated = false; atom = a }), first_is_contained (c.Lit (record { negated = false; atom = a })) (events_of items))
some_event first second (i.At l time ∷ items) e = some_event first second items e
some_event first second (i.Bare l ∷ items) e = some_event first second items e
some_event first second (i.Built built ∷ items) e = some_event first second items e
some_event first second (i.Con con ∷ items) e = some_event first second items e

-- where nothing happens no denial of an accepted text is violated
pub none_violated_by : (text : Text) → IsAccepted text → is_formed text ≡ true → (events before after : List Atom) → ((a : Atom) → Contains events a → ⊥) → ViolateNone text events before after
none_violated_by text accepted formed events before after none level levels denial of_text h =
    let one : (k : Cond) × Contains denial.happen k =
    subst (λ (d : Cut). (k : Cond) × Contains d.happen k) (is_cut text accepted formed denial of_text)
    (let known = stated text accepted formed denial of_text in some_event known.first known.second (items text accepted formed denial of_text) known.span) in
    never one.0 (event_conds text accepted formed denial of_text one.0 one.1) (met_one h.values denial.happen one.0 h.happen one.1)
  where
    met_one : (s : ℕ → Term) (conds : List Cond) (k : Cond) → AreMet (clauses text) events level s conds → Contains conds k → IsMetCond (clauses text) events level (put_cond s k)
    met_one s [] k met at = absurd (nothing_contained k at)
    met_one s (x ∷ conds) k met at =
        elim (first_or_later x conds k at) [
          | inl same ↦ subst (λ (z : Cond). IsMetCond (clauses text) events level (put_cond s z)) same met.0
          | inr later ↦ met_one s conds k met.1 later
        ]

    never : (k : Cond) → IsEventCond text k → IsMetCond (clauses text) events level (put_cond h.values k) → ⊥
    never (c.Lit l) is met = none _ (event_met text accepted level h.values l is events met)
    never (c.Built built) is met = is

pub nothing_violated : (text : Text) → IsAccepted text → is_formed text ≡ true → (before after : List Atom) → ViolateNone text [] before after
nothing_violated text accepted formed before after = none_violated_by text accepted formed [] before after (λ a at. nothing_contained a at)

-- ---- what is new

module _ (text : Text) (accepted : IsAccepted text) (formed : is_formed text ≡ true) (level : List ℕ → ℕ) (levels : AreLevels (clauses text) level) (events new happened before after touched : List Atom)
    (news : AreNews text events new happened before after touched) (denial : Cut) (of_text : Contains (cuts text) denial) (h : IsViolated (clauses text) happened before after level denial) where
  abbrev IsByNew : Type 0
  IsByNew = IsViolatedBy (clauses text) new happened before after level denial denial.happen

  abbrev IsByTouched : Type 0
  IsByTouched = IsViolatedByFluent (clauses text) touched happened before after level denial

  -- by a new event, or by old ones alone
  by_new_or_old : IsByNew ⊎ AreMet (clauses text) news.old level h.values denial.happen
  by_new_or_old =
      elim (old_or_new text accepted level new news.old happened news.split h.values denial.happen (event_conds text accepted formed denial of_text) h.happen) [
        | inl old ↦ inr old
        | inr one ↦ inl (record { cond = one.0; among = one.1; violated = record { values = h.values; start = one.2; happen = h.happen; front = h.front; back = h.back } })
      ]

  not_earlier : AreMet (clauses text) news.old level h.values denial.happen → AreMet (clauses text) news.earlier level h.values denial.back → ⊥
  not_earlier old back = news.allowed level levels denial of_text (record { values = h.values; happen = old; front = h.front; back = back })

  -- a violated denial is violated with a new event, or by a touched fluent
  pub by_new_or_touched : AreFluents text after → IsByNew ⊎ IsByTouched
  by_new_or_touched fluents = elim by_new_or_old [ inl new ↦ inl new | inr old ↦ inr (turned old denial.is_derived refl) ]
    where
      turned : AreMet (clauses text) news.old level h.values denial.happen → (derived : Bool) → denial.is_derived ≡ derived → IsByTouched
      turned old true is = inl (is, h)
      turned old false is =
          elim (stay_or_touched text accepted level after news.earlier touched news.untouched fluents news.fluents h.values denial.back (state_conds text accepted formed denial of_text)
          (sym (derived_is text accepted formed denial of_text) ∙ is) h.back) [
            | inl back ↦ absurd (not_earlier old back)
            | inr one ↦ inr (record {
              cond = one.0;
              among = subst (λ (ks : List Cond). Contains ks one.0) (sym (touches_are text accepted formed denial of_text)) one.1;
              violated = record { values = h.values; start = one.2; happen = h.happen; front = h.front; back = h.back };
            })
          ]

  -- where there are no old events, or nothing is touched, it is violated with a new event
  pub by_new_alone : (length events ≡ length new) ⊎ (touched ≡ []) → IsByNew
  by_new_alone none = elim by_new_or_old [ inl new ↦ new | inr old ↦ absurd (no_old old none) ]
    where
      no_old : AreMet (clauses text) news.old level h.values denial.happen → (length events ≡ length new) ⊎ (touched ≡ []) → ⊥
      no_old old (inl first) = none_violated_by text accepted formed news.old before after (news.first first) level levels denial of_text (record { values = h.values; happen = old; front = h.front; back = h.back })
      no_old old (inr nothing) =
          not_earlier old (all_met text accepted level after news.earlier (λ a. news.untouched a (λ at. nothing_contained a (subst (λ (atoms : List Atom). Contains atoms a) nothing at))) h.values denial.back h.back)

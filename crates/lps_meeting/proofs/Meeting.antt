-- An item is met in a walk exactly in the ways and at the times that are found for it, and what is left then is what the code leaves.
use Rattle.std.proofs.Common.{ℕ, Bool, true, false, ◌≡◌, ◌≤◌, ◌<◌, List, [], ◌∷◌, map, refl, sym, ap, subst, ◌∙◌, inl, inr, arith}
use Rattle.std.specs.Prelude.{◌⊎◌, ◌&&◌, ◌||◌, zero, suc, nat_eq, nat_lt, if◌then◌else◌, Contains, IsTrue, Some}
use Rattle.std.specs.List.{AllByRecursion}
use Rattle.std.proofs.lemmas.Bool.{eqb-true}
use Rattle.std.proofs.lemmas.Bool.Decides.{nat_tests}
use Rattle.lps_terms.specs.declared.atom.Atom.{Atom}
use Rattle.lps_terms.specs.declared.term.Term.{Term}
use Rattle.lps_terms.specs.declared.term.Term.TheVariants as t
use Rattle.lps_terms.specs.declared.text.Text.{Text}
use Rattle.lps_terms.specs.Put.{after, put, put_atom}
use Rattle.lps_facts.specs.Facts.{members}
use Rattle.lps_model.specs.declared.trace.Trace.{Trace}
use Rattle.lps_model.specs.Clauses.{clauses}
use Rattle.lps_model.specs.Order.{happens}
use Rattle.lps_model.specs.Rules.{is_macro, kind_of}
use Rattle.lps_derivation.specs.Levels.{AreLevels}
use Rattle.lps_meaning.specs.declared.node.Left.{Left}
use Rattle.lps_meaning.specs.declared.node.LeftItem.{LeftItem}
use Rattle.lps_meaning.specs.declared.node.LeftItem.TheVariants as l
use Rattle.lps_meaning.specs.declared.when.When.{When}
use Rattle.lps_meaning.specs.declared.when.When.TheVariants.{Known, Unknown}
use Rattle.lps_meaning.specs.Sequences.{IsSpanPlaced}
use Rattle.lps_nodes.specs.Alone.{Stage as WalkStage, done_then, met_to}
use Rattle.lps_nodes.specs.Conditions.{IsLeftPlaced, goes_on, is_same_time, left_end, time_in}
use Rattle.lps_nodes.specs.Led.{AreVariants, IsMetNow}
use Rattle.lps_nodes.specs.Nodes.{left_in}
use Rattle.lps_nodes.specs.Shapes.{Shape, left_unknowns, left_vars, put_left, put_left_item, put_shape, put_when, shape_unknowns, shape_vars, unknowns, untested}
use Rattle.lps_nodes.specs.Steps.{PassesTo}
use Rattle.lps_nodes.proofs.LedVariants.{untested_variants}
use Rattle.lps_nodes.proofs.OwnShapes.{own_shape}
use Rattle.lps_nodes.proofs.ShapeLaws.{after_when, item_put, shape_put}
use Rattle.lps_nodes.proofs.ShapeTerms.{item_same_unknowns, item_same_vars, same_item, same_shape}
use Rattle.lps_residual.specs.Limits.{IsOpenOrTrue}
use Rattle.lps_residual.specs.Moments.{HappensOrHolds}
use Rattle.lps_residual.specs.Putting.{value_at, when_at}
use Rattle.lps_solve.specs.Moded.{IsClosed}
use Rattle.lps_solve.proofs.Closed.{closed_stays}
use Rattle.lps_solve.proofs.Vars.{all_append, all_first, all_second, all_weaker}
use Rattle.lps_meeting.specs.declared.moment.Moment.{Moment}
use Rattle.lps_meeting.specs.declared.stage.Stage.{Stage}
use Rattle.lps_meeting.specs.declared.ways.Ways.{Ways}
use Rattle.lps_meeting.specs.Stages.{AreEventsFor, AreTimelessAlike, IsFirst, IsReadyStage, IsStageOf, IsStateOf, Meets}
use Rattle.lps_meeting.specs.Steps.{AreGroundAtoms, AreTimesWhenMet, AreValuesBy, AreWays, IsAtTime, IsDue, IsOf, before_then, done_behind, is_due, is_span, joins_at, limits_with, stage_behind}
use Rattle.lps_meeting.proofs.Passing.{known_of_open, fits_back, leaves_same, left_variants, open_of_known}
use Rattle.lps_meeting.proofs.Readiness.{behind_is, below_item, item_closed, left_behind, met_then, not_due, own_row, unknowns_behind, vars_behind}
use Rattle.lps_meeting.proofs.TrueNow.{AreEventsAt, IsCycle, IsTrueNow, cycle_of, met_is_true, no_macro, true_at_time, true_is_met}

-- ---- times and tests

true_false : true ≡ false → ⊥
true_false e = cc

-- two tests are one where each says yes where the other does
eq_by : (one two : Bool) → (one ≡ true → two ≡ true) → (two ≡ true → one ≡ true) → one ≡ two
eq_by true two to from = sym (to refl)
eq_by false true to from = from refl
eq_by false false to from = refl

left_true : (one two : Bool) → (one && two) ≡ true → one ≡ true
left_true true two h = refl
left_true false two h = absurd (cc)

right_true : (one two : Bool) → (one && two) ≡ true → two ≡ true
right_true true two h = h
right_true false two h = absurd (cc)

-- a time that is the same as a known one is it
known_same : (time : When) (n : ℕ) → is_same_time time (Known n) ≡ true → time ≡ Known n
known_same (Known k) n h = ap (λ j. Known j) (eqb-true k n h)
known_same (Unknown k) n h = absurd (cc)

same_turned : (n : ℕ) (time : When) → is_same_time (Known n) time ≡ is_same_time time (Known n)
same_turned n (Known k) = eq_by (nat_eq n k) (nat_eq k n) (λ h. grind (arith, nat_tests)) (λ h. grind (arith, nat_tests))
same_turned n (Unknown k) = refl

-- what joins does so with something put in
joins_put : (stage : Stage) (w : ℕ → When) (from to : When) (time : ℕ) → joins_at stage from to time ≡ true → joins_at stage (put_when w from) (put_when w to) time ≡ true
joins_put stage w from to zero h = absurd (cc)
joins_put stage w from to (suc n) h =
    let both = right_true stage.joins (is_same_time from (Known n) && is_same_time to (Known (suc n))) h in
    let one = known_same from n (left_true (is_same_time from (Known n)) (is_same_time to (Known (suc n))) both) in
    let two = known_same to (suc n) (right_true (is_same_time from (Known n)) (is_same_time to (Known (suc n))) both) in
    (λ i. joins_at stage ((ap (put_when w) one ∙ sym one) i) ((ap (put_when w) two ∙ sym two) i) (suc n)) ∙ h

joins_is_set : (stage : Stage) (from to : When) (time : ℕ) → joins_at stage from to time ≡ true → stage.joins ≡ true
joins_is_set stage from to zero h = absurd (cc)
joins_is_set stage from to (suc n) h = left_true stage.joins (is_same_time from (Known n) && is_same_time to (Known (suc n))) h

never_joins : (stage : Stage) (from to : When) (time : ℕ) → stage.joins ≡ false → joins_at stage from to time ≡ false
never_joins stage from to zero e = refl
never_joins stage from to (suc n) e = ap (λ joins. joins && (is_same_time from (Known n) && is_same_time to (Known (suc n)))) e

-- the times at which an item is met are the same by each that is put in
same_time : (w x : ℕ → When) (at time : When) → put_when w at ≡ time → put_when x at ≡ time → AllByRecursion (λ k. w k ≡ x k) (unknowns at)
same_time w x (Known n) time e f = tt
same_time w x (Unknown k) time e f = (e ∙ sym f, tt)

same_times : (w x : ℕ → When) (time : ℕ) (item : LeftItem) → IsAtTime w time item → IsAtTime x time item → AllByRecursion (λ k. w k ≡ x k) (left_unknowns item)
same_times w x time (l.At lit at) e f = same_time w x at (Known time) e f
same_times w x time (l.Bare lit) e f = tt
same_times w x time (l.Built built) e f = tt
same_times w x zero (l.Span a from to) e f = absurd e
same_times w x (suc n) (l.Span a from to) e f = all_append (λ k. w k ≡ x k) (unknowns from) (unknowns to) (same_time w x from (Known n) e.0 f.0) (same_time w x to (Known (suc n)) e.1 f.1)

-- and the other way round
put_same : (w x : ℕ → When) (at : When) → AllByRecursion (λ k. w k ≡ x k) (unknowns at) → put_when w at ≡ put_when x at
put_same w x (Known n) h = refl
put_same w x (Unknown k) h = h.0

at_same : (w x : ℕ → When) (time : ℕ) (item : LeftItem) → AllByRecursion (λ k. w k ≡ x k) (left_unknowns item) → IsAtTime x time item → IsAtTime w time item
at_same w x time (l.At lit at) h e = put_same w x at h ∙ e
at_same w x time (l.Bare lit) h e = tt
at_same w x time (l.Built built) h e = tt
at_same w x zero (l.Span a from to) h e = absurd e
at_same w x (suc n) (l.Span a from to) h e = (
  put_same w x from (all_first (λ k. w k ≡ x k) (unknowns from) (unknowns to) h) ∙ e.0,
  put_same w x to (all_second (λ k. w k ≡ x k) (unknowns from) (unknowns to) h) ∙ e.1,
)

all_both : (P Q : ℕ → Type 0) (vs : List ℕ) → AllByRecursion P vs → AllByRecursion Q vs → AllByRecursion (λ v. P v × Q v) vs
all_both P Q [] h k = tt
all_both P Q (v ∷ vs) h k = ((h.0, k.0), all_both P Q vs h.1 k.1)

-- ---- what is met, as a stage of a walk has it

module _ (text : Text) (stage : Stage) (time : ℕ) (s : ℕ → Term) (w : ℕ → When) where
  end_is : (before : ℕ) → before ≡ stage.before → (item : LeftItem) → IsAtTime w time item → left_end (λ k. 0) before (put_left_item s w item) ≡ before_then stage.before time item
  end_is before same (l.At lit at) h = ap (time_in (λ k. 0)) h
  end_is before same (l.Bare lit) h = same
  end_is before same (l.Built built) h = same
  end_is before same (l.Span a from to) h = ap (time_in (λ k. 0)) (cycle_of time (put_when w from) (put_when w to) h).to_is

  done_is : (done : ℕ) (goes : Bool) → done ≡ stage.node.done → (item : LeftItem) → ((a : Atom) (from to : When) → item ≡ l.Span a from to → goes ≡ joins_at stage from to time) →
      done_then done goes (put_left_item s w item) ≡ done_behind stage time item
  done_is done goes same (l.At lit at) going = same
  done_is done goes same (l.Bare lit) going = same
  done_is done goes same (l.Built built) going = same
  done_is done goes same (l.Span a from to) going = λ i. if going a from to refl i then same i else suc (same i)

  joins_then : (next : Stage) (item : LeftItem) → next.joins ≡ is_span item → IsAtTime w time item → HappensOrHolds text item → (b : Atom) (begin end : When) → happens (kind_of text b.name) ≡ true →
      goes_on text (Some (put_left_item s w item)) (l.Span b begin end) ≡ joins_at next begin end time
  joins_then next (l.At lit at) joins h kind b begin end happening = sym (never_joins next begin end time joins)
  joins_then next (l.Bare lit) joins h kind b begin end happening = sym (never_joins next begin end time joins)
  joins_then next (l.Built built) joins h kind b begin end happening = sym (never_joins next begin end time joins)
  joins_then next (l.Span a from to) joins h kind b begin end happening =
      let cycle = cycle_of time (put_when w from) (put_when w to) h in
      (λ i. kind i && (happening i && (is_same_time (cycle.from_is i) begin && is_same_time (cycle.to_is i) end)))
      ∙ (λ i. same_turned cycle.before begin i && same_turned time end i)
      ∙ ap (λ n. is_same_time begin (Known cycle.before) && is_same_time end (Known n)) cycle.next
      ∙ sym (ap (joins_at next begin end) cycle.next ∙ ap (λ joins. joins && (is_same_time begin (Known cycle.before) && is_same_time end (Known (suc cycle.before)))) joins)

-- a shape is a variant of itself
own_variants : (g : Shape) → AreVariants g g
own_variants g = let own = own_shape g in record { v = λ v. t.Var v; x = λ k. Unknown k; to = sym own; u = λ v. t.Var v; y = λ k. Unknown k; back = sym own }

-- what happens is known where the item is due
known_events : (m : Moment) (stage : Stage) (trace : Trace) → AreEventsFor m stage trace → (item : LeftItem) → IsDue stage m.time item → AreEventsAt trace m.time m.events.now item
known_events m stage trace events (l.At lit at) due = tt
known_events m stage trace events (l.Bare lit) due = tt
known_events m stage trace events (l.Built built) due = tt
known_events m stage trace (inl same) (l.Span a from to) due = same
known_events m stage trace (inr none) (l.Span a from to) due = absurd (not_due m stage trace (λ v. t.Var v) (λ k. Unknown k) from to none.0 none.1 due)

-- ---- the first item of a stage

module _ (m : Moment) (stage : Stage) (ready : IsReadyStage m stage) (item : LeftItem) (first : IsFirst stage item) (x : WalkStage) (of : IsStageOf m.program.now m.time stage x) where
  abbrev text : Text
  text = m.program.now

  abbrev g : Shape
  g = left_in stage.node

  abbrev here : Left
  here = record { item = item; nest = first.0 }

  abbrev first_or : Left → List Left → Left
  first_or d [] = d
  first_or d (left ∷ rest) = left

  abbrev behind_first : List Left → List Left
  behind_first [] = []
  behind_first (left ∷ rest) = rest

  -- the first item of the walk's stage is this one but for names
  first_is : x.shape.rest ≡ put_left of.shape.u of.shape.y here ∷ map (put_left of.shape.u of.shape.y) first.1
  first_is = ap (λ (z : Shape). z.rest) of.shape.back ∙ ap (map (put_left of.shape.u of.shape.y)) first.2

  kind : HappensOrHolds text item
  kind = (subst (AllByRecursion (λ left. HappensOrHolds text left.item)) first.2 ready.no_calls).0

  module _ (fx : Left) (bx : List Left) (is_first : x.shape.rest ≡ fx ∷ bx) where
    fx_is : fx ≡ put_left of.shape.u of.shape.y here
    fx_is = ap (first_or fx) (sym is_first ∙ first_is)

    -- this one is that of the walk's stage but for names
    back_is : here ≡ put_left of.shape.v of.shape.x fx
    back_is = ap (first_or here) (sym first.2 ∙ ap (λ (z : Shape). z.rest) of.shape.to ∙ ap (map (put_left of.shape.v of.shape.x)) is_first)

    abbrev begin_or : When → LeftItem → When
    begin_or d (l.Span a from to) = from
    begin_or d _ = d

    abbrev end_or : When → LeftItem → When
    end_or d (l.Span a from to) = to
    end_or d _ = d

    -- it goes on with a group exactly where the code says so
    goes_is : (a : Atom) (from to : When) → item ≡ l.Span a from to → goes_on text x.last fx.item ≡ joins_at stage from to m.time
    goes_is a from to is =
        let begin = put_when of.shape.y from in
        let end = put_when of.shape.y to in
        let walk : fx.item ≡ l.Span (put_atom of.shape.u a) begin end = ap (λ (left : Left). left.item) fx_is ∙ ap (put_left_item of.shape.u of.shape.y) is in
        let back : l.Span a from to ≡ put_left_item of.shape.v of.shape.x (l.Span (put_atom of.shape.u a) begin end) =
        sym is ∙ ap (λ (left : Left). left.item) back_is ∙ ap (put_left_item of.shape.v of.shape.x) walk in
        let begins : from ≡ put_when of.shape.x begin = ap (begin_or (Known 0)) back in
        let ends : to ≡ put_when of.shape.x end = ap (end_or (Known 0)) back in
        let happening : happens (kind_of text a.name) ≡ true = subst (HappensOrHolds text) is kind in
        ap (goes_on text x.last) walk ∙ of.joins (put_atom of.shape.u a) begin end happening
        ∙ eq_by (joins_at stage begin end m.time) (joins_at stage from to m.time)
        (λ h. (λ i. joins_at stage (begins i) (ends i) m.time) ∙ joins_put stage of.shape.x begin end m.time h) (λ h. joins_put stage of.shape.y from to m.time h)

    before_is : (stage.before ≡ m.time) ⊎ (suc stage.before ≡ m.time) → x.before ≤ m.time
    before_is (inl same) = let e = of.before in omega (arith, e, same)
    before_is (inr next) = let e = of.before in omega (arith, e, next)

    -- ---- it stands in order where it is due

    module _ (s : ℕ → Term) (w : ℕ → When) where
      span_placed : (a : Atom) (from to : When) → item ≡ l.Span a from to → IsTrue (is_due stage from to m.time) → IsCycle m.time (put_when w from) (put_when w to) →
          IsLeftPlaced text (λ k. 0) x.before (goes_on text x.last fx.item) (l.Span (put_atom s a) (put_when w from) (put_when w to))
      span_placed a from to is due cycle =
          subst (λ macro. IsSpanPlaced macro (goes_on text x.last fx.item) x.before (time_in (λ k. 0) (put_when w from)) (time_in (λ k. 0) (put_when w to)))
          (sym (no_macro (kind_of text a.name) (subst (HappensOrHolds text) is kind)))
          (subst (λ b. IsSpanPlaced false b x.before (time_in (λ k. 0) (put_when w from)) (time_in (λ k. 0) (put_when w to))) (sym (goes_is a from to is))
          (by (joins_at stage from to m.time) refl due))
        where
          starts : time_in (λ k. 0) (put_when w from) ≡ cycle.before
          starts = ap (time_in (λ k. 0)) cycle.from_is

          ends : time_in (λ k. 0) (put_when w to) ≡ m.time
          ends = ap (time_in (λ k. 0)) cycle.to_is

          one : time_in (λ k. 0) (put_when w to) ≡ suc (time_in (λ k. 0) (put_when w from))
          one = ends ∙ cycle.next ∙ ap suc (sym starts)

          earlier : nat_lt stage.before m.time ≡ true → stage.before < m.time
          earlier h = grind (arith, nat_tests)

          or_false : (b : Bool) → (b || false) ≡ true → b ≡ true
          or_false true h = refl
          or_false false h = absurd (cc)

          by : (b : Bool) → joins_at stage from to m.time ≡ b → (nat_lt stage.before m.time || b) ≡ true →
              IsSpanPlaced false b x.before (time_in (λ k. 0) (put_when w from)) (time_in (λ k. 0) (put_when w to))
          by true e h = (one, ends ∙ sym (ready.joins (joins_is_set stage from to m.time e)) ∙ sym of.before)
          by false e h =
              let less = earlier (or_false (nat_lt stage.before m.time) h) in
              let same = of.before in
              let next = cycle.next in
              (one, subst (λ n. x.before ≤ n) (sym starts) (omega (arith, less, same, next)))

      placed_now : (other : LeftItem) → item ≡ other → IsDue stage m.time other → IsAtTime w m.time other → IsLeftPlaced text (λ k. 0) x.before (goes_on text x.last fx.item) (put_left_item s w other)
      placed_now (l.At lit at) is due h = subst (λ n. x.before ≤ n) (sym (ap (time_in (λ k. 0)) h)) (before_is ready.before)
      placed_now (l.Bare lit) is due h = tt
      placed_now (l.Built built) is due h = tt
      placed_now (l.Span a from to) is due h = span_placed a from to is due (cycle_of m.time (put_when w from) (put_when w to) h)

      -- ---- it is due where it stands in order

      module _ (placed : IsLeftPlaced text (λ k. 0) x.before (goes_on text x.last fx.item) (put_left_item s w item)) where
        no_macro_placed : (macro joins : Bool) (before from to : ℕ) → macro ≡ false → IsSpanPlaced macro joins before from to → IsSpanPlaced false joins before from to
        no_macro_placed macro joins before from to e h = subst (λ b. IsSpanPlaced b joins before from to) e h

        one_later : (joins : Bool) (before from to : ℕ) → IsSpanPlaced false joins before from to → to ≡ suc from
        one_later true before from to h = h.0
        one_later false before from to h = h.0

        kind_put : (other : LeftItem) → HappensOrHolds text other → HappensOrHolds text (put_left_item s w other)
        kind_put (l.At lit at) h = h
        kind_put (l.Bare lit) h = h
        kind_put (l.Built built) h = h
        kind_put (l.Span a from to) h = h

        placed_one : (a : Atom) (from to : When) → put_left_item s w item ≡ l.Span a from to → time_in (λ k. 0) to ≡ suc (time_in (λ k. 0) from)
        placed_one a from to is =
            one_later (goes_on text x.last fx.item) x.before (time_in (λ k. 0) from) (time_in (λ k. 0) to)
            (no_macro_placed (is_macro (kind_of text a.name)) (goes_on text x.last fx.item) x.before (time_in (λ k. 0) from) (time_in (λ k. 0) to)
            (no_macro (kind_of text a.name) (subst (HappensOrHolds text) is (kind_put item kind)))
            (subst (IsLeftPlaced text (λ k. 0) x.before (goes_on text x.last fx.item)) is placed))

        span_due : (a : Atom) (from to : When) → item ≡ l.Span a from to → put_when w to ≡ Known m.time → IsTrue (is_due stage from to m.time)
        span_due a from to is ends =
            by (joins_at stage from to m.time) refl
            (subst (λ b. IsSpanPlaced false b x.before (time_in (λ k. 0) (put_when w from)) (time_in (λ k. 0) (put_when w to))) (goes_is a from to is)
            (no_macro_placed (is_macro (kind_of text a.name)) (goes_on text x.last fx.item) x.before (time_in (λ k. 0) (put_when w from)) (time_in (λ k. 0) (put_when w to))
            (no_macro (kind_of text a.name) (subst (HappensOrHolds text) is kind))
            (subst (λ other. IsLeftPlaced text (λ k. 0) x.before (goes_on text x.last fx.item) (put_left_item s w other)) is placed)))
          where
            or_true : (b : Bool) → (b || true) ≡ true
            or_true true = refl
            or_true false = refl

            earlier : stage.before < m.time → nat_lt stage.before m.time ≡ true
            earlier h = grind (arith, nat_tests)

            by : (b : Bool) → joins_at stage from to m.time ≡ b → IsSpanPlaced false b x.before (time_in (λ k. 0) (put_when w from)) (time_in (λ k. 0) (put_when w to)) →
                (nat_lt stage.before m.time || joins_at stage from to m.time) ≡ true
            by true e h = ap (λ b. nat_lt stage.before m.time || b) e ∙ or_true (nat_lt stage.before m.time)
            by false e h =
                let same = of.before in
                let next = h.0 in
                let le = h.1 in
                let now : time_in (λ k. 0) (put_when w to) ≡ m.time = ap (time_in (λ k. 0)) ends in
                ap (λ b. b || joins_at stage from to m.time) (earlier (omega (arith, same, next, le, now)))

        due_now : (other : LeftItem) → item ≡ other → IsMetNow m.time (put_left_item s w other) → IsDue stage m.time other
        due_now (l.At lit at) is h = tt
        due_now (l.Bare lit) is h = tt
        due_now (l.Built built) is h = tt
        due_now (l.Span a from to) is h = span_due a from to is h

  -- ---- what is left in the ways and at the times that are found

  module _ (whens : List When) (times : AreTimesWhenMet m.unknowns m.time item whens) (ways : Ways)
      (are_ways : AreWays (clauses m.program.now) (members m.facts.now) m.events.now m.variables item ways) (row : List Term) (among : Contains (map (λ v. v.0) ways.rows.items) row)
      (values : List Term) (are_values : AreValuesBy m.variables ways.terms row values) where
    abbrev s : ℕ → Term
    s = value_at values

    abbrev w : ℕ → When
    w = when_at whens

    abbrev next : Stage
    next = stage_behind stage m.time s w item

    abbrev met : Left
    met = put_left s w here

    abbrev behind : Shape
    behind = left_behind m stage ready item first

    abbrev h : Shape
    h = put_shape s w behind

    at_now : IsAtTime w m.time item
    at_now = met_then m.unknowns m.time ready.early item whens times

    closed : AllByRecursion (λ v. IsClosed (s v)) (left_vars item)
    closed = item_closed m stage ready item first whens times ways are_ways row among values are_values

    -- values and times that meet the item so are instances of these
    module _ (y : ℕ → Term) (z : ℕ → When) (same : put_left_item y z item ≡ put_left_item s w item) where
      later_value : (v : ℕ) → v < m.variables → after y s v ≡ y v
      later_value v below =
          let reached : map (put y) ways.terms ≡ row = are_ways.own y s (item_same_vars y s z w item same) ∙ own_row m.variables ways.terms row values are_values in
          sym ((are_values.exact y).0 reached v (subst (λ n. v < n) (sym are_values.count) below))

      later_time : (k : ℕ) → k < m.unknowns → after_when z w k ≡ z k
      later_time k below =
          by (w k) refl ((times.exact z).0 (at_same z w m.time item (item_same_unknowns y s z w item same) at_now) k (subst (λ n. k < n) (sym times.count) below))
        where
          by : (time : When) → w k ≡ time → IsOf time (z k) → put_when z (w k) ≡ z k
          by (Known n) e is = ap (put_when z) e ∙ sym is
          by (Unknown j) e is = ap (put_when z) e ∙ ap z (times.own k j e)

      behind_same : put_shape y z h ≡ put_shape y z behind
      behind_same =
          shape_put y s z w behind
          ∙ same_shape (after y s) y (after_when z w) z behind (all_weaker (λ v. v < m.variables) (λ v. after y s v ≡ y v) later_value (shape_vars behind) (vars_behind m stage ready item first))
          (all_weaker (λ k. k < m.unknowns) (λ k. after_when z w k ≡ z k) later_time (shape_unknowns behind) (unknowns_behind m stage ready item first))

    -- what is left behind the item is the most general that may be
    passes : PassesTo (met ∷ []) g h
    passes = record {
      v = s;
      x = w;
      own = λ i. record { carry = h.carry; rest = ap (map (put_left s w)) first.2 i; limits = h.limits };
      general = λ y z k e.
          let rest : put_left y z here ∷ map (put_left y z) first.1 ≡ met ∷ k.rest = sym (ap (map (put_left y z)) first.2) ∙ ap (λ (q : Shape). q.rest) e in
          let same : put_left_item y z item ≡ put_left_item s w item = ap (λ (left : Left). left.item) (ap (first_or here) rest) in
          let own : k ≡ put_shape y z behind = λ i. record { carry = ap (λ (q : Shape). q.carry) (sym e) i; rest = ap behind_first (sym rest) i; limits = ap (λ (q : Shape). q.limits) (sym e) i } in
          (y, z, own ∙ sym (behind_same y z same));
    }

    next_is : untested h ≡ left_in next.node
    next_is = λ i. record { carry = h.carry; rest = map (put_left s w) (sym (behind_is m stage ready item first) i); limits = (left_in next.node).limits }

    -- what a walk leaves is a stage of what the code leaves
    is_next : (fx : Left) (bx : List Left) → x.shape.rest ≡ fx ∷ bx → (other : Left) → other ≡ met → (left : Shape) → AreVariants (untested left) (left_in next.node) → AllByRecursion IsOpenOrTrue left.limits →
        IsStageOf text m.time next (met_to text x fx other left)
    is_next fx bx is_first other is left variants tested = subst (λ (q : Left). IsStageOf text m.time next (met_to text x fx q left)) (sym is) (record {
      before = end_is text stage m.time s w x.before of.before item at_now;
      rank = of.rank;
      done = done_is text stage m.time s w x.done (goes_on text x.last fx.item) of.done item (λ a from to e. goes_is fx bx is_first a from to e);
      shape = variants;
      tested = tested;
      joins = λ a from to happening. joins_then text stage m.time s w next item refl at_now kind a from to happening;
    })

    -- ---- in the trace

    module _ (level : List ℕ → ℕ) (levels : AreLevels (clauses text) level) (trace : Trace) (state : IsStateOf text level trace m.time (members m.facts.now)) (timeless : AreTimelessAlike text level trace m.time)
        (ground : AreGroundAtoms m.events.now) (events : AreEventsFor m stage trace) (due : IsDue stage m.time item) where
      true_there : IsTrueNow text level trace m.time (put_left_item s w item)
      true_there =
          met_is_true text level trace m.time (members m.facts.now) m.events.now state timeless s w item ground (known_events m stage trace events item due) kind
          ((are_ways.exact level levels s).1 (subst (Contains (map (λ v. v.0) ways.rows.items)) (sym (own_row m.variables ways.terms row values are_values)) among)) at_now

      -- the item is met in the walk, and where no constraint is false then, what is left is what the code leaves
      pub meets_by : (y : WalkStage) × Meets text level trace m.time x y × (AllByRecursion IsOpenOrTrue (limits_with stage w) → IsStageOf text m.time next y)
      meets_by =
          let fx = put_left of.shape.u of.shape.y here in
          let bx = map (put_left of.shape.u of.shape.y) first.1 in
          let found = leaves_same (met ∷ []) g x.shape h of.shape (known_of_open x.shape.limits of.tested) passes in (
            met_to text x fx met found.left,
            record {
              first = fx;
              behind = bx;
              is_first = first_is;
              met = met;
              left = found.left;
              told = true_there.told;
              is_true = true_there.is_true;
              is_now = true_there.is_now;
              small = true_there.small;
              placed = placed_now fx bx first_is s w item refl due at_now;
              passes = found.passes;
              to = refl;
            },
            λ all. is_next fx bx first_is met refl found.left
                (subst (λ (q : Shape). AreVariants q (left_in next.node)) found.same (subst (AreVariants (untested h)) next_is (own_variants (untested h))))
                (open_of_known found.left.limits (found.fits (known_of_open h.limits all))),
          )

  -- ---- from the trace

  module _ (level : List ℕ → ℕ) (levels : AreLevels (clauses text) level) (trace : Trace) (state : IsStateOf text level trace m.time (members m.facts.now)) (timeless : AreTimelessAlike text level trace m.time)
      (events : AreEventsFor m stage trace) (y : WalkStage) (meets : Meets text level trace m.time x y) where
    -- what the walk puts in
    abbrev put_terms : ℕ → Term
    put_terms = after meets.passes.v of.shape.u

    abbrev put_times : ℕ → When
    put_times = after_when meets.passes.x of.shape.y

    met_is : meets.met ≡ put_left put_terms put_times here
    met_is =
        sym (ap (first_or here) (sym (ap (map (put_left meets.passes.v meets.passes.x)) first_is) ∙ ap (λ (z : Shape). z.rest) meets.passes.own))
        ∙ (λ i. record { item = item_put meets.passes.v of.shape.u meets.passes.x of.shape.y item i; nest = first.0 })

    item_is : meets.met.item ≡ put_left_item put_terms put_times item
    item_is = ap (λ (left : Left). left.item) met_is

    true_then : IsTrueNow text level trace m.time (put_left_item put_terms put_times item)
    true_then = subst (IsTrueNow text level trace m.time) item_is (record { told = meets.told; is_true = meets.is_true; small = meets.small; is_now = meets.is_now })

    placed_then : IsLeftPlaced text (λ k. 0) x.before (goes_on text x.last meets.first.item) (put_left_item put_terms put_times item)
    placed_then = subst (IsLeftPlaced text (λ k. 0) x.before (goes_on text x.last meets.first.item)) item_is meets.placed

    due_then : IsDue stage m.time item
    due_then = due_now meets.first meets.behind meets.is_first put_terms put_times placed_then item refl true_then.is_now

    at_then : IsAtTime put_times m.time item
    at_then =
        true_at_time text level trace m.time (members m.facts.now) m.events.now state timeless put_terms put_times item true_then
        (placed_one meets.first meets.behind meets.is_first put_terms put_times placed_then)

    -- It was due, and at a time that is found; the terms are one of the rows of its ways, and where no constraint is false behind it, what the
    -- walk leaves is what the code leaves.
    pub record IsFoundIn (ways : Ways) : Type 0 where
      pub row : List Term
      pub among : Contains (map (λ v. v.0) ways.rows.items) row
      pub values : ℕ → Term
      pub reached : map (put values) ways.terms ≡ row
      pub next : (found : List Term) → AreValuesBy m.variables ways.terms row found → (whens : List When) → AreTimesWhenMet m.unknowns m.time item whens → AllByRecursion IsOpenOrTrue y.shape.limits →
          AllByRecursion IsOpenOrTrue (limits_with stage (when_at whens)) × IsStageOf text m.time (stage_behind stage m.time (value_at found) (when_at whens) item) y

    module _ (ways : Ways) (are_ways : AreWays (clauses m.program.now) (members m.facts.now) m.events.now m.variables item ways) where
      among : Contains (map (λ v. v.0) ways.rows.items) (map (put put_terms) ways.terms)
      among =
          (are_ways.exact level levels put_terms).0
          (true_is_met text level trace m.time (members m.facts.now) m.events.now state timeless put_terms put_times item (known_events m stage trace events item due_then) kind true_then)

      module _ (found : List Term) (are_values : AreValuesBy m.variables ways.terms (map (put put_terms) ways.terms) found) (whens : List When) (times : AreTimesWhenMet m.unknowns m.time item whens) where
        same_item_then : put_left_item put_terms put_times item ≡ put_left_item (value_at found) (when_at whens) item
        same_item_then =
            let closed = item_closed m stage ready item first whens times ways are_ways (map (put put_terms) ways.terms) among found are_values in
            same_item put_terms (value_at found) put_times (when_at whens) item
            (all_weaker (λ v. (v < m.variables) × IsClosed (value_at found v)) (λ v. put_terms v ≡ value_at found v)
            (λ v h. (are_values.exact put_terms).0 refl v (subst (λ n. v < n) (sym are_values.count) h.0) ∙ closed_stays put_terms (value_at found v) h.1) (left_vars item)
            (all_both (λ v. v < m.variables) (λ v. IsClosed (value_at found v)) (left_vars item) (below_item m stage ready item first) closed))
            (same_times put_times (when_at whens) m.time item at_then (met_then m.unknowns m.time ready.early item whens times))

        same_left : meets.met ≡ put_left (value_at found) (when_at whens) here
        same_left = met_is ∙ (λ i. record { item = same_item_then i; nest = first.0 })

        passes_same : PassesTo (put_left (value_at found) (when_at whens) here ∷ []) x.shape meets.left
        passes_same = subst (λ (left : Left). PassesTo (left ∷ []) x.shape meets.left) same_left meets.passes

        stage_is : AllByRecursion IsOpenOrTrue meets.left.limits →
            AllByRecursion IsOpenOrTrue (limits_with stage (when_at whens)) × IsStageOf text m.time (stage_behind stage m.time (value_at found) (when_at whens) item) (met_to text x meets.first meets.met meets.left)
        stage_is tested =
            let known = known_of_open x.shape.limits of.tested in
            let ls = put_left (value_at found) (when_at whens) here ∷ [] in
            let step = passes whens times ways are_ways (map (put put_terms) ways.terms) among found are_values in
            let whole = h whens times ways are_ways (map (put put_terms) ways.terms) among found are_values in
            let code = leaves_same ls g x.shape whole of.shape known step in
            let alike = untested_variants meets.left code.left (left_variants ls x.shape meets.left code.left passes_same code.passes) in (
              open_of_known whole.limits (fits_back ls g x.shape whole of.shape known step meets.left passes_same (known_of_open meets.left.limits tested)),
              is_next whens times ways are_ways (map (put put_terms) ways.terms) among found are_values meets.first meets.behind meets.is_first meets.met same_left meets.left
                  (subst (AreVariants (untested meets.left)) (sym code.same ∙ next_is whens times ways are_ways (map (put put_terms) ways.terms) among found are_values) alike) tested,
            )

      next_by : (found : List Term) → AreValuesBy m.variables ways.terms (map (put put_terms) ways.terms) found → (whens : List When) → AreTimesWhenMet m.unknowns m.time item whens →
          AllByRecursion IsOpenOrTrue y.shape.limits →
          AllByRecursion IsOpenOrTrue (limits_with stage (when_at whens)) × IsStageOf text m.time (stage_behind stage m.time (value_at found) (when_at whens) item) y
      next_by found are_values whens times tested =
          let both = stage_is found are_values whens times (subst (λ (z : WalkStage). AllByRecursion IsOpenOrTrue z.shape.limits) meets.to tested) in
          (both.0, subst (IsStageOf text m.time (stage_behind stage m.time (value_at found) (when_at whens) item)) (sym meets.to) both.1)

      pub found_in : IsFoundIn ways
      found_in = record { row = map (put put_terms) ways.terms; among = among; values = put_terms; reached = refl; next = next_by }

    pub met_by : IsDue stage m.time item × ((w : ℕ → When) × IsAtTime w m.time item)
        × ((ways : Ways) → AreWays (clauses m.program.now) (members m.facts.now) m.events.now m.variables item ways → IsFoundIn ways)
    met_by = (due_then, (put_times, at_then), found_in)

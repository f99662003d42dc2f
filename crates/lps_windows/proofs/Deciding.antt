-- What is left can come true where its conditions on times have a solution in which its next step begins after now.
use Rattle.std.proofs.Common.{◌≡◌, ◌≤◌, ℕ, suc, Bool, true, false, List, [], ◌∷◌, ◌++◌, ◌∙◌, refl, sym, ap, subst, arith}
use Rattle.std.specs.Prelude.{Option, Some, None}
use Rattle.std.specs.List.{AllByRecursion}
use Rattle.std.proofs.lemmas.Int.{ints}
use Rattle.lps_terms.specs.declared.atom.Atom.{Atom}
use Rattle.lps_terms.specs.declared.text.Text.{Text}
use Rattle.lps_model.specs.Rules.{kind_of, is_macro}
use Rattle.lps_meaning.specs.declared.node.Left.{Left}
use Rattle.lps_meaning.specs.declared.node.LeftCon.{LeftCon}
use Rattle.lps_meaning.specs.declared.node.LeftItem.{LeftItem}
use Rattle.lps_meaning.specs.declared.node.LeftItem.TheVariants as l
use Rattle.lps_meaning.specs.declared.when.When.{When}
use Rattle.lps_meaning.specs.Sequences.{IsSpanPlaced}
use Rattle.lps_meaning.proofs.Occurrences.{all_front, all_behind, all_joined}
use Rattle.lps_nodes.specs.Conditions.{AreLeftInOrder, CanComeTrue, IsLeftAhead, IsLeftLimit, IsLeftPlaced, goes_on, left_end, time_in}
use Rattle.lps_nodes.specs.NextSteps.{IsBegun, MayBegin}
use Rattle.lps_windows.specs.Conditions.{BeginsAt, NoneComeTrue, WindowsDecide, WindowsDecideBegins, conditions_of, end_of, item_conditions, order_conditions, span_conditions}
use Rattle.lps_windows.specs.Windows.{CanBe, IsIn, IsOpenFrom, Solves}

module _ (text : Text) (x : ℕ → ℕ) where
  span_to : (macro joins : Bool) (time from to : When) → IsSpanPlaced macro joins (time_in x time) (time_in x from) (time_in x to) → Solves (span_conditions macro joins (Some time) from to) x
  span_to true joins time from to h = let one = h.0 in let two = h.1 in (omega (arith, ints, one), (omega (arith, ints, two), tt))
  span_to false true time from to h = let one = h.0 in let two = h.1 in (omega (arith, ints, one), (omega (arith, ints, two), tt))
  span_to false false time from to h = let one = h.0 in let two = h.1 in (omega (arith, ints, one), (omega (arith, ints, two), tt))

  span_from : (macro joins : Bool) (time from to : When) → Solves (span_conditions macro joins (Some time) from to) x → IsSpanPlaced macro joins (time_in x time) (time_in x from) (time_in x to)
  span_from true joins time from to h = let one = h.0 in let two = h.1.0 in (omega (arith, ints, one), omega (arith, ints, two))
  span_from false true time from to h = let one = h.0 in let two = h.1.0 in (omega (arith, ints, one), omega (arith, ints, two))
  span_from false false time from to h = let one = h.0 in let two = h.1.0 in (omega (arith, ints, one), omega (arith, ints, two))

  item_to : (time : When) (joins : Bool) (item : LeftItem) → IsLeftPlaced text x (time_in x time) joins item → Solves (item_conditions text (Some time) joins item) x
  item_to time joins (l.At lit at) h = (omega (arith, ints, h), tt)
  item_to time joins (l.Bare lit) h = tt
  item_to time joins (l.Built built) h = tt
  item_to time joins (l.Span a from to) h = span_to (is_macro (kind_of text a.name)) joins time from to h

  item_from : (time : When) (joins : Bool) (item : LeftItem) → Solves (item_conditions text (Some time) joins item) x → IsLeftPlaced text x (time_in x time) joins item
  item_from time joins (l.At lit at) h = let one = h.0 in omega (arith, ints, one)
  item_from time joins (l.Bare lit) h = tt
  item_from time joins (l.Built built) h = tt
  item_from time joins (l.Span a from to) h = span_from (is_macro (kind_of text a.name)) joins time from to h

  -- ---- items after one that has a time

  rest_to : (item : LeftItem) (time : When) (rest : List Left) → ((at : When) → AreLeftInOrder text x (time_in x at) (Some item) rest → Solves (order_conditions text (Some at) (Some item) rest) x) →
      AreLeftInOrder text x (left_end x (time_in x time) item) (Some item) rest → Solves (order_conditions text (end_of (Some time) item) (Some item) rest) x
  rest_to (l.At lit at) time rest all h = all at h
  rest_to (l.Bare lit) time rest all h = all time h
  rest_to (l.Built built) time rest all h = all time h
  rest_to (l.Span a from to) time rest all h = all to h

  rest_from : (item : LeftItem) (time : When) (rest : List Left) → ((at : When) → Solves (order_conditions text (Some at) (Some item) rest) x → AreLeftInOrder text x (time_in x at) (Some item) rest) →
      Solves (order_conditions text (end_of (Some time) item) (Some item) rest) x → AreLeftInOrder text x (left_end x (time_in x time) item) (Some item) rest
  rest_from (l.At lit at) time rest all h = all at h
  rest_from (l.Bare lit) time rest all h = all time h
  rest_from (l.Built built) time rest all h = all time h
  rest_from (l.Span a from to) time rest all h = all to h

  order_to : (time : When) (last : Option LeftItem) (rest : List Left) → AreLeftInOrder text x (time_in x time) last rest → Solves (order_conditions text (Some time) last rest) x
  order_to time last [] h = tt
  order_to time last (left ∷ rest) h =
      all_joined (IsLeftLimit x) (item_conditions text (Some time) (goes_on text last left.item) left.item) (order_conditions text (end_of (Some time) left.item) (Some left.item) rest)
      (item_to time (goes_on text last left.item) left.item h.0) (rest_to left.item time rest (λ at. order_to at (Some left.item) rest) h.1)

  order_from : (time : When) (last : Option LeftItem) (rest : List Left) → Solves (order_conditions text (Some time) last rest) x → AreLeftInOrder text x (time_in x time) last rest
  order_from time last [] h = tt
  order_from time last (left ∷ rest) h =
      let here = item_conditions text (Some time) (goes_on text last left.item) left.item in
      let behind = order_conditions text (end_of (Some time) left.item) (Some left.item) rest in (
        item_from time (goes_on text last left.item) left.item (all_front (IsLeftLimit x) here behind h),
        rest_from left.item time rest (λ at. order_from at (Some left.item) rest) (all_behind (IsLeftLimit x) here behind h),
      )

  -- ---- the next step

  module _ (now : ℕ) where
    span_first : (macro : Bool) (from to : When) → IsSpanPlaced macro false now (time_in x from) (time_in x to) → Solves (span_conditions macro false None from to) x
    span_first true from to h = let two = h.1 in (omega (arith, ints, two), tt)
    span_first false from to h = let one = h.0 in (omega (arith, ints, one), tt)

    first_span : (macro : Bool) (from to : When) → now ≤ time_in x from → Solves (span_conditions macro false None from to) x → IsSpanPlaced macro false now (time_in x from) (time_in x to)
    first_span true from to ahead h = let one = h.0 in (ahead, omega (arith, ints, one))
    first_span false from to ahead h = let one = h.0 in (omega (arith, ints, one), ahead)

    step_to : (item : LeftItem) (begin : When) (earliest : ℕ) (behind : List Left) → BeginsAt item begin now earliest → IsLeftAhead now x item → IsLeftPlaced text x now false item →
        AreLeftInOrder text x (left_end x now item) (Some item) behind →
        Solves (item_conditions text None false item) x × Solves (order_conditions text (end_of None item) (Some item) behind) x × (earliest ≤ time_in x begin)
    step_to (l.At lit time) begin earliest behind begins ahead placed order = (tt, order_to time (Some (l.At lit time)) behind order, omega (arith, begins.1, ap (time_in x) begins.0, ahead))
    step_to (l.Span a from to) begin earliest behind begins ahead placed order =
        (span_first (is_macro (kind_of text a.name)) from to placed, order_to to (Some (l.Span a from to)) behind order, omega (arith, begins.1, ap (time_in x) begins.0, ahead))
    step_to (l.Bare lit) begin earliest behind begins ahead placed order = absurd begins
    step_to (l.Built built) begin earliest behind begins ahead placed order = absurd begins

    step_from : (item : LeftItem) (begin : When) (earliest : ℕ) (behind : List Left) → BeginsAt item begin now earliest → earliest ≤ time_in x begin → Solves (item_conditions text None false item) x →
        Solves (order_conditions text (end_of None item) (Some item) behind) x →
        IsLeftAhead now x item × IsLeftPlaced text x now false item × AreLeftInOrder text x (left_end x now item) (Some item) behind
    step_from (l.At lit time) begin earliest behind begins ahead placed order =
        (omega (arith, begins.1, ap (time_in x) begins.0, ahead), omega (arith, begins.1, ap (time_in x) begins.0, ahead), order_from time (Some (l.At lit time)) behind order)
    step_from (l.Span a from to) begin earliest behind begins ahead placed order =
        let from_now : now ≤ time_in x from = omega (arith, begins.1, ap (time_in x) begins.0, ahead) in
        (from_now, first_span (is_macro (kind_of text a.name)) from to from_now placed, order_from to (Some (l.Span a from to)) behind order)
    step_from (l.Bare lit) begin earliest behind begins ahead placed order = absurd begins
    step_from (l.Built built) begin earliest behind begins ahead placed order = absurd begins

    -- a next step begins at some time
    begins_at : (item : LeftItem) → IsLeftAhead now x item → (begin : When) × (earliest : ℕ) × BeginsAt item begin now earliest
    begins_at (l.At lit time) ahead = (time, suc now, (refl, refl))
    begins_at (l.Span a from to) ahead = (from, now, (refl, refl))
    begins_at (l.Bare lit) ahead = absurd ahead
    begins_at (l.Built built) ahead = absurd ahead

    all_to : (first : Left) (behind : List Left) (limits : List LeftCon) (begin : When) (earliest : ℕ) → BeginsAt first.item begin now earliest → IsLeftAhead now x first.item →
        AreLeftInOrder text x now None (first ∷ behind) → AllByRecursion (IsLeftLimit x) limits → Solves (order_conditions text None None (first ∷ behind) ++ limits) x × (earliest ≤ time_in x begin)
    all_to first behind limits begin earliest begins ahead order kept =
        let step = step_to first.item begin earliest behind begins ahead order.0 order.1 in
        let here = item_conditions text None false first.item in
        let rest = order_conditions text (end_of None first.item) (Some first.item) behind in
        (all_joined (IsLeftLimit x) (here ++ rest) limits (all_joined (IsLeftLimit x) here rest step.0 step.1) kept, step.2)

    all_from : (first : Left) (behind : List Left) (limits : List LeftCon) (begin : When) (earliest : ℕ) → BeginsAt first.item begin now earliest → earliest ≤ time_in x begin →
        Solves (order_conditions text None None (first ∷ behind) ++ limits) x → IsLeftAhead now x first.item × AreLeftInOrder text x now None (first ∷ behind) × AllByRecursion (IsLeftLimit x) limits
    all_from first behind limits begin earliest begins ahead h =
        let here = item_conditions text None false first.item in
        let rest = order_conditions text (end_of None first.item) (Some first.item) behind in
        let order = all_front (IsLeftLimit x) (here ++ rest) limits h in
        let step = step_from first.item begin earliest behind begins ahead (all_front (IsLeftLimit x) here rest order) (all_behind (IsLeftLimit x) here rest order) in
        (step.0, (step.1, step.2), all_behind (IsLeftLimit x) (here ++ rest) limits h)

-- ---- the law

-- the first of these is ahead
IsFirstAhead : ℕ → (ℕ → ℕ) → List Left → Type 0
IsFirstAhead now x [] = Unit {0}
IsFirstAhead now x (left ∷ rest) = IsLeftAhead now x left.item

first_ahead : (now : ℕ) (x : ℕ → ℕ) (rest : List Left) (one first : Left) (others behind : List Left) → rest ≡ one ∷ others → rest ≡ first ∷ behind → IsLeftAhead now x one.item → IsLeftAhead now x first.item
unfolding IsFirstAhead
first_ahead now x rest one first others behind e f ahead = subst (IsFirstAhead now x) f (subst (IsFirstAhead now x) (sym e) ahead)

abbrev left_or : Left → List Left → Left
left_or d [] = d
left_or d (left ∷ rest) = left

pub windows_decide : WindowsDecide
windows_decide text g first behind e begin now earliest begins small window is = (into, back)
  where
    into : CanComeTrue text now g → IsOpenFrom window earliest
    into can =
        let done = all_to text can.times now first behind g.limits begin earliest begins (first_ahead now can.times g.rest can.first first can.behind behind can.is_first e can.ahead)
        (subst (AreLeftInOrder text can.times now None) e can.in_order) can.limits in
        let solves = subst (λ rest. Solves (order_conditions text None None rest ++ g.limits) can.times) (sym e) done.0 in
        (time_in can.times begin, done.1, (is.exact (time_in can.times begin)).1 (can.times, solves, refl))

    back : IsOpenFrom window earliest → CanComeTrue text now g
    back open_from = by ((is.exact open_from.0).0 open_from.2)
      where
        by : CanBe (conditions_of text g) begin open_from.0 → CanComeTrue text now g
        by found =
            let done = all_from text found.0 now first behind g.limits begin earliest begins (omega (arith, open_from.1, found.2))
            (subst (λ rest. Solves (order_conditions text None None rest ++ g.limits) found.0) e found.1) in
            record { times = found.0; first = first; behind = behind; is_first = e; ahead = done.0; in_order = subst (AreLeftInOrder text found.0 now None) (sym e) done.1; limits = done.2; small = small }

pub none_come_true : NoneComeTrue
none_come_true text now g none can =
    let start = begins_at text can.times now can.first.item can.ahead in
    let done = all_to text can.times now can.first can.behind g.limits start.0 start.1 start.2 can.ahead (subst (AreLeftInOrder text can.times now None) can.is_first can.in_order) can.limits in
    none can.times (subst (λ rest. Solves (order_conditions text None None rest ++ g.limits) can.times) (sym can.is_first) done.0)

-- a step that begins at a time begins now exactly where the time is now
begun_at : (now : ℕ) (x : ℕ → ℕ) (atom : Atom) (from to : When) (item : LeftItem) → item ≡ l.Span atom from to → IsBegun now x item → time_in x from ≡ now
begun_at now x atom from to item is h = subst (IsBegun now x) is h

pub windows_decide_begins : WindowsDecideBegins
windows_decide_begins text g first behind e atom from to item small now window is = (into, back)
  where
    begins : BeginsAt first.item from now now
    begins = subst (λ (it : LeftItem). BeginsAt it from now now) (sym item) (refl, refl)

    into : MayBegin text now g → IsIn window now
    into may =
        let can = may.can in
        let same : can.first ≡ first = ap (left_or can.first) (sym can.is_first ∙ e) in
        let done = all_to text can.times now first behind g.limits from now begins (subst (λ (left : Left). IsLeftAhead now can.times left.item) same can.ahead)
        (subst (AreLeftInOrder text can.times now None) e can.in_order) can.limits in
        let solves = subst (λ rest. Solves (order_conditions text None None rest ++ g.limits) can.times) (sym e) done.0 in
        (is.exact now).1 (can.times, solves, begun_at now can.times atom from to first.item item (subst (λ (left : Left). IsBegun now can.times left.item) same may.begun))

    back : IsIn window now → MayBegin text now g
    back lies = by ((is.exact now).0 lies)
      where
        by : CanBe (conditions_of text g) from now → MayBegin text now g
        by found =
            let at = found.2 in
            let done = all_from text found.0 now first behind g.limits from now begins (omega (arith, at))
            (subst (λ rest. Solves (order_conditions text None None rest ++ g.limits) found.0) e found.1) in
            record {
              can = record { times = found.0; first = first; behind = behind; is_first = e; ahead = done.0; in_order = subst (AreLeftInOrder text found.0 now None) (sym e) done.1; limits = done.2; small = small };
              begun = subst (IsBegun now found.0) (sym item) at;
            }

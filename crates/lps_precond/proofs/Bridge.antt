-- A denial is violated in a trace exactly where its parts are met over the events and the facts before and after.
use Rattle.std.proofs.Common.{ℕ, zero, suc, Bool, true, false, ◌≡◌, List, [], ◌∷◌, map, take, drop, length, refl, sym, ap, subst, ◌∙◌, arith}
use Rattle.std.specs.Prelude.{◌↔◌, ◌==◌, Contains, IsTrue, Option, Some, None, if◌then◌else◌}
use Rattle.std.specs.List.{AllByRecursion, list_all}
use Rattle.std.proofs.lemmas.Bool.Decides.{nat_tests}
use Rattle.lps_terms.specs.declared.atom.Atom.{Atom}
use Rattle.lps_terms.specs.declared.cond.Cond.{Cond}
use Rattle.lps_terms.specs.declared.item.Item.{Item}
use Rattle.lps_terms.specs.declared.item.Item.TheVariants as i
use Rattle.lps_terms.specs.declared.lit.Lit.{Lit}
use Rattle.lps_terms.specs.declared.term.Term.{Term}
use Rattle.lps_terms.specs.declared.text.Text.{Text}
use Rattle.lps_terms.specs.Put.{put_atom}
use Rattle.lps_values.specs.Truth.{is_true}
use Rattle.lps_model.specs.declared.trace.Trace.{Trace}
use Rattle.lps_model.specs.Formed.{is_formed_atom, is_formed_cond, is_formed_item}
use Rattle.lps_model.specs.Order.{happens, span_in}
use Rattle.lps_model.specs.Clauses.{Clause, clauses}
use Rattle.lps_derivation.specs.Derivation.{Agrees}
use Rattle.lps_derivation.specs.Ground.{is_ground}
use Rattle.lps_derivation.specs.Instances.{put_cond, put_lit}
use Rattle.lps_derivation.specs.Laws.{IsDerivedFrom}
use Rattle.lps_meaning.specs.Denials.{IsMetBy, Violates, then_events}
use Rattle.lps_meaning.specs.Holds.{IsTrueAt, IsTrueLit}
use Rattle.lps_meaning.specs.Items.{IsSmallItem, put_item}
use Rattle.lps_model.specs.Rules.{kind_of}
use Rattle.lps_meaning.proofs.Persistence.{agrees_same, turn}
use Rattle.lps_causal.proofs.Happening.{is_condition, is_timeless}
use Rattle.lps_solve.specs.Met.{AreMet, IsGroundCond, IsMetCond}
use Rattle.lps_solve.proofs.Formed.{cond_is_ground}
use Rattle.lps_solve.proofs.Grounds.{first_of_two, second_of, settled, settled_ground, settles_cond}
use Rattle.lps_solve.proofs.Vars.{all_append, all_first, all_second, all_weaker}
use Rattle.lps_precond.specs.Cut.{back_of, cond_of, conds_of, count_early, cut, event_of, events_of, front_of, second_in}
use Rattle.lps_precond.specs.Stages.{IsViolated}
use Rattle.lps_precond.proofs.Sides.{IsEarly, IsLate, back_is_late, front_is_early}
use Rattle.lps_precond.proofs.Stated.{HasKinds, IsDenial}

-- ---- lists

module _ {X : Type 0} (P : X → Type 0) where
  all_taken : (n : ℕ) (xs : List X) → AllByRecursion P xs → AllByRecursion P (take n xs)
  all_taken zero [] h = tt
  all_taken zero (x ∷ xs) h = tt
  all_taken (suc n) [] h = tt
  all_taken (suc n) (x ∷ xs) h = (h.0, all_taken n xs h.1)

  all_dropped : (n : ℕ) (xs : List X) → AllByRecursion P xs → AllByRecursion P (drop n xs)
  all_dropped zero [] h = tt
  all_dropped zero (x ∷ xs) h = h
  all_dropped (suc n) [] h = tt
  all_dropped (suc n) (x ∷ xs) h = all_dropped n xs h.1

  all_of_both : (n : ℕ) (xs : List X) → AllByRecursion P (take n xs) → AllByRecursion P (drop n xs) → AllByRecursion P xs
  all_of_both zero [] one two = tt
  all_of_both zero (x ∷ xs) one two = two
  all_of_both (suc n) [] one two = tt
  all_of_both (suc n) (x ∷ xs) one two = (one.0, all_of_both n xs one.1 two)

all_unmapped : {X Y : Type 0} (f : X → Y) (P : Y → Type 0) (xs : List X) → AllByRecursion P (map f xs) → AllByRecursion (λ x. P (f x)) xs
all_unmapped f P [] h = tt
all_unmapped f P (x ∷ xs) h = (h.0, all_unmapped f P xs h.1)

all_mapped : {X Y : Type 0} (f : X → Y) (P : Y → Type 0) (xs : List X) → AllByRecursion (λ x. P (f x)) xs → AllByRecursion P (map f xs)
all_mapped f P [] h = tt
all_mapped f P (x ∷ xs) h = (h.0, all_mapped f P xs h.1)

all_tested : {X : Type 0} (test : X → Bool) (xs : List X) → list_all test xs ≡ true → AllByRecursion (λ x. test x ≡ true) xs
all_tested test [] h = tt
all_tested test (x ∷ xs) h = (first_of_two (test x) (list_all test xs) h, all_tested test xs (second_of (test x) (list_all test xs) h))

-- ---- ground conditions

formed_conds : (n m : ℕ) (item : Item) → is_formed_item n m item ≡ true → AllByRecursion (λ k. is_formed_cond n k ≡ true) (cond_of item) × AllByRecursion (λ k. is_formed_cond n k ≡ true) (event_of item)
formed_conds n m (i.At l time) h = ((first_of_two (is_formed_atom n l.atom) _ h, tt), tt)
formed_conds n m (i.Bare l) h = ((h, tt), tt)
formed_conds n m (i.Built built) h = ((h, tt), tt)
formed_conds n m (i.Span a from to) h = (tt, (first_of_two (is_formed_atom n a) _ (first_of_two _ _ h), tt))
formed_conds n m (i.Con con) h = (tt, tt)

module _ (s : ℕ → Term) (ground : (v : ℕ) → IsTrue (is_ground (s v))) (n m : ℕ) where
  abbrev IsPutGround : Item → Type 0
  IsPutGround item = AllByRecursion (λ k. IsGroundCond (put_cond s k)) (cond_of item) × AllByRecursion (λ k. IsGroundCond (put_cond s k)) (event_of item)

  ground_conds : (conds : List Cond) → AllByRecursion (λ k. is_formed_cond n k ≡ true) conds → AllByRecursion (λ k. IsGroundCond (put_cond s k)) conds
  ground_conds conds h = all_weaker (λ k. is_formed_cond n k ≡ true) (λ k. IsGroundCond (put_cond s k)) (λ k is. cond_is_ground n s ground k is) conds h

  ground_item : (item : Item) → is_formed_item n m item ≡ true → IsPutGround item
  ground_item item h = let formed = formed_conds n m item h in (ground_conds (cond_of item) formed.0, ground_conds (event_of item) formed.1)

  ground_items : (items : List Item) → list_all (is_formed_item n m) items ≡ true → AllByRecursion IsPutGround items
  ground_items items h = all_weaker (λ item. is_formed_item n m item ≡ true) IsPutGround ground_item items (all_tested (is_formed_item n m) items h)

-- ---- truth in the trace, and over the events and the facts before and after

-- The facts before and after say what is true in the trace with the events, at the first time and at the second one and of what is
-- timeless; and what happened is what happens in it.
pub record AreAlike (text : Text) (level : List ℕ → ℕ) (trace : Trace) (events happened before after : List Atom) : Type 0 where
  pub at_first : (a : Atom) → is_condition (kind_of text a.name) ≡ true →
      IsTrueAt text level (then_events trace events) (length trace.cycles) a ↔ IsDerivedFrom is_true (clauses text) before level a
  pub at_second : (a : Atom) → is_condition (kind_of text a.name) ≡ true →
      IsTrueAt text level (then_events trace events) (suc (length trace.cycles)) a ↔ IsDerivedFrom is_true (clauses text) after level a
  pub bare_before : (a : Atom) → is_timeless (kind_of text a.name) ≡ true →
      IsTrueAt text level (then_events trace events) 0 a ↔ IsDerivedFrom is_true (clauses text) before level a
  pub bare_after : (a : Atom) → is_timeless (kind_of text a.name) ≡ true →
      IsTrueAt text level (then_events trace events) 0 a ↔ IsDerivedFrom is_true (clauses text) after level a
  pub happening : (a : Atom) → happens (kind_of text a.name) ≡ true → Contains events a ↔ IsDerivedFrom is_true (clauses text) happened level a

module _ (text : Text) (level : List ℕ → ℕ) (trace : Trace) (events happened before after : List Atom) (alike : AreAlike text level trace events happened before after) (first second : ℕ) where
  abbrev longer : Trace
  longer = then_events trace events

  abbrev now : ℕ
  now = length trace.cycles

  module _ (s : ℕ → Term) (t : ℕ → ℕ) (at_first : t first ≡ now) (at_second : t second ≡ suc now) where
    abbrev IsSmallPut : Item → Type 0
    IsSmallPut item = IsSmallItem (put_item s item)

    abbrev IsMetPut : Item → Type 0
    IsMetPut item = IsMetBy text level trace events t (put_item s item)

    abbrev IsGroundPut : Item → Type 0
    IsGroundPut item = AllByRecursion (λ k. IsGroundCond (put_cond s k)) (cond_of item) × AllByRecursion (λ k. IsGroundCond (put_cond s k)) (event_of item)

    -- what is to happen by the item is among the events
    abbrev Happens : Item → Type 0
    Happens item = AreMet (clauses text) happened level s (event_of item)

    true_then : (l : Lit) (IsFact : Atom → Type 0) (i j : ℕ) → i ≡ j → (IsTrueAt text level longer j l.atom ↔ IsFact l.atom) → IsTrueLit text level longer i l → Agrees l.negated (IsFact l.atom)
    true_then l IsFact i j same alike h =
        agrees_same l.negated (IsTrueAt text level longer j l.atom) (IsFact l.atom) alike (subst (λ k. IsTrueLit text level longer k l) same h)

    true_back : (l : Lit) (IsFact : Atom → Type 0) (i j : ℕ) → i ≡ j → (IsTrueAt text level longer j l.atom ↔ IsFact l.atom) → Agrees l.negated (IsFact l.atom) → IsTrueLit text level longer i l
    true_back l IsFact i j same alike h =
        subst (λ k. IsTrueLit text level longer k l) (sym same) (agrees_same l.negated (IsFact l.atom) (IsTrueAt text level longer j l.atom) (turn alike) h)

    -- an item before the cut is small and met where its condition is met over the facts before
    early_to : (item : Item) → IsEarly text first second item → IsGroundPut item → IsSmallPut item → IsMetPut item → AreMet (clauses text) before level s (cond_of item)
    early_to (i.At l time) is ground small met =
        let at = ap t is.0 ∙ at_first in
        (record { ground = ground.0.0; small = small; met = true_then (put_lit s l) (IsDerivedFrom is_true (clauses text) before level) (t time.0) now at (alike.at_first (put_lit s l).atom is.1) met }, tt)
    early_to (i.Bare l) is ground small met =
        (record { ground = ground.0.0; small = small; met = true_then (put_lit s l) (IsDerivedFrom is_true (clauses text) before level) 0 0 refl (alike.bare_before (put_lit s l).atom is) met }, tt)
    early_to (i.Built built) is ground small met = (record { ground = ground.0.0; small = small; met = met }, tt)
    early_to (i.Span a from to) is ground small met = tt
    early_to (i.Con con) is ground small met = absurd is

    early_from : (item : Item) → IsEarly text first second item → AreMet (clauses text) before level s (cond_of item) → Happens item → IsSmallPut item × IsMetPut item
    early_from (i.At l time) is met events =
        let at = ap t is.0 ∙ at_first in
        (met.0.small, true_back (put_lit s l) (IsDerivedFrom is_true (clauses text) before level) (t time.0) now at (alike.at_first (put_lit s l).atom is.1) met.0.met)
    early_from (i.Bare l) is met events =
        (met.0.small, true_back (put_lit s l) (IsDerivedFrom is_true (clauses text) before level) 0 0 refl (alike.bare_before (put_lit s l).atom is) met.0.met)
    early_from (i.Built built) is met events = (met.0.small, met.0.met)
    early_from (i.Span a from to) is met events =
        (events.0.small, (ap t is.0 ∙ at_first, ap t is.1 ∙ at_second, (alike.happening (put_atom s a) is.2).1 events.0.met))
    early_from (i.Con con) is met events = absurd is

    -- the same of an item from the cut on, over the facts after
    late_to : (item : Item) → IsLate text second item → IsGroundPut item → IsSmallPut item → IsMetPut item → AreMet (clauses text) after level s (cond_of item)
    late_to (i.At l time) is ground small met =
        let at = ap t is.0 ∙ at_second in
        (record { ground = ground.0.0; small = small; met = true_then (put_lit s l) (IsDerivedFrom is_true (clauses text) after level) (t time.0) (suc now) at (alike.at_second (put_lit s l).atom is.1) met }, tt)
    late_to (i.Bare l) is ground small met =
        (record { ground = ground.0.0; small = small; met = true_then (put_lit s l) (IsDerivedFrom is_true (clauses text) after level) 0 0 refl (alike.bare_after (put_lit s l).atom is) met }, tt)
    late_to (i.Built built) is ground small met = (record { ground = ground.0.0; small = small; met = met }, tt)
    late_to (i.Span a from to) is ground small met = absurd is
    late_to (i.Con con) is ground small met = absurd is

    late_from : (item : Item) → IsLate text second item → AreMet (clauses text) after level s (cond_of item) → Happens item → IsSmallPut item × IsMetPut item
    late_from (i.At l time) is met events =
        let at = ap t is.0 ∙ at_second in
        (met.0.small, true_back (put_lit s l) (IsDerivedFrom is_true (clauses text) after level) (t time.0) (suc now) at (alike.at_second (put_lit s l).atom is.1) met.0.met)
    late_from (i.Bare l) is met events =
        (met.0.small, true_back (put_lit s l) (IsDerivedFrom is_true (clauses text) after level) 0 0 refl (alike.bare_after (put_lit s l).atom is) met.0.met)
    late_from (i.Built built) is met events = (met.0.small, met.0.met)
    late_from (i.Span a from to) is met events = absurd is
    late_from (i.Con con) is met events = absurd is

    -- what is to happen
    event_to : (item : Item) → HasKinds text item → IsGroundPut item → IsSmallPut item → IsMetPut item → Happens item
    event_to (i.Span a from to) kind ground small met = (record { ground = ground.1.0; small = small; met = (alike.happening (put_atom s a) kind).0 met.2 }, tt)
    event_to (i.At l time) kind ground small met = tt
    event_to (i.Bare l) kind ground small met = tt
    event_to (i.Built built) kind ground small met = tt
    event_to (i.Con con) kind ground small met = tt

    events_to : (items : List Item) → AllByRecursion (HasKinds text) items → AllByRecursion IsGroundPut items → AllByRecursion IsSmallPut items → AllByRecursion IsMetPut items →
        AreMet (clauses text) happened level s (events_of items)
    events_to [] kinds ground small met = tt
    events_to (item ∷ items) kinds ground small met =
        all_append (λ k. IsMetCond (clauses text) happened level (put_cond s k)) (event_of item) (events_of items) (event_to item kinds.0 ground.0 small.0 met.0) (events_to items kinds.1 ground.1 small.1 met.1)

    each_happens : (items : List Item) → AreMet (clauses text) happened level s (events_of items) → AllByRecursion Happens items
    each_happens [] met = tt
    each_happens (item ∷ items) met = (
      all_first (λ k. IsMetCond (clauses text) happened level (put_cond s k)) (event_of item) (events_of items) met,
      each_happens items (all_second (λ k. IsMetCond (clauses text) happened level (put_cond s k)) (event_of item) (events_of items) met),
    )

    -- items of one side as conditions, over the facts of that side
    module _ (facts : List Atom) (IsSide : Item → Type 0) where
      abbrev IsMetPutCond : Cond → Type 0
      IsMetPutCond k = IsMetCond (clauses text) facts level (put_cond s k)

      side_to : ((item : Item) → IsSide item → IsGroundPut item → IsSmallPut item → IsMetPut item → AreMet (clauses text) facts level s (cond_of item)) →
          (items : List Item) → AllByRecursion IsSide items → AllByRecursion IsGroundPut items → AllByRecursion IsSmallPut items → AllByRecursion IsMetPut items →
          AreMet (clauses text) facts level s (conds_of items)
      side_to to [] is ground small met = tt
      side_to to (item ∷ items) is ground small met =
          all_append IsMetPutCond (cond_of item) (conds_of items) (to item is.0 ground.0 small.0 met.0) (side_to to items is.1 ground.1 small.1 met.1)

      side_from : ((item : Item) → IsSide item → AreMet (clauses text) facts level s (cond_of item) → Happens item → IsSmallPut item × IsMetPut item) →
          (items : List Item) → AllByRecursion IsSide items → AreMet (clauses text) facts level s (conds_of items) → AllByRecursion Happens items → AllByRecursion IsSmallPut items × AllByRecursion IsMetPut items
      side_from from [] is met events = (tt, tt)
      side_from from (item ∷ items) is met events =
          let here = from item is.0 (all_first IsMetPutCond (cond_of item) (conds_of items) met) events.0 in
          let rest = side_from from items is.1 (all_second IsMetPutCond (cond_of item) (conds_of items) met) events.1 in
          ((here.0, rest.0), (here.1, rest.1))

-- ---- the times of an instance

-- an item that happens is from the last state of the trace to the next one
times_of_span : (text : Text) (level : List ℕ → ℕ) (trace : Trace) (events : List Atom) (s : ℕ → Term) (t : ℕ → ℕ) (first second : ℕ) (items : List Item) → span_in items ≡ Some (first, second) →
    AllByRecursion (λ item. IsMetBy text level trace events t (put_item s item)) items → (t first ≡ length trace.cycles) × (t second ≡ suc (length trace.cycles))
times_of_span text level trace events s t first second [] e met = absurd (cc)
times_of_span text level trace events s t first second (i.Span a from to ∷ items) e met =
    let one : from.0 ≡ first = ap (λ times. (times_or times).0) e in
    let two : to.0 ≡ second = ap (λ times. (times_or times).1) e in
    (ap t (sym one) ∙ met.0.0, ap t (sym two) ∙ met.0.1)
  where
    times_or : Option (ℕ × ℕ) → ℕ × ℕ
    times_or None = (0, 0)
    times_or (Some times) = times
times_of_span text level trace events s t first second (i.At l time ∷ items) e met = times_of_span text level trace events s t first second items e met.1
times_of_span text level trace events s t first second (i.Bare l ∷ items) e met = times_of_span text level trace events s t first second items e met.1
times_of_span text level trace events s t first second (i.Built built ∷ items) e met = times_of_span text level trace events s t first second items e met.1
times_of_span text level trace events s t first second (i.Con con ∷ items) e met = times_of_span text level trace events s t first second items e met.1

-- the second time is one later than all others
abbrev times_with : ℕ → ℕ → ℕ → ℕ
times_with now second v = if v == second then suc now else now

at_other : (now first second : ℕ) → (first == second) ≡ false → times_with now second first ≡ now
at_other now first second e = ap (λ same. if same then suc now else now) e

at_itself : (now second : ℕ) → times_with now second second ≡ suc now
at_itself now second = let same : (second == second) ≡ true = grind (arith, nat_tests) in ap (λ b. if b then suc now else now) same

-- ---- other values

module _ (program : List Clause) (facts : List Atom) (level : List ℕ → ℕ) where
  -- conditions that are met are met by ground values
  met_settled : (s : ℕ → Term) (conds : List Cond) → AreMet program facts level s conds → AreMet program facts level (settled s) conds
  met_settled s [] met = tt
  met_settled s (k ∷ conds) met = (subst (IsMetCond program facts level) (sym (settles_cond s k met.0.ground)) met.0, met_settled s conds met.1)

-- ---- denials

module _ (text : Text) (level : List ℕ → ℕ) (trace : Trace) (events happened before after : List Atom) (alike : AreAlike text level trace events happened before after) (items : List Item) (denial : IsDenial text items) where
  abbrev early_count : ℕ
  early_count = count_early (second_in items) items

  pub violated_to : Violates text level trace events items → IsViolated (clauses text) happened before after level (cut text items)
  violated_to v =
      let small = all_unmapped (put_item v.values) IsSmallItem items v.small in
      let met = all_unmapped (put_item v.values) (IsMetBy text level trace events v.times) items v.met in
      let times = times_of_span text level trace events v.values v.times denial.first denial.second items denial.span met in
      let ground = ground_items v.values v.all_ground (length denial.statement.names) (length denial.statement.times) items denial.formed in
      let P = IsGroundPut text level trace events happened before after alike denial.first denial.second v.values v.times times.0 times.1 in
      let Q = IsSmallPut text level trace events happened before after alike denial.first denial.second v.values v.times times.0 times.1 in
      let R = IsMetPut text level trace events happened before after alike denial.first denial.second v.values v.times times.0 times.1 in
      record {
        values = v.values;
        happen = events_to text level trace events happened before after alike denial.first denial.second v.values v.times times.0 times.1 items denial.kinds ground small met;
        front = side_to text level trace events happened before after alike denial.first denial.second v.values v.times times.0 times.1 before (IsEarly text denial.first denial.second)
            (early_to text level trace events happened before after alike denial.first denial.second v.values v.times times.0 times.1) (front_of items) (front_is_early text items denial)
            (all_taken P early_count items ground) (all_taken Q early_count items small) (all_taken R early_count items met);
        back = side_to text level trace events happened before after alike denial.first denial.second v.values v.times times.0 times.1 after (IsLate text denial.second)
            (late_to text level trace events happened before after alike denial.first denial.second v.values v.times times.0 times.1) (back_of items) (back_is_late text items denial)
            (all_dropped P early_count items ground) (all_dropped Q early_count items small) (all_dropped R early_count items met);
      }

  pub violated_from : IsViolated (clauses text) happened before after level (cut text items) → Violates text level trace events items
  violated_from h =
      let s : ℕ → Term = settled h.values in
      let t : ℕ → ℕ = times_with (length trace.cycles) denial.second in
      let at_first : t denial.first ≡ length trace.cycles = at_other (length trace.cycles) denial.first denial.second denial.differ in
      let at_second : t denial.second ≡ suc (length trace.cycles) = at_itself (length trace.cycles) denial.second in
      let happen = each_happens text level trace events happened before after alike denial.first denial.second s t at_first at_second items (met_settled (clauses text) happened level h.values (events_of items) h.happen) in
      let H = Happens text level trace events happened before after alike denial.first denial.second s t at_first at_second in
      let early = side_from text level trace events happened before after alike denial.first denial.second s t at_first at_second before (IsEarly text denial.first denial.second)
      (early_from text level trace events happened before after alike denial.first denial.second s t at_first at_second) (front_of items) (front_is_early text items denial)
      (met_settled (clauses text) before level h.values (conds_of (front_of items)) h.front) (all_taken H early_count items happen) in
      let late = side_from text level trace events happened before after alike denial.first denial.second s t at_first at_second after (IsLate text denial.second)
      (late_from text level trace events happened before after alike denial.first denial.second s t at_first at_second) (back_of items) (back_is_late text items denial)
      (met_settled (clauses text) after level h.values (conds_of (back_of items)) h.back) (all_dropped H early_count items happen) in
      record {
        values = s;
        times = t;
        all_ground = settled_ground h.values;
        small = all_mapped (put_item s) IsSmallItem items (all_of_both (λ item. IsSmallItem (put_item s item)) early_count items early.0 late.0);
        met = all_mapped (put_item s) (IsMetBy text level trace events t) items (all_of_both (λ item. IsMetBy text level trace events t (put_item s item)) early_count items early.1 late.1);
      }

-- Whether events violate a denial after a trace is told from its last state alone, whatever the levels of the clauses are.
use Rattle.std.proofs.Common.{◌≡◌, ◌∙◌, ℕ, zero, suc, Bool, true, false, List, [], ◌∷◌, map, take, drop, length, refl, sym, ap, subst, inl, inr, arith}
use Rattle.std.specs.Prelude.{◌⊎◌, ◌↔◌, ◌==◌, Contains, Option, Some, None, if◌then◌else◌}
use Rattle.std.specs.List.{AllByRecursion}
use Rattle.std.specs.List.Sorted.{IsStrictlySortedBy}
use Rattle.std.proofs.lemmas.Bool.Decides.{nat_tests}
use Rattle.lps_terms.specs.declared.atom.Atom.{Atom}
use Rattle.lps_terms.specs.declared.item.Item.{Item}
use Rattle.lps_terms.specs.declared.item.Item.TheVariants as i
use Rattle.lps_terms.specs.declared.kind.Kind.{Kind}
use Rattle.lps_terms.specs.declared.kind.Kind.TheVariants as k
use Rattle.lps_terms.specs.declared.lit.Lit.{Lit}
use Rattle.lps_terms.specs.declared.term.Term.{Term}
use Rattle.lps_terms.specs.declared.text.Text.{Text}
use Rattle.lps_terms.specs.Order.{atom_cmp}
use Rattle.lps_model.specs.declared.cycle.Cycle.{Cycle}
use Rattle.lps_model.specs.declared.trace.Trace.{Trace}
use Rattle.lps_model.specs.declared.verdict.Verdict.TheVariants.{Admitted}
use Rattle.lps_model.specs.Acceptance.{IsAccepted}
use Rattle.lps_model.specs.Clauses.{clauses}
use Rattle.lps_model.specs.Formed.{is_formed}
use Rattle.lps_model.specs.Order.{span_in}
use Rattle.lps_model.specs.Rules.{denials, kind_of}
use Rattle.lps_model.specs.Run.{first_trace}
use Rattle.lps_model.specs.Trace.{happens_in}
use Rattle.lps_model.proofs.Elements.{nothing_contained}
use Rattle.lps_derivation.specs.Instances.{put_lit}
use Rattle.lps_derivation.specs.Levels.{AreLevels}
use Rattle.lps_meaning.specs.Denials.{IsMetBy, Violates, ViolatesNumber, then_events}
use Rattle.lps_meaning.specs.Holds.{CausedIn, Causes, Holds, IsTrueAt, IsTrueLit, IsTrueOver}
use Rattle.lps_meaning.specs.Items.{put_item}
use Rattle.lps_meaning.specs.Reports.{IsState}
use Rattle.lps_meaning.proofs.Lists.{number_contained}
use Rattle.lps_meaning.proofs.Persistence.{agrees_same, holds_by_levels, start_law, true_by_levels, true_same, turn, update_law}
use Rattle.lps_causal.specs.Names.{AreFluents}
use Rattle.lps_causal.proofs.Happening.{caused_is_fluent, is_timeless, timeless_everywhere}
use Rattle.lps_causal.proofs.States.{caused, state_stays}
use Rattle.lps_solve.proofs.Accepted.{accepted_is_sound}
use Rattle.lps_solve.proofs.Vars.{all_weaker}
use Rattle.lps_precond.specs.Cut.{back_of, count_early, front_of, second_in}
use Rattle.lps_precond.proofs.Alike.{then_both}
use Rattle.lps_precond.proofs.Sides.{IsEarly, IsLate, back_is_late, front_is_early}
use Rattle.lps_precond.proofs.Stated.{IsDenial, denial_is}

-- ---- a trace with a state

-- an accepted text has levels
pub some_levels : (text : Text) → IsAccepted text → is_formed text ≡ true → (level : List ℕ → ℕ) × AreLevels (clauses text) level
some_levels text accepted formed = let sound = accepted_is_sound text accepted formed [] (λ a h. absurd (nothing_contained a h)) in (sound.level, sound.levels)

-- sorted facts are the last state of a trace of no cycles
pub is_first_state : (text : Text) (level : List ℕ → ℕ) (facts : List Atom) → IsStrictlySortedBy atom_cmp facts → IsState text level (first_trace facts) 0 facts
is_first_state text level facts sorted = record { sorted = sorted; exact = λ fluent. turn (start_law text level (first_trace facts) fluent) }

-- ---- truth after the trace

abbrev cycle_of : List Atom → Cycle
cycle_of events = record { events = events; verdicts = map (λ event. Admitted) events; picks = [] }

is_fluent_or_not : (kind : Option Kind) → (kind ≡ Some k.Fluent) ⊎ (kind ≡ Some k.Fluent → ⊥)
is_fluent_or_not None = inr (λ e. cc)
is_fluent_or_not (Some k.Fluent) = inl refl
is_fluent_or_not (Some k.Derived) = inr (λ e. cc)
is_fluent_or_not (Some k.Timeless) = inr (λ e. cc)
is_fluent_or_not (Some k.Event) = inr (λ e. cc)
is_fluent_or_not (Some k.Action) = inr (λ e. cc)
is_fluent_or_not (Some k.Macro) = inr (λ e. cc)

module _ (text : Text) (accepted : IsAccepted text) (facts : List Atom) (fluents : AreFluents text facts) (events : List Atom) (base : List ℕ → ℕ) (bases : AreLevels (clauses text) base) where
  -- what holds in the state after the events
  abbrev HoldsNext : Atom → Type 0
  HoldsNext a = Causes text base true (Contains facts) (happens_in (cycle_of events)) a
      ⊎ (Contains facts a × (Causes text base false (Contains facts) (happens_in (cycle_of events)) a × (Causes text base true (Contains facts) (happens_in (cycle_of events)) a → ⊥) → ⊥))

  module _ (level : List ℕ → ℕ) (levels : AreLevels (clauses text) level) (trace : Trace) (state : IsState text level trace (length trace.cycles) facts) where
    abbrev now : ℕ
    now = length trace.cycles

    abbrev longer : Trace
    longer = then_events trace events

    state_by : IsState text base trace now facts
    state_by = record { sorted = state.sorted; exact = λ a. then_both (state.exact a) (holds_by_levels text level base levels bases trace now a) }

    held_now : (a : Atom) → Holds text base longer now a ↔ Contains facts a
    held_now a = turn ((state_stays text base trace (cycle_of events) facts state_by).exact a)

    causes : (initiates : Bool) (a : Atom) → Causes text base initiates (Contains facts) (happens_in (cycle_of events)) a ↔ CausedIn text base longer (Holds text base longer) initiates (suc now) a
    causes initiates a = caused text base trace (cycle_of events) facts state_by initiates a

    held_next : (a : Atom) → Holds text base longer (suc now) a ↔ HoldsNext a
    held_next a = (
      λ h. elim ((update_law text base longer a now).0 h) [
        | inl begins ↦ inl ((causes true a).1 begins)
        | inr stays ↦ inr ((held_now a).0 stays.0, λ ends. stays.1 ((causes false a).0 ends.0, λ begins. ends.1 ((causes true a).1 begins)))
      ],
      λ h. (update_law text base longer a now).1 (elim h [
        | inl begins ↦ inl ((causes true a).0 begins)
        | inr stays ↦ inr ((held_now a).1 stays.0, λ ends. stays.1 ((causes false a).1 ends.0, λ begins. ends.1 ((causes true a).0 begins)))
      ]),
    )

    true_now : (a : Atom) → IsTrueAt text level longer now a ↔ IsTrueOver text base (Contains facts) a
    true_now a = then_both (true_by_levels text level base levels bases longer now a) (true_same text base (Holds text base longer now) (Contains facts) held_now a)

    true_next : (a : Atom) → IsTrueAt text level longer (suc now) a ↔ IsTrueOver text base HoldsNext a
    true_next a = then_both (true_by_levels text level base levels bases longer (suc now) a) (true_same text base (Holds text base longer (suc now)) HoldsNext held_next a)

    -- what is no fluent stays
    stays : (a : Atom) → (kind_of text a.name ≡ Some k.Fluent → ⊥) → Holds text base longer 0 a → (i : ℕ) → Holds text base longer i a
    stays a never held zero = held
    stays a never held (suc i) =
        (update_law text base longer a i).1 (inr (stays a never held i, λ ends. never (caused_is_fluent text accepted base false (Holds text base longer i) _ a ends.0)))

    starts_as_fluent : (a : Atom) → Holds text base longer 0 a → kind_of text a.name ≡ Some k.Fluent
    starts_as_fluent a held =
        elim (is_fluent_or_not (kind_of text a.name)) [
          | inl fluent ↦ fluent
          | inr never ↦ (fluents.each a ((held_now a).0 (stays a never held now))).kind
        ]

    true_always : (a : Atom) → is_timeless (kind_of text a.name) ≡ true → IsTrueAt text level longer 0 a ↔ IsTrueOver text base (Contains facts) a
    true_always a timeless =
        then_both (true_by_levels text level base levels bases longer 0 a)
        (timeless_everywhere text accepted base (Holds text base longer 0) (Contains facts) starts_as_fluent (λ b h. (fluents.each b h).kind) a timeless)

-- ---- two traces

-- after both traces the same is true at the first and the second time, and always
record AreSame (text : Text) (level other : List ℕ → ℕ) (trace next : Trace) (events : List Atom) : Type 0 where
  first : (a : Atom) → IsTrueAt text level (then_events trace events) (length trace.cycles) a ↔ IsTrueAt text other (then_events next events) (length next.cycles) a
  second : (a : Atom) → IsTrueAt text level (then_events trace events) (suc (length trace.cycles)) a ↔ IsTrueAt text other (then_events next events) (suc (length next.cycles)) a
  always : (a : Atom) → is_timeless (kind_of text a.name) ≡ true → IsTrueAt text level (then_events trace events) 0 a ↔ IsTrueAt text other (then_events next events) 0 a

are_same : (text : Text) → IsAccepted text → (facts : List Atom) → AreFluents text facts → (events : List Atom) (level other : List ℕ → ℕ) → AreLevels (clauses text) level → AreLevels (clauses text) other →
    (trace next : Trace) → IsState text level trace (length trace.cycles) facts → IsState text other next (length next.cycles) facts → AreSame text level other trace next events
are_same text accepted facts fluents events level other levels others trace next state there = record {
  first = λ a. then_both (true_now text accepted facts fluents events other others level levels trace state a) (turn (true_now text accepted facts fluents events other others other others next there a));
  second = λ a. then_both (true_next text accepted facts fluents events other others level levels trace state a) (turn (true_next text accepted facts fluents events other others other others next there a));
  always = λ a timeless.
      then_both (true_always text accepted facts fluents events other others level levels trace state a timeless)
      (turn (true_always text accepted facts fluents events other others other others next there a timeless));
}

-- ---- lists

all_of_both : {X : Type 0} (P : X → Type 0) (n : ℕ) (xs : List X) → AllByRecursion P (take n xs) → AllByRecursion P (drop n xs) → AllByRecursion P xs
all_of_both P zero [] one two = tt
all_of_both P zero (x ∷ xs) one two = two
all_of_both P (suc n) [] one two = tt
all_of_both P (suc n) (x ∷ xs) one two = (one.0, all_of_both P n xs one.1 two)

-- ---- denials

module _ (text : Text) (level other : List ℕ → ℕ) (trace next : Trace) (events : List Atom) (same : AreSame text level other trace next events) (first second : ℕ) (s : ℕ → Term) (t u : ℕ → ℕ)
    (at_first : t first ≡ length trace.cycles) (at_second : t second ≡ suc (length trace.cycles)) (then_first : u first ≡ length next.cycles) (then_second : u second ≡ suc (length next.cycles)) where
  -- a literal at a time
  lit_to : (l : Lit) (time i j : ℕ) → t time ≡ i → u time ≡ j → (IsTrueAt text level (then_events trace events) i l.atom ↔ IsTrueAt text other (then_events next events) j l.atom) →
      IsTrueLit text level (then_events trace events) (t time) l → IsTrueLit text other (then_events next events) (u time) l
  lit_to l time i j at there alike h =
      subst (λ n. IsTrueLit text other (then_events next events) n l) (sym there)
      (agrees_same l.negated (IsTrueAt text level (then_events trace events) i l.atom) (IsTrueAt text other (then_events next events) j l.atom) alike (subst (λ n. IsTrueLit text level (then_events trace events) n l) at h))

  abbrev IsSided : Item → Type 0
  IsSided item = IsEarly text first second item ⊎ IsLate text second item

  -- an item that is met in the one is met in the other
  item_to : (item : Item) → IsSided item → IsMetBy text level trace events t (put_item s item) → IsMetBy text other next events u (put_item s item)
  item_to (i.At l time) (inl early) met =
      lit_to (put_lit s l) time.0 (length trace.cycles) (length next.cycles) (ap t early.0 ∙ at_first) (ap u early.0 ∙ then_first) (same.first (put_lit s l).atom) met
  item_to (i.At l time) (inr late) met =
      lit_to (put_lit s l) time.0 (suc (length trace.cycles)) (suc (length next.cycles)) (ap t late.0 ∙ at_second) (ap u late.0 ∙ then_second) (same.second (put_lit s l).atom) met
  item_to (i.Bare l) (inl early) met =
      agrees_same (put_lit s l).negated (IsTrueAt text level (then_events trace events) 0 (put_lit s l).atom) (IsTrueAt text other (then_events next events) 0 (put_lit s l).atom) (same.always (put_lit s l).atom early) met
  item_to (i.Bare l) (inr late) met =
      agrees_same (put_lit s l).negated (IsTrueAt text level (then_events trace events) 0 (put_lit s l).atom) (IsTrueAt text other (then_events next events) 0 (put_lit s l).atom) (same.always (put_lit s l).atom late) met
  item_to (i.Built built) side met = met
  item_to (i.Span a from to) (inl early) met = (ap u early.0 ∙ then_first, ap u early.1 ∙ then_second, met.2)
  item_to (i.Span a from to) (inr late) met = absurd late
  item_to (i.Con con) (inl early) met = absurd early
  item_to (i.Con con) (inr late) met = absurd late

  items_to : (items : List Item) → AllByRecursion IsSided items → AllByRecursion (IsMetBy text level trace events t) (map (put_item s) items) → AllByRecursion (IsMetBy text other next events u) (map (put_item s) items)
  items_to [] sided met = tt
  items_to (item ∷ items) sided met = (item_to item sided.0 met.0, items_to items sided.1 met.1)

-- an item that happens is from the last state of the trace to the next one
times_of_span : (text : Text) (level : List ℕ → ℕ) (trace : Trace) (events : List Atom) (s : ℕ → Term) (t : ℕ → ℕ) (first second : ℕ) (items : List Item) → span_in items ≡ Some (first, second) →
    AllByRecursion (IsMetBy text level trace events t) (map (put_item s) items) → (t first ≡ length trace.cycles) × (t second ≡ suc (length trace.cycles))
times_of_span text level trace events s t first second [] e met = absurd (cc)
times_of_span text level trace events s t first second (i.Span a from to ∷ items) e met =
    let one : from.0 ≡ first = ap (λ times. (times_or times).0) e in
    let two : to.0 ≡ second = ap (λ times. (times_or times).1) e in
    (ap t (sym one) ∙ met.0.0, ap t (sym two) ∙ met.0.1)
  where
    times_or : Option (ℕ × ℕ) → ℕ × ℕ
    times_or None = (0, 0)
    times_or (Some times) = times
times_of_span text level trace events s t first second (i.At l time ∷ items) e met = times_of_span text level trace events s t first second items e met.1
times_of_span text level trace events s t first second (i.Bare l ∷ items) e met = times_of_span text level trace events s t first second items e met.1
times_of_span text level trace events s t first second (i.Built built ∷ items) e met = times_of_span text level trace events s t first second items e met.1
times_of_span text level trace events s t first second (i.Con con ∷ items) e met = times_of_span text level trace events s t first second items e met.1

-- the second time is one later than all others
abbrev times_with : ℕ → ℕ → ℕ → ℕ
times_with now second v = if v == second then suc now else now

at_itself : (now second : ℕ) → times_with now second second ≡ suc now
at_itself now second = let same : (second == second) ≡ true = grind (arith, nat_tests) in ap (λ b. if b then suc now else now) same

denial_to : (text : Text) (level other : List ℕ → ℕ) (trace next : Trace) (events : List Atom) → AreSame text level other trace next events → (items : List Item) → IsDenial text items →
    Violates text level trace events items → Violates text other next events items
denial_to text level other trace next events same items denial v =
    let first = denial.first in
    let second = denial.second in
    let u : ℕ → ℕ = times_with (length next.cycles) second in
    let times = times_of_span text level trace events v.values v.times first second items denial.span v.met in
    let then_first : u first ≡ length next.cycles = ap (λ test. if test then suc (length next.cycles) else length next.cycles) denial.differ in
    let sided = all_of_both (λ item. IsEarly text first second item ⊎ IsLate text second item) (count_early (second_in items) items) items
    (all_weaker (IsEarly text first second) (λ item. IsEarly text first second item ⊎ IsLate text second item) (λ item h. inl h) (front_of items) (front_is_early text items denial))
    (all_weaker (IsLate text second) (λ item. IsEarly text first second item ⊎ IsLate text second item) (λ item h. inr h) (back_of items) (back_is_late text items denial)) in
    record {
      values = v.values;
      times = u;
      all_ground = v.all_ground;
      small = v.small;
      met = items_to text level other trace next events same first second v.values v.times u times.0 times.1 then_first (at_itself (length next.cycles) second) items sided v.met;
    }

-- the events violate the same denials after both traces
pub violates_same : (text : Text) → IsAccepted text → is_formed text ≡ true → (facts : List Atom) → AreFluents text facts → (level other : List ℕ → ℕ) → AreLevels (clauses text) level →
    AreLevels (clauses text) other → (trace next : Trace) → IsState text level trace (length trace.cycles) facts → IsState text other next (length next.cycles) facts → (events : List Atom) (k : ℕ) →
    ViolatesNumber text level trace events k → ViolatesNumber text other next events k
violates_same text accepted formed facts fluents level other levels others trace next state there events k h =
    let items : List Item = h.0 in
    let denial = denial_is text accepted formed items (number_contained (denials text) k items h.1) in
    (items, h.1, denial_to text level other trace next events (are_same text accepted facts fluents events level other levels others trace next state there) items denial h.2)

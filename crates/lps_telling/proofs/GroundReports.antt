-- What is reported of a run of an accepted and well-formed text is ground, as long as its numbers have 64 bits: the values of goals
-- are those of instances, and their times are not later than the goals.
use Rattle.std.proofs.Common.{ℕ, zero, suc, ◌≡◌, ◌≤◌, ◌<◌, ◌+◌, Bool, true, false, List, [], ◌∷◌, ◌++◌, length, map, sym, ap, subst, arith, inl, inr, length-append}
use Rattle.std.specs.Prelude.{◌^◌, IsTrue, Option, Some, None, Contains, slice_get, if◌then◌else◌}
use Rattle.std.specs.List.{AllByRecursion, flat_map}
use Rattle.lps_terms.specs.declared.item.Item.{Item}
use Rattle.lps_terms.specs.declared.item.Item.TheVariants as i
use Rattle.lps_terms.specs.declared.text.Text.{Text}
use Rattle.lps_model.specs.declared.cycle.Cycle.{Cycle}
use Rattle.lps_model.specs.declared.trace.Trace.{Trace}
use Rattle.lps_model.specs.Acceptance.{IsAccepted}
use Rattle.lps_model.specs.Formed.{is_formed}
use Rattle.lps_model.specs.Order.{occurs, times_of}
use Rattle.lps_model.specs.Trace.{cycle_at, cycle_or_none, then_cycle}
use Rattle.lps_derivation.specs.Ground.{is_ground}
use Rattle.lps_meaning.specs.declared.goal.GoalKey.{GoalKey}
use Rattle.lps_meaning.specs.declared.goal.NewGoal.{NewGoal}
use Rattle.lps_meaning.specs.Cycles.{AreLegal, IsRun}
use Rattle.lps_meaning.specs.Goals.{IsGoal, distinct, shared_times, shared_values}
use Rattle.lps_telling.specs.Laws.{IsGroundReport, IsSmallReport}
use Rattle.lps_telling.specs.Grounded.{IsGroundCycle, IsGroundGoal}
use Rattle.lps_model.specs.Rules.{is_macro, kind_of, rules}
use Rattle.lps_meaning.specs.Frames.{AreFramed, first_begin, last_end_or}
use Rattle.lps_meaning.specs.Sequences.{Entry, IsSpanPlaced, Place, Times, Values, Walk, entries}
use Rattle.lps_meaning.proofs.Lists.{number_contained, of_each, of_element, of_filter}
use Rattle.lps_telling.proofs.BlockTexts.{legal_paired}
use Rattle.lps_meaning.proofs.Framing.{accepted_texts_are_framed}
use Rattle.lps_meaning.proofs.GroundFacts.{holds_ground}
use Rattle.lps_telling.proofs.GroundRuns.{run_ground}
use Rattle.lps_meaning.proofs.Occurrences.{all_behind, all_front, all_to}
use Rattle.lps_meaning.proofs.Stepped.{IsConOf, IsStepped, IsSteppedRule, IsTimeOf, con_to, rules_stepped}

some_time : {n m : ℕ} → Some n ≡ Some m → n ≡ m
some_time {n} e = ap (number_or n) e
  where
    number_or : ℕ → Option ℕ → ℕ
    number_or given (Some number) = number
    number_or given None = given

-- ---- no step of a whole walk ends after now

-- the times of the item are not later
abbrev IsBy : ℕ → (ℕ → ℕ) → Item → Type 0
IsBy now t (i.At lit time) = t time.0 ≤ now
IsBy now t (i.Span a from to) = (t from.0 ≤ now) × (t to.0 ≤ now)
IsBy now t _ = Unit {0}

abbrev AreBy : ℕ → Times → List Entry → Type 0
AreBy now t = AllByRecursion (λ (e : Entry). IsBy now (t e.env) e.item)

module _ (text : Text) (now : ℕ) (t : Times) (env nest : ℕ) where
  begins_by : (before : Option Item) (items : List Item) (v : ℕ) → AreBy now t (entries text env nest before items) → first_begin items ≡ Some v → t env v ≤ now
  begins_by before [] v h e = absurd cc
  begins_by before (i.At lit time ∷ items) v h e = subst (λ n. t env n ≤ now) (some_time e) h.0
  begins_by before (i.Span a from to ∷ items) v h e = subst (λ n. t env n ≤ now) (some_time e) h.0.0
  begins_by before (i.Bare lit ∷ items) v h e = begins_by (Some (i.Bare lit)) items v h.1 e
  begins_by before (i.Built built ∷ items) v h e = begins_by (Some (i.Built built)) items v h.1 e
  begins_by before (i.Con con ∷ items) v h e = begins_by (Some (i.Con con)) items v h.1 e

  ends_by : (before : Option Item) (given : Option ℕ) (items : List Item) (v : ℕ) → ((u : ℕ) → given ≡ Some u → t env u ≤ now) →
      AreBy now t (entries text env nest before items) → last_end_or given items ≡ Some v → t env v ≤ now
  ends_by before given [] v by h e = by v e
  ends_by before given (i.At lit time ∷ items) v by h e = ends_by (Some (i.At lit time)) (Some time.0) items v (λ u same. subst (λ n. t env n ≤ now) (some_time same) h.0) h.1 e
  ends_by before given (i.Span a from to ∷ items) v by h e = ends_by (Some (i.Span a from to)) (Some to.0) items v (λ u same. subst (λ n. t env n ≤ now) (some_time same) h.0.1) h.1 e
  ends_by before given (i.Bare lit ∷ items) v by h e = ends_by (Some (i.Bare lit)) given items v by h.1 e
  ends_by before given (i.Built built ∷ items) v by h e = ends_by (Some (i.Built built)) given items v by h.1 e
  ends_by before given (i.Con con ∷ items) v by h e = ends_by (Some (i.Con con)) given items v by h.1 e

  is_time_by : (item : Item) (v : ℕ) → IsBy now (t env) item → IsTimeOf v item → t env v ≤ now
  is_time_by (i.At lit time) v h is = subst (λ n. t env n ≤ now) is h
  is_time_by (i.Span a from to) v h (inl is) = subst (λ n. t env n ≤ now) is h.0
  is_time_by (i.Span a from to) v h (inr is) = subst (λ n. t env n ≤ now) is h.1
  is_time_by (i.Bare lit) v h is = absurd is
  is_time_by (i.Built built) v h is = absurd is
  is_time_by (i.Con con) v h is = absurd is

  stepped_by : (before : Option Item) (items : List Item) (v : ℕ) → AreBy now t (entries text env nest before items) → IsStepped v items → t env v ≤ now
  stepped_by before [] v h is = absurd is
  stepped_by before (item ∷ items) v h (inl here) = is_time_by item v h.0 here
  stepped_by before (item ∷ items) v h (inr later) = stepped_by (Some item) items v h.1 later

span_begins : (macro joins : Bool) (before from to now : ℕ) → macro ≡ false → IsSpanPlaced macro joins before from to → to ≤ now → from ≤ now
span_begins true joins before from to now e placed h = absurd cc
span_begins false true before from to now e placed h = let after = placed.0 in omega (arith, after, h)
span_begins false false before from to now e placed h = let after = placed.0 in omega (arith, after, h)

module _ (text : Text) (framed : AreFramed text) (level : List ℕ → ℕ) (trace : Trace) (given : List ℕ) (s : Values) (t : Times) (now : ℕ) where
  walk_by : (end place : Place) → Walk text level trace given s t now end place → end.left ≡ [] → AreBy now t place.left
  walk_by end place Walk.stop whole = subst (AreBy now t) (sym whole) tt
  walk_by end place (Walk.pass env nest joins (i.At lit time) rest left no_call is_true small placed walk) whole =
      subst (AreBy now t) (sym left) (is_true.0, walk_by end _ walk whole)
  walk_by end place (Walk.pass env nest joins (i.Span a from to) rest left no_call is_true small placed walk) whole =
      subst (AreBy now t) (sym left)
      ((span_begins (is_macro (kind_of text a.name)) joins place.before (t env from.0) (t env to.0) now no_call placed is_true.0, is_true.0), walk_by end _ walk whole)
  walk_by end place (Walk.pass env nest joins (i.Bare lit) rest left no_call is_true small placed walk) whole = subst (AreBy now t) (sym left) (tt, walk_by end _ walk whole)
  walk_by end place (Walk.pass env nest joins (i.Built built) rest left no_call is_true small placed walk) whole = subst (AreBy now t) (sym left) (tt, walk_by end _ walk whole)
  walk_by end place (Walk.pass env nest joins (i.Con con) rest left no_call is_true small placed walk) whole = subst (AreBy now t) (sym left) (tt, walk_by end _ walk whole)
  walk_by end place (Walk.replace e rest a from to number clause left is_span macro of_text values times small walk) whole =
      let frame = framed.each a.name number clause of_text in
      let all = walk_by end _ walk whole in
      let body = entries text place.next (suc e.nest) None clause.items in
      let front = all_front (λ (e : Entry). IsBy now (t e.env) e.item) body rest all in
      let behind = all_behind (λ (e : Entry). IsBy now (t e.env) e.item) body rest all in
      let begin : t e.env from.0 ≤ now = subst (λ n. n ≤ now) (sym times.0) (begins_by text now t place.next (suc e.nest) None clause.items clause.begin front frame.begin) in
      let until : t e.env to.0 ≤ now = subst (λ n. n ≤ now) (sym times.1) (ends_by text now t place.next (suc e.nest) None None clause.items clause.end (λ u none. absurd cc) front frame.end) in
      subst (AreBy now t) (sym left) (subst (IsBy now (t e.env)) (sym is_span) (begin, until), behind)

-- ---- goals

of_map : {X Y : Type 0} (P : Y → Type 0) (f : X → Y) → ((x : X) → P (f x)) → (xs : List X) → AllByRecursion P (map f xs)
of_map P f each [] = tt
of_map P f each (x ∷ xs) = (each x, of_map P f each xs)

of_map_each : {X Y : Type 0} (P : Y → Type 0) (f : X → Y) (xs : List X) → AllByRecursion (λ x. P (f x)) xs → AllByRecursion P (map f xs)
of_map_each P f [] h = tt
of_map_each P f (x ∷ xs) h = (h.0, of_map_each P f xs h.1)

of_distinct : (P : ℕ → Type 0) (seen vs : List ℕ) → AllByRecursion P vs → AllByRecursion P (distinct seen vs)
of_distinct P seen [] h = tt
of_distinct P seen (v ∷ vs) h = by (occurs v seen) (of_distinct P seen vs h.1) (of_distinct P (v ∷ seen) vs h.1)
  where
    by : (held : Bool) → AllByRecursion P (distinct seen vs) → AllByRecursion P (distinct (v ∷ seen) vs) → AllByRecursion P (if held then distinct seen vs else v ∷ distinct (v ∷ seen) vs)
    by true without with_it = without
    by false without with_it = (h.0, with_it)

-- the times of items, if those of their steps are not later and those of their constraints neither
times_by : (text : Text) (now : ℕ) (t : Times) (before : Option Item) (items : List Item) → AreBy now t (entries text 0 0 before items) →
    AllByRecursion (IsConOf (λ v. t 0 v ≤ now)) items → AllByRecursion (λ v. t 0 v ≤ now) (flat_map times_of items)
times_by text now t before [] h con = tt
times_by text now t before (i.At lit time ∷ items) h con = (h.0, times_by text now t (Some (i.At lit time)) items h.1 con.1)
times_by text now t before (i.Span a from to ∷ items) h con = (h.0.0, (h.0.1, times_by text now t (Some (i.Span a from to)) items h.1 con.1))
times_by text now t before (i.Bare lit ∷ items) h con = times_by text now t (Some (i.Bare lit)) items h.1 con.1
times_by text now t before (i.Built built ∷ items) h con = times_by text now t (Some (i.Built built)) items h.1 con.1
times_by text now t before (i.Con c ∷ items) h con = (con.0.0, (con.0.1, times_by text now t (Some (i.Con c)) items h.1 con.1))

module _ (text : Text) (accepted : IsAccepted text) (level : List ℕ → ℕ) (trace : Trace) (key : GoalKey) (goal : IsGoal text level trace key) where
  goal_values : AllByRecursion (λ value. IsTrue (is_ground value)) key.values
  goal_values =
      let h = goal.instance in
      subst (AllByRecursion (λ value. IsTrue (is_ground value))) h.of_key.values
      (of_map (λ value. IsTrue (is_ground value)) (h.values 0) (λ v. h.ground 0 v) (shared_values goal.rule))

  goal_times : AllByRecursion (λ time. time ≤ key.time) key.times
  goal_times =
      let h = goal.instance in
      let rule = goal.rule in
      let stepped = of_element IsSteppedRule (rules text) rule (rules_stepped text accepted) (number_contained (rules text) key.rule rule goal.of_text) in
      let by = walk_by text (accepted_texts_are_framed text accepted) level trace [] h.values h.times key.time h.end _ h.walk h.whole in
      let cons = all_to (IsConOf (λ v. IsStepped v rule.antecedent)) (IsConOf (λ v. h.times 0 v ≤ key.time))
      (con_to (λ v. IsStepped v rule.antecedent) (λ v. h.times 0 v ≤ key.time) (λ v is. stepped_by text key.time h.times 0 0 None rule.antecedent v by is)) rule.antecedent stepped.0 in
      let all = times_by text key.time h.times None rule.antecedent by cons in
      let shared = of_filter (λ v. h.times 0 v ≤ key.time) (λ v. occurs v (flat_map (flat_map times_of) rule.alternatives)) (distinct [] (flat_map times_of rule.antecedent))
      (of_distinct (λ v. h.times 0 v ≤ key.time) [] (flat_map times_of rule.antecedent) all) in
      subst (AllByRecursion (λ time. time ≤ key.time)) h.of_key.times (of_map_each (λ time. time ≤ key.time) (h.times 0) (shared_times rule) shared)

-- ---- blocks

legal_few : (text : Text) (level : List ℕ → ℕ) (depth : ℕ) (before : Trace) (cycles : List Cycle) → AreLegal text level depth before cycles → length before.cycles ≤ 1000000 →
    length before.cycles + length cycles ≤ 1000000
legal_few text level depth before [] h few = omega (arith, few)
legal_few text level depth before (cycle ∷ cycles) h few =
    let room = h.0.room in
    let more : length (before.cycles ++ cycle ∷ []) ≡ length before.cycles + 1 = length-append before.cycles (cycle ∷ []) in
    let later = legal_few text level depth (then_cycle before cycle) cycles h.1 (omega (arith, room, more)) in
    omega (arith, more, later)

cycle_ground : (cycles : List Cycle) (k : ℕ) → AllByRecursion IsGroundCycle cycles → IsGroundCycle (cycle_or_none (slice_get cycles k))
cycle_ground [] k h = record { events = tt; verdicts = tt; picks = tt }
cycle_ground (cycle ∷ cycles) zero h = h.0
cycle_ground (cycle ∷ cycles) (suc k) h = cycle_ground cycles k h.1

cycle_paired : (cycles : List Cycle) (k : ℕ) → AllByRecursion (λ (cycle : Cycle). length cycle.events ≡ length cycle.verdicts) cycles →
    length (cycle_or_none (slice_get cycles k)).events ≡ length (cycle_or_none (slice_get cycles k)).verdicts
cycle_paired [] k h = λ i. 0
cycle_paired (cycle ∷ cycles) zero h = h.0
cycle_paired (cycle ∷ cycles) (suc k) h = cycle_paired cycles k h.1

module _ (text : Text) (level : List ℕ → ℕ) (depth : ℕ) (accepted : IsAccepted text) (formed : IsTrue (is_formed text)) (trace : Trace) (run : IsRun text level depth trace)
    (small : IsSmallReport text level depth trace) where
  at_cycle : (k : ℕ) → IsGroundCycle (cycle_at trace k) × (length (cycle_at trace k).events ≡ length (cycle_at trace k).verdicts)
  at_cycle zero = (record { events = tt; verdicts = tt; picks = tt }, λ i. 0)
  at_cycle (suc k) = (
    cycle_ground trace.cycles k (run_ground text level depth trace formed run small.cycles),
    cycle_paired trace.cycles k (legal_paired text level depth _ trace.cycles run.legal),
  )

  few : length trace.cycles ≤ 1000000
  few = let all = legal_few text level depth (record { initial = trace.initial; cycles = [] }) trace.cycles run.legal (omega arith) in omega (arith, all)

  pub report_ground : IsGroundReport text level depth trace
  report_ground k upto block is =
      let numbers = small.blocks k upto block is in
      let here = subst (λ (cycle : Cycle). IsGroundCycle cycle × (length cycle.events ≡ length cycle.verdicts)) (sym is.cycle) (at_cycle k) in
      record {
        cycle = here.0;
        paired = here.1;
        facts = of_each _ block.facts (λ fluent among. holds_ground text formed level trace accepted run.initial k fluent ((is.state.exact fluent).0 among));
        created = of_each IsGroundGoal block.created (λ new among. goal_ground new among (of_element _ block.created new numbers.created among));
        closed = numbers.closed;
      }
    where
      goal_ground : (new : NewGoal) → Contains block.created new → (new.goal.0 < 2 ^ 64) × (new.key.rule < 2 ^ 64) → IsGroundGoal new
      goal_ground new among numbers =
          let is_new = (is.created.exact new.goal.0 new.key).0 among in
          let of_trace = (is.goals.exact new.key).0 (number_contained is.keys new.goal.0 new.key is_new.0) in
          let by : new.key.time ≤ 1000000 = let most = few in let in_time = of_trace.0 in omega (arith, most, in_time, upto) in
          record {
            goal = numbers.0;
            rule = numbers.1;
            values = goal_values text accepted level trace new.key of_trace.1;
            times = all_to (λ time. time ≤ new.key.time) (λ time. time < 2 ^ 64) (λ time h. omega (arith, h, by)) new.key.times (goal_times text accepted level trace new.key of_trace.1);
          }

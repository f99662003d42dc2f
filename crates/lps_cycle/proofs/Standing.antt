-- How an engine stands: at first, and after a cycle more.
use Rattle.std.proofs.Common.{ℕ, suc, ◌≡◌, ◌≤◌, ◌<◌, ◌+◌, List, [], ◌∷◌, ◌++◌, length, refl, sym, ap, subst, ◌∙◌, arith, inl}
use Rattle.std.specs.Prelude.{Some, true}
use Rattle.std.specs.List.{AllByRecursion}
use Rattle.std.proofs.lemmas.List.{map-append}
use Rattle.std.proofs.lemmas.List.Sums.{sum_by-append, sum_by-cons}
use Rattle.lps_terms.specs.declared.atom.Atom.{Atom}
use Rattle.lps_terms.specs.declared.prefer.Prefer.{Prefer}
use Rattle.lps_terms.specs.declared.text.Text.{Text}
use Rattle.lps_model.specs.declared.cycle.Cycle.{Cycle}
use Rattle.lps_model.specs.declared.cycle.Pick.{Pick}
use Rattle.lps_model.specs.declared.trace.Trace.{Trace}
use Rattle.lps_model.specs.declared.verdict.Verdict.{Verdict}
use Rattle.lps_model.specs.Acceptance.{IsAccepted}
use Rattle.lps_model.specs.Clauses.{clauses}
use Rattle.lps_model.specs.Formed.{is_formed}
use Rattle.lps_model.specs.Run.{AreInitial, first_trace}
use Rattle.lps_model.specs.Trace.{admitted, cycle_at, then_cycle}
use Rattle.lps_model.proofs.Elements.{nothing_contained}
use Rattle.lps_derivation.specs.Levels.{AreLevels}
use Rattle.lps_causal.specs.Next.{IsUpdate}
use Rattle.lps_meaning.specs.declared.goal.Closed.{Closed}
use Rattle.lps_meaning.specs.declared.goal.GoalId.{GoalId}
use Rattle.lps_meaning.specs.declared.goal.NewGoal.{NewGoal}
use Rattle.lps_meaning.specs.Cycles.{IsOutside}
use Rattle.lps_meaning.specs.Plain.{IsPlain}
use Rattle.lps_meaning.specs.Reports.{AreCounts, IsBlockOf, IsState}
use Rattle.lps_meaning.proofs.Lists.{number_contained}
use Rattle.lps_meaning.proofs.Numbers.{goals_unique}
use Rattle.lps_meaning.proofs.Persistence.{start_law, turn}
use Rattle.lps_solve.proofs.Accepted.{accepted_is_sound}
use Rattle.lps_statuses.specs.Laws.{StatusStays}
use Rattle.lps_antecedents.specs.Laws.{StandsForPrefixes}
use Rattle.lps_goaltrees.specs.Followed.{AreCallFree, StandsFor}
use Rattle.lps_goaltrees.specs.Laws.{StandsInContinuations}
use Rattle.lps_limits.specs.declared.full.Full.{Full}
use Rattle.lps_limits.specs.declared.limit.Limit.{Limit}
use Rattle.lps_limits.specs.declared.limit.Sizes.{Sizes}
use Rattle.lps_limits.specs.Limits.{IsExcess, IsWithin, IsWithinLimits}
use Rattle.lps_limits.specs.Sizes.{AreSizesOf, kept_size, state_size}
use Rattle.lps_limits.proofs.Growing.{stays_within}
use Rattle.lps_limits.proofs.Keeping.{sizes_are_told}
use Rattle.lps_meeting.specs.Stages.{IsStateOf}
use Rattle.lps_sizes.specs.Sizes.{cycle_size, log_size}
use Rattle.lps_cycle.specs.Admission.{MayCome}
use Rattle.lps_cycle.specs.Agenda.{AgendaStands, AgendaState, AreTold, BeginsWith, IsReached, IsReachedBySome}
use Rattle.lps_cycle.specs.declared.error.EngineError.{EngineError}
use Rattle.lps_cycle.specs.declared.error.EngineError.TheVariants as error
use Rattle.lps_cycle.specs.Engine.{Carries, EngineState, IsFullAt, IsFullNext, IsNotAdded, IsOfRun, Stands, depth}
use Rattle.lps_cycle.specs.Making.{HasSomeRun, IsMade, IsNotMade, failed_among, sizes_of}
use Rattle.lps_cycle.specs.Round.{by_picks}
use Rattle.lps_cycle.proofs.Counts.{are_counts, failed_count, statuses}
use Rattle.lps_cycle.proofs.Later.{counts_later, one_longer, reached, stands_later}
use Rattle.lps_cycle.proofs.Runs.{run_first, run_more}

-- what is seen of an engine with this agenda
abbrev pub engine_with : Text → Prefer → ℕ → List Atom → ℕ → AgendaState → List NewGoal → List (GoalId × Closed) → ℕ → ℕ → EngineState
engine_with text prefer keep facts cycles agenda created closed failed log = record {
  text = text;
  prefer = prefer;
  keep = keep;
  facts = facts;
  cycles = cycles;
  waiting = agenda.waiting.held;
  goals = agenda.goals.pursuit;
  created = created;
  closed = closed;
  failed = failed;
  log = log;
}

-- an accepted text has levels
pub some_levels : (text : Text) → IsAccepted text → is_formed text ≡ true → (level : List ℕ → ℕ) × AreLevels (clauses text) level
some_levels text accepted formed = let sound = accepted_is_sound text accepted formed [] (λ a there. absurd (nothing_contained a there)) in (sound.level, sound.levels)

-- what is told of a time is reported of it
block_told : (text : Text) (level : List ℕ → ℕ) (trace : Trace) (time : ℕ) (facts : List Atom) (created : List NewGoal) (closed : List (GoalId × Closed)) →
    IsState text level trace time facts → AreTold text level depth trace time created closed →
    IsBlockOf text level depth trace time (record { cycle = cycle_at trace time; facts = facts; created = created; closed = closed })
block_told text level trace time facts created closed state told = record {
  cycle = refl;
  state = state;
  keys = told.keys;
  goals = told.goals;
  created = told.created_are;
  closed = told.closed_are;
}

-- ---- no cycle yet

pub first_state : (text : Text) (level : List ℕ → ℕ) (facts : List Atom) → AreInitial text facts → IsState text level (first_trace facts) 0 facts
first_state text level facts initial = record { sorted = initial.sorted; exact = λ fluent. turn (start_law text level (first_trace facts) fluent) }

first_counts : (text : Text) → AreCallFree text → (level : List ℕ → ℕ) (facts : List Atom) (agenda : AgendaState) (created : List NewGoal) (closed : List (GoalId × Closed)) →
    AgendaStands text level depth (first_trace facts) 0 agenda → AreTold text level depth (first_trace facts) 0 created closed →
    AreCounts text level depth (first_trace facts) (record { pending = length agenda.goals.pursuit.goals; failed = failed_among closed; cut = 0 })
first_counts text free level facts agenda created closed stands told =
    let trace : Trace = first_trace facts in
    let p = agenda.goals.pursuit in
    let ss = statuses text free level depth trace p stands.goals in
    are_counts text free level depth trace p stands.goals ss.0 ss.1 (failed_among closed)
    (failed_count text free level depth trace p stands.goals ss.0 ss.1 closed told.keys (goals_unique text level trace 0 told.keys stands.goals.keys told.goals stands.goals.goals) told.closed_are []
    (λ i is. absurd cc)
    (λ i key at failed. (λ opened. refl, λ none. inl (at_first key.time (stands.goals.kept.early key (number_contained stands.goals.keys (suc i) key at)))))
    ∙ none_before (failed_among closed))
  where
    none_before : (n : ℕ) → 0 + n ≡ n
    none_before n = omega arith

    at_first : (n : ℕ) → n ≤ 0 → n ≡ 0
    at_first n le = omega arith

pub carries_first : (text : Text) (prefer : Prefer) (keep : ℕ) (facts : List Atom) (agenda : AgendaState) (created : List NewGoal) (closed : List (GoalId × Closed)) → AreCallFree text → AreInitial text facts →
    BeginsWith text depth facts agenda created closed → Carries (engine_with text prefer keep facts 0 agenda created closed (failed_among closed) 0) [] (first_trace facts)
carries_first text prefer keep facts agenda created closed free initial begins =
    let on : (level : List ℕ → ℕ) → AreLevels (clauses text) level → AgendaStands text level depth (first_trace facts) 0 agenda × AreTold text level depth (first_trace facts) 0 created closed =
    λ level levels. begins level levels (first_trace facts) (first_state text level facts initial).exact in
    record {
      run = λ level levels. run_first text level depth prefer facts initial;
      events = refl;
      count = refl;
      waiting = λ level levels. (on level levels).0.waiting;
      goals = λ level levels. (on level levels).0.goals;
      block = λ level levels. block_told text level (first_trace facts) 0 facts created closed (first_state text level facts initial) (on level levels).1;
      counts = λ level levels. first_counts text free level facts agenda created closed (on level levels).0 (on level levels).1;
      log = refl;
      call_free = free;
    }

-- what begins there begins here
pub begins_here : (text there : Text) (facts state : List Atom) (agenda : AgendaState) (created : List NewGoal) (closed : List (GoalId × Closed)) → there ≡ text → state ≡ facts →
    BeginsWith there depth state agenda created closed → BeginsWith text depth facts agenda created closed
begins_here text there facts state agenda created closed is same begins =
    subst (λ (t : Text). BeginsWith t depth facts agenda created closed) is (subst (λ (fs : List Atom). BeginsWith there depth fs agenda created closed) same begins)

-- ---- sizes

-- the sizes of what an engine has
abbrev pub sizes_in : EngineState → Sizes
sizes_in engine = record { state = state_size engine.facts; kept = kept_size engine.waiting engine.goals.goals; log = engine.log }

module _ {engine : EngineState} {batches : List (List Atom)} {trace : Trace} (carries : Carries engine batches trace) where
  are_sizes : (level : List ℕ → ℕ) → AreLevels (clauses engine.text) level → AreSizesOf engine.text level depth trace (sizes_in engine)
  are_sizes level levels =
      subst (λ n. AreSizesOf engine.text level depth trace (record { state = state_size engine.facts; kept = kept_size engine.waiting engine.goals.goals; log = n })) (sym carries.log)
      (sizes_are_told engine.text level depth trace engine.facts engine.waiting engine.goals (carries.block level levels).state (carries.waiting level levels) (carries.goals level levels))

  is_within : IsWithinLimits engine.keep (sizes_in engine) → (level : List ℕ → ℕ) → AreLevels (clauses engine.text) level → IsWithin engine.text level depth engine.keep trace
  is_within within level levels = record { sizes = sizes_in engine; are_sizes = are_sizes level levels; within = within }

  -- where a limit is exceeded by what an engine has, it is exceeded by the run
  pub is_full : (full : Full) → IsExcess engine.keep (sizes_in engine) (Some (full.limit, full.symbols)) → IsFullAt engine.text engine.keep trace full
  is_full full excess level levels = record { sizes = sizes_in engine; are_sizes = are_sizes level levels; exceeded = excess.0; counted = excess.1 }

-- before any cycle
pub stands_first : {engine : EngineState} {facts : List Atom} → Carries engine [] (first_trace facts) → IsWithinLimits engine.keep (sizes_in engine) → Stands engine [] (first_trace facts)
stands_first carries within = record { carries = carries; within = is_within carries within }

-- some trace begins with the initial facts
pub first_of_some : (text : Text) → IsAccepted text → is_formed text ≡ true → (facts : List Atom) → AreInitial text facts →
    (level : List ℕ → ℕ) × AreLevels (clauses text) level × (trace : Trace) × IsStateOf text level trace 0 facts
first_of_some text accepted formed facts initial =
    let l = some_levels text accepted formed in (l.0, l.1, first_trace facts, (first_state text l.0 facts initial).exact)

-- ---- one cycle more

-- the log grows by the cycle
log_grows : (trace : Trace) (cycle : Cycle) → log_size (then_cycle trace cycle) ≡ log_size trace + cycle_size cycle
log_grows trace cycle = sum_by-append cycle_size trace.cycles (cycle ∷ []) ∙ ap (λ n. log_size trace + n) (sum_by-cons cycle_size cycle [] ∙ none_more (cycle_size cycle))
  where
    none_more : (n : ℕ) → n + 0 ≡ n
    none_more n = omega arith

outside : (text : Text) (events : List Atom) → AllByRecursion (MayCome text) events → AllByRecursion (IsOutside text) events
outside text [] may = tt
outside text (event ∷ events) may = (may.0, outside text events may.1)

-- what stands for a run is that of some run
pub of_some_run : (text : Text) → IsAccepted text → is_formed text ≡ true → (prefer : Prefer) (keep : ℕ) (facts : List Atom) (cycles : ℕ) (agenda : AgendaState) (created : List NewGoal)
    (closed : List (GoalId × Closed)) (failed log : ℕ) → IsOfRun (engine_with text prefer keep facts cycles agenda created closed failed log) → HasSomeRun text depth cycles facts agenda
of_some_run text accepted formed prefer keep facts cycles agenda created closed failed log run =
    let l = some_levels text accepted formed in
    let trace = run.1 in
    let stands = run.2.carries in
    record {
      level = l.0;
      levels = l.1;
      trace = trace;
      state = (stands.block l.0 l.1).state;
      count = stands.count;
      stands = subst (λ n. AgendaStands text l.0 depth trace n agenda) stands.count (record { waiting = stands.waiting l.0 l.1; goals = stands.goals l.0 l.1 });
    }

module _ (waits : StandsForPrefixes) (pursues : StandsInContinuations) (text : Text) (accepted : IsAccepted text) where
  -- the cycle after some run is reached
  pub reached_by_some : (time : ℕ) (facts next : List Atom) (agenda : AgendaState) (events : List Atom) (verdicts : List Verdict) (picks : List Pick) → HasSomeRun text depth time facts agenda →
      IsUpdate text facts (admitted events verdicts ++ by_picks picks) next → IsReachedBySome text depth (time + 1) next (admitted events verdicts ++ by_picks picks) agenda
  reached_by_some time facts next agenda events verdicts picks run update =
      let cycle : Cycle = record { events = events; verdicts = verdicts; picks = picks } in
      let then : suc (length run.trace.cycles) ≡ time + 1 = omega (arith, run.count) in
      let stands = subst (λ n. AgendaStands text run.level depth run.trace n agenda) (sym run.count) run.stands in (
        run.level,
        run.levels,
        then_cycle run.trace cycle,
        subst (λ n. IsReached text run.level depth (then_cycle run.trace cycle) n next (admitted events verdicts ++ by_picks picks) agenda) then
            (reached text run.level depth run.trace cycle next (admitted events verdicts ++ by_picks picks) agenda refl (update.state run.level run.levels run.trace cycle refl run.state)
            (stands_later text run.level depth run.trace cycle waits pursues accepted agenda stands)),
      )

  module _ (stay : StatusStays IsAccepted) (prefer : Prefer) (time : ℕ) (facts next : List Atom) (old new : AgendaState) (events : List Atom) (verdicts : List Verdict) (picks : List Pick)
      (created : List NewGoal) (closed : List (GoalId × Closed)) (made : IsMade text depth prefer time facts next old new events verdicts picks created closed) where
    abbrev cycle : Cycle
    cycle = record { events = events; verdicts = verdicts; picks = picks }

    plain : (level : List ℕ → ℕ) → AreLevels (clauses text) level → (trace : Trace) → IsState text level trace (length trace.cycles) facts → length trace.cycles ≡ time →
        StandsFor text level depth trace old.goals.pursuit → time < 1000000 → length events ≤ 1000 → AllByRecursion (MayCome text) events → IsPlain text level depth prefer trace cycle
    plain level levels trace state count pursued room few may =
        let d = made.decided level levels trace state count pursued in
        record {
          legal = record {
            room = omega (arith, count, room);
            few = few;
            outside = outside text events may;
            judged = d.judged;
            keys = pursued.keys;
            goals = pursued.goals;
            picks = d.picks;
            no_more = d.no_more;
          };
          passes = d.passes;
        }

    carries_next : (keep : ℕ) (before_created : List NewGoal) (before_closed : List (GoalId × Closed)) (failed log : ℕ) → time < 1000000 → length events ≤ 1000 → AllByRecursion (MayCome text) events →
        (batches : List (List Atom)) (trace : Trace) → Carries (engine_with text prefer keep facts time old before_created before_closed failed log) batches trace →
        Carries (engine_with text prefer keep next (time + 1) new created closed (failed + failed_among closed) (log + cycle_size cycle)) (batches ++ events ∷ []) (then_cycle trace cycle)
    carries_next keep before_created before_closed failed log room few may batches trace stands =
        let longer : Trace = then_cycle trace cycle in
        let count : length longer.cycles ≡ time + 1 = omega (arith, one_longer text level_none depth trace cycle, stands.count) in
        let state : (level : List ℕ → ℕ) → AreLevels (clauses text) level → IsState text level longer (suc (length trace.cycles)) next =
        λ level levels. made.update.state level levels trace cycle refl (stands.block level levels).state in
        let on : (level : List ℕ → ℕ) → AreLevels (clauses text) level → AgendaStands text level depth longer (length longer.cycles) new × AreTold text level depth longer (length longer.cycles) created closed =
        λ level levels.
        let there = stands_later text level depth trace cycle waits pursues accepted old (record { waiting = stands.waiting level levels; goals = stands.goals level levels }) in
        let r = reached text level depth trace cycle next (admitted events verdicts ++ by_picks picks) old refl (state level levels) there in
        let then : suc (length trace.cycles) ≡ time + 1 = omega (arith, stands.count) in
        subst (λ n. AgendaStands text level depth longer n new × AreTold text level depth longer n created closed) (sym count)
        (made.goes_on level levels longer (subst (λ n. IsReached text level depth longer n next (admitted events verdicts ++ by_picks picks) old) then r)) in
        record {
          run = λ level levels. run_more text level depth prefer batches trace cycle (stands.run level levels)
              (plain level levels trace (stands.block level levels).state stands.count (stands.goals level levels) room few may);
          events = map-append (λ (c : Cycle). c.events) trace.cycles (cycle ∷ []) ∙ ap (λ (bs : List (List Atom)). bs ++ events ∷ []) stands.events;
          count = count;
          waiting = λ level levels. (on level levels).0.waiting;
          goals = λ level levels. (on level levels).0.goals;
          block = λ level levels. block_told text level longer (length longer.cycles) next created closed
              (subst (λ n. IsState text level longer n next) (sym (one_longer text level depth trace cycle)) (state level levels)) (on level levels).1;
          counts = λ level levels. let o = on level levels in
              counts_later text level depth trace cycle stay accepted (record { pending = length old.goals.pursuit.goals; failed = failed; cut = 0 }) (stands.counts level levels)
              new.goals.pursuit o.0.goals stands.call_free closed o.1.keys o.1.goals o.1.closed_are;
          log = ap (λ n. n + cycle_size cycle) stands.log ∙ sym (log_grows trace cycle);
          call_free = stands.call_free;
        }
      where
        level_none : List ℕ → ℕ
        level_none name = 0

    module _ (keep : ℕ) (before_created : List NewGoal) (before_closed : List (GoalId × Closed)) (failed log : ℕ) (room : time < 1000000) (few : length events ≤ 1000)
        (may : AllByRecursion (MayCome text) events) (batches : List (List Atom)) (trace : Trace)
        (stands : Stands (engine_with text prefer keep facts time old before_created before_closed failed log) batches trace) where
      abbrev goes_on : Carries (engine_with text prefer keep next (time + 1) new created closed (failed + failed_among closed) (log + cycle_size cycle)) (batches ++ events ∷ []) (then_cycle trace cycle)
      goes_on = carries_next keep before_created before_closed failed log room few may batches trace stands.carries

      -- where no limit is exceeded the run goes on
      pub stands_next : IsWithinLimits keep (sizes_of next new (log + cycle_size cycle)) →
          Stands (engine_with text prefer keep next (time + 1) new created closed (failed + failed_among closed) (log + cycle_size cycle)) (batches ++ events ∷ []) (then_cycle trace cycle)
      stands_next within = record {
        carries = goes_on;
        within = λ level levels. stays_within text level depth keep trace cycle (stands.within level levels) (is_within goes_on within level levels);
      }

      -- where one is, it is exceeded by the run that would go on
      pub full_next : (number : ℕ) (limit : Limit) (symbols : ℕ) → IsExcess keep (sizes_of next new (log + cycle_size cycle)) (Some (limit, symbols)) →
          IsFullNext text prefer keep batches trace (record { limit = limit; cycle = number; symbols = symbols; tried = cycle })
      full_next number limit symbols excess = record { run = goes_on.run; is = is_full goes_on (record { limit = limit; cycle = number; symbols = symbols; tried = cycle }) excess }

  -- a cycle that is not made is not added
  pub not_added : (stay : StatusStays IsAccepted) (prefer : Prefer) (keep time : ℕ) (facts : List Atom) (old : AgendaState) (created : List NewGoal) (closed : List (GoalId × Closed)) (failed log : ℕ)
      (events : List Atom) → time < 1000000 → length events ≤ 1000 → AllByRecursion (MayCome text) events → (why : EngineError) → IsNotMade text depth prefer keep time log facts old events why →
      IsNotAdded (engine_with text prefer keep facts time old created closed failed log) events why
  not_added stay prefer keep time facts old created closed failed log events room few may error.NoMemory over = tt
  not_added stay prefer keep time facts old created closed failed log events room few may (error.Full full) over = (
    over.cycle,
    over.events_are,
    λ batches trace stands.
        full_next stay prefer time facts over.next old over.new full.tried.events full.tried.verdicts full.tried.picks over.created over.closed over.made keep created closed failed log room
        (subst (λ (es : List Atom). length es ≤ 1000) (sym over.events_are) few) (subst (AllByRecursion (MayCome text)) (sym over.events_are) may) batches trace stands full.cycle full.limit full.symbols over.excess,
  )

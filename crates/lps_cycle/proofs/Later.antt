-- A trace with one cycle more: what stood for the trace stands for it at the time before, and which goals have failed since.
use Rattle.std.proofs.Common.{ℕ, suc, ◌≡◌, ◌≤◌, ◌+◌, Bool, true, false, List, [], ◌∷◌, ◌++◌, length, refl, sym, ap, subst, ◌∙◌, arith, inl, inr, length-append}
use Rattle.std.specs.Prelude.{◌⊎◌, Contains, Option, Some, None, slice_get}
use Rattle.std.specs.List.{AllZip}
use Rattle.lps_terms.specs.declared.atom.Atom.{Atom}
use Rattle.lps_terms.specs.declared.text.Text.{Text}
use Rattle.lps_model.specs.declared.cycle.Cycle.{Cycle}
use Rattle.lps_model.specs.declared.trace.Trace.{Trace}
use Rattle.lps_model.specs.Acceptance.{IsAccepted}
use Rattle.lps_model.specs.Trace.{cycle_at, cycle_or_none, events_at, happens_in, then_cycle}
use Rattle.lps_model.proofs.Elements.{first_or_later, nothing_contained}
use Rattle.lps_model.proofs.Growth.{AreSame, same_back, same_first}
use Rattle.lps_meaning.specs.declared.goal.Closed.{Closed}
use Rattle.lps_meaning.specs.declared.goal.Closed.TheVariants as c
use Rattle.lps_meaning.specs.declared.goal.Counts.{Counts}
use Rattle.lps_meaning.specs.declared.goal.GoalId.{GoalId}
use Rattle.lps_meaning.specs.declared.goal.GoalKey.{GoalKey}
use Rattle.lps_meaning.specs.Cycles.{AreGoals}
use Rattle.lps_meaning.specs.Goals.{HasStatus, IsClosed, IsPending}
use Rattle.lps_meaning.specs.Laws.{IsContinuation}
use Rattle.lps_meaning.specs.Reports.{AreClosedIn, AreCounts, IsState, is_failed}
use Rattle.lps_meaning.proofs.Lists.{number_contained}
use Rattle.lps_meaning.proofs.Numbers.{goals_unique, key_cmp_total, number_stays, numbered_one}
use Rattle.lps_meaning.proofs.Prefixes.{goal_same, status_same}
use Rattle.lps_meaning.proofs.ReportLaws.{one_status}
use Rattle.lps_meaning.proofs.Splits.{le_or_lt}
use Rattle.lps_statuses.specs.Laws.{StatusStays}
use Rattle.lps_antecedents.specs.Laws.{StandsForPrefixes}
use Rattle.lps_goaltrees.specs.Followed.{AreCallFree, StandsFor}
use Rattle.lps_goaltrees.specs.Laws.{StandsInContinuations}
use Rattle.lps_goaltrees.specs.Pursued.{Pursuit}
use Rattle.lps_cycle.specs.Agenda.{AgendaStands, AgendaState, IsReached}
use Rattle.lps_cycle.specs.Making.{failed_among}
use Rattle.lps_cycle.proofs.Counting.{one_place, passes_at, passes_there, passing, zipped_back, zipped_there}
use Rattle.lps_cycle.proofs.Counts.{are_counts, failed_count, failed_is, status_at, statuses}

-- ---- places

last_one : {X : Type 0} (xs : List X) (x : X) → slice_get (xs ++ x ∷ []) (length xs) ≡ Some x
last_one [] x = refl
last_one (y ∷ xs) x = last_one xs x

place_of : {X : Type 0} (xs : List X) (x : X) → Contains xs x → (i : ℕ) × (slice_get xs i ≡ Some x)
place_of [] x there = absurd (nothing_contained x there)
place_of (y ∷ xs) x there = elim (first_or_later y xs x there) [
  | inl same ↦ (0, ap (λ z. Some z) same)
  | inr later ↦ let m = place_of xs x later in (suc m.0, m.1)
]

le_self : (n : ℕ) → n ≤ n
le_self n = omega arith

le_next : (n : ℕ) → n ≤ suc n
le_next n = omega arith

-- ---- one cycle more

module _ (text : Text) (level : List ℕ → ℕ) (depth : ℕ) (trace : Trace) (cycle : Cycle) where
  abbrev longer : Trace
  longer = then_cycle trace cycle

  abbrev now : ℕ
  now = length trace.cycles

  pub one_longer : length longer.cycles ≡ suc (length trace.cycles)
  one_longer = omega (arith, length-append trace.cycles (cycle ∷ []))

  pub goes_on : IsContinuation trace longer
  goes_on = record { initial = refl; more = cycle ∷ []; cycles = refl }

  abbrev same : AreSame now trace longer
  same = same_first trace cycle

  pub last_cycle : cycle_at longer (suc (length trace.cycles)) ≡ cycle
  last_cycle = ap cycle_or_none (last_one trace.cycles cycle)

  -- what stood for the trace stands for the longer one at the time before
  pub stands_later : StandsForPrefixes → StandsInContinuations → IsAccepted text → (agenda : AgendaState) → AgendaStands text level depth trace (length trace.cycles) agenda →
      AgendaStands text level depth longer (length trace.cycles) agenda
  stands_later waits pursues accepted agenda stands = record {
    waiting = waits text accepted level now trace longer (record { initial = same.initial; cycles = same.cycles }) agenda.waiting.held stands.waiting;
    goals = pursues text level depth trace longer goes_on now (le_self now) agenda.goals.pursuit stands.goals;
  }

  pub reached : (facts events : List Atom) (agenda : AgendaState) → happens_in cycle ≡ events → IsState text level longer (suc (length trace.cycles)) facts →
      AgendaStands text level depth longer (length trace.cycles) agenda → IsReached text level depth longer (suc (length trace.cycles)) facts events agenda
  reached facts events agenda happen state stands =
      let all : events_at longer (suc now) ≡ events = ap happens_in last_cycle ∙ happen in
      record {
        now = now;
        after = refl;
        within = omega (arith, one_longer);
        state = state.exact;
        happening = λ a. (λ there. subst (λ es. Contains es a) (sym all) there, λ there. subst (λ es. Contains es a) all there);
        stands = stands;
      }

  -- ---- goals

  goals_later : (keys : List GoalKey) → AreGoals text level trace now keys → AreGoals text level longer now keys
  goals_later keys goals = record {
    sorted = goals.sorted;
    exact = λ key. (
      λ there. let g = (goals.exact key).0 there in (g.0, goal_same text level now trace longer same key g.0 g.1),
      λ g. (goals.exact key).1 (g.0, goal_same text level now longer trace (same_back now trace longer same) key g.0 g.1),
    );
  }

  module _ (stay : StatusStays IsAccepted) (accepted : IsAccepted text) (old : Counts) (counts : AreCounts text level depth trace old)
      (p : Pursuit) (stands : StandsFor text level depth longer p) where
    abbrev then_now : ℕ
    then_now = length longer.cycles

    is_next : now ≤ then_now
    is_next = omega (arith, one_longer)

    -- a goal keeps its number
    number_later : (i : ℕ) (key : GoalKey) → slice_get counts.keys i ≡ Some key → slice_get stands.keys i ≡ Some key
    number_later i key at = number_stays text level longer now then_now counts.keys stands.keys is_next (goals_later counts.keys counts.goals) stands.goals (suc i) key at

    early : (i : ℕ) (key : GoalKey) → slice_get counts.keys i ≡ Some key → key.time ≤ now
    early i key at = ((counts.goals.exact key).0 (number_contained counts.keys (suc i) key at)).0

    -- a goal that was closed is closed so
    closed_later : (how : Closed) (key : GoalKey) (later : ℕ) → key.time ≤ now → now ≤ later → IsClosed text level trace depth key now how → IsClosed text level longer depth key later how
    closed_later how key later before le closed = stay text level depth accepted how trace longer goes_on key now later before (le_self now) le closed

    -- what had failed is a goal with the same number
    had_failed : (i : ℕ) → passes_at is_failed counts.statuses i ≡ true → (key : GoalKey) × (slice_get counts.keys i ≡ Some key) × IsClosed text level trace depth key now c.Failed
    had_failed i is =
        let m = passing is_failed counts.statuses i is in
        let b = zipped_back (λ key status. HasStatus text level trace depth key now status) counts.keys counts.statuses counts.each i m.0 m.1 in
        (b.0, b.1, subst (λ status. HasStatus text level trace depth b.0 now status) (failed_is m.0 m.2) b.2)

    module _ (ss : List (Option Closed)) (all : AllZip (λ key status. HasStatus text level longer depth key (length longer.cycles) status) stands.keys ss) where
      kept : AreCallFree text → (i : ℕ) → passes_at is_failed counts.statuses i ≡ true → passes_at is_failed ss i ≡ true
      kept free i is =
          let g = had_failed i is in
          passes_there is_failed ss i (Some c.Failed) (status_at text free level depth longer p stands ss all i g.0 (Some c.Failed) (number_later i g.0 g.1)
          (closed_later c.Failed g.0 then_now (early i g.0 g.1) is_next g.2))

    abbrev WasOpen : GoalKey → Type 0
    WasOpen key = (key.time ≡ then_now) ⊎ ((j : ℕ) × (then_now ≡ suc j) × (key.time ≤ j) × IsPending text level longer depth key j)

    some_none : {x : Closed} → None ≡ Some x → ⊥
    some_none e = cc

    -- one that had failed was not open
    not_open : (i : ℕ) (key : GoalKey) → slice_get stands.keys i ≡ Some key → WasOpen key → passes_at is_failed counts.statuses i ≡ true → ⊥
    not_open i key at opened is =
        let g = had_failed i is in
        let same_key : g.0 ≡ key = numbered_one stands.keys (suc i) g.0 key (number_later i g.0 g.1) at in
        let before : key.time ≤ now = subst (λ (k : GoalKey). k.time ≤ now) same_key (early i g.0 g.1) in
        elim opened [
          | inl new ↦ omega (arith, before, new, one_longer)
          | inr was ↦ let then : was.0 ≡ now = omega (arith, was.1, one_longer) in
              some_none (one_status text level longer depth key now None (Some c.Failed) (subst (λ j. IsPending text level longer depth key j) then was.3)
              (closed_later c.Failed key now before (le_self now) (subst (λ (k : GoalKey). IsClosed text level trace depth k now c.Failed) same_key g.2)))
        ]

    -- one that has failed and had not was open
    was_open : (i : ℕ) (key : GoalKey) → slice_get stands.keys i ≡ Some key → IsClosed text level longer depth key then_now c.Failed → passes_at is_failed counts.statuses i ≡ false → WasOpen key
    was_open i key at failed not =
        let goal = (stands.goals.exact key).0 (number_contained stands.keys (suc i) key at) in
        elim (le_or_lt key.time now) [
          | inl before ↦
              let m = place_of counts.keys key (((goals_later counts.keys counts.goals).exact key).1 (before, goal.1)) in
              let place : m.0 ≡ i = one_place key_cmp_total stands.keys stands.goals.sorted m.0 i key (number_later m.0 key m.1) at in
              let old_at : slice_get counts.keys i ≡ Some key = subst (λ j. slice_get counts.keys j ≡ Some key) place m.1 in
              let s = zipped_there (λ key status. HasStatus text level trace depth key now status) counts.keys counts.statuses counts.each i key old_at in
              inr (now, one_longer, before, by before s.0 (sym (passes_there is_failed counts.statuses i s.0 s.1) ∙ not) s.2)
          | inr lt ↦ inl (let le = goal.0 in omega (arith, lt, le, one_longer))
        ]
      where
        by : key.time ≤ now → (status : Option Closed) → is_failed status ≡ false → HasStatus text level trace depth key now status → IsPending text level longer depth key now
        by before None not has = status_same text level now trace longer same depth key now (le_self now) None has
        by before (Some how) not has =
            let two : Some how ≡ Some c.Failed = one_status text level longer depth key then_now (Some how) (Some c.Failed) (closed_later how key then_now before is_next has) failed in
            absurd (true_false (sym (ap is_failed two) ∙ not))
          where
            true_false : true ≡ false → ⊥
            true_false e = cc

    pub counts_later : AreCallFree text → (closed : List (GoalId × Closed)) (keys : List GoalKey) → AreGoals text level longer (length longer.cycles) keys →
        AreClosedIn text level depth longer keys (length longer.cycles) closed → AreCounts text level depth longer (record { pending = length p.goals; failed = old.failed + failed_among closed; cut = 0 })
    counts_later free closed keys goals are =
        let ss = statuses text free level depth longer p stands in
        are_counts text free level depth longer p stands ss.0 ss.1 (old.failed + failed_among closed)
        (failed_count text free level depth longer p stands ss.0 ss.1 closed keys (goals_unique text level longer then_now keys stands.keys goals stands.goals) are counts.statuses
        (kept ss.0 ss.1 free)
        (λ i key at failed. (λ opened. no (passes_at is_failed counts.statuses i) refl (not_open i key at opened), was_open i key at failed))
        ∙ ap (λ n. n + failed_among closed) counts.failed)
      where
        no : (b : Bool) {d : Bool} → b ≡ d → (d ≡ true → ⊥) → d ≡ false
        no true same never = absurd (never (sym same))
        no false same never = sym same

-- What a cycle makes of a run, whichever trace this is.
use Rattle.std.specs.Prelude.{◌≡◌, ◌+◌, ◌++◌, ℕ, List, length, Some, sum_by}
use Rattle.std.specs.List.{count_by}
use Rattle.lps_terms.specs.declared.atom.Atom.{Atom}
use Rattle.lps_terms.specs.declared.prefer.Prefer.{Prefer}
use Rattle.lps_terms.specs.declared.text.Text.{Text}
use Rattle.lps_model.specs.declared.cycle.Cycle.{Cycle}
use Rattle.lps_model.specs.declared.cycle.Pick.{Pick}
use Rattle.lps_model.specs.declared.trace.Trace.{Trace}
use Rattle.lps_model.specs.declared.verdict.Verdict.{Verdict}
use Rattle.lps_model.specs.Clauses.{clauses}
use Rattle.lps_model.specs.Trace.{admitted}
use Rattle.lps_derivation.specs.Levels.{AreLevels}
use Rattle.lps_causal.specs.Next.{IsUpdate}
use Rattle.lps_meaning.specs.declared.goal.Closed.{Closed}
use Rattle.lps_meaning.specs.declared.goal.GoalId.{GoalId}
use Rattle.lps_meaning.specs.declared.goal.NewGoal.{NewGoal}
use Rattle.lps_meaning.specs.Reports.{IsState, is_failed}
use Rattle.lps_sizes.specs.Sizes.{atoms_size, pick_size}
use Rattle.lps_limits.specs.declared.full.Full.{Full}
use Rattle.lps_limits.specs.declared.limit.Sizes.{Sizes}
use Rattle.lps_limits.specs.Limits.{IsExcess}
use Rattle.lps_limits.specs.Sizes.{kept_size, state_size}
use Rattle.lps_cycle.specs.declared.engine.NotSettled.{NotSettled}
use Rattle.lps_cycle.specs.declared.engine.NotSettled.TheVariants as not_settled
use Rattle.lps_cycle.specs.declared.error.EngineError.{EngineError}
use Rattle.lps_cycle.specs.declared.error.EngineError.TheVariants as error
use Rattle.lps_cycle.specs.Agenda.{AgendaStands, AgendaState, GoesOn}
use Rattle.lps_cycle.specs.Round.{IsDecision, by_picks}

-- some trace of so many cycles has these facts as its last state, and the agenda stands for it
pub record HasSomeRun (text : Text) (depth time : ℕ) (facts : List Atom) (agenda : AgendaState) : Type 0 where
  pub level : List ℕ → ℕ
  pub levels : AreLevels (clauses text) level
  pub trace : Trace
  pub state : IsState text level trace (length trace.cycles) facts
  pub count : length trace.cycles ≡ time
  pub stands : AgendaStands text level depth trace time agenda

-- What the cycle after so many others comes to: the events of its batch are decided, all that happens makes the next state, and the agenda
-- goes on by both.
pub record IsMade (text : Text) (depth : ℕ) (prefer : Prefer) (time : ℕ) (facts next : List Atom) (old new : AgendaState)
    (events : List Atom) (verdicts : List Verdict) (picks : List Pick) (created : List NewGoal) (closed : List (GoalId × Closed)) : Type 0 where
  pub decided : IsDecision text depth prefer time facts old.goals.pursuit events verdicts picks
  pub update : IsUpdate text facts (admitted events verdicts ++ by_picks picks) next
  pub goes_on : GoesOn text depth (time + 1) next (admitted events verdicts ++ by_picks picks) old new created closed

-- ---- sizes

-- the sizes of a run with these facts and this agenda, whose log has so many symbols
abbrev pub sizes_of : List Atom → AgendaState → ℕ → Sizes
sizes_of facts agenda log = record { state = state_size facts; kept = kept_size agenda.waiting.held agenda.goals.pursuit.goals; log = log }

-- the same with a cycle of these events and picks more in the log
abbrev pub sizes_with : List Atom → AgendaState → ℕ → List Atom → List Pick → Sizes
sizes_with facts agenda log events picks = sizes_of facts agenda (log + (1 + atoms_size events + sum_by pick_size picks))

-- The cycle after so many others that was tried comes to something that exceeds a limit, of which this is told.
pub record IsOver (text : Text) (depth : ℕ) (prefer : Prefer) (keep time log : ℕ) (facts : List Atom) (old : AgendaState) (events : List Atom) (full : Full) : Type 0 where
  pub next : List Atom
  pub new : AgendaState
  pub created : List NewGoal
  pub closed : List (GoalId × Closed)
  pub made : IsMade text depth prefer time facts next old new full.tried.events full.tried.verdicts full.tried.picks created closed
  pub cycle : full.cycle ≡ time + 1
  pub events_are : full.tried.events ≡ events
  pub excess : IsExcess keep (sizes_with next new log full.tried.events full.tried.picks) (Some (full.limit, full.symbols))

-- a cycle is not made: memory ran out, or it exceeds a limit
abbrev pub IsNotMade : Text → ℕ → Prefer → ℕ → ℕ → ℕ → List Atom → AgendaState → List Atom → EngineError → Type 0
IsNotMade text depth prefer keep time log facts old events error.NoMemory = Unit {0}
IsNotMade text depth prefer keep time log facts old events (error.Full full) = IsOver text depth prefer keep time log facts old events full

-- a cycle is not settled: memory ran out, or these sizes exceed a limit
abbrev pub IsNotSettled : ℕ → Sizes → NotSettled → Type 0
IsNotSettled keep sizes not_settled.NoMemory = Unit {0}
IsNotSettled keep sizes (not_settled.Over limit symbols) = IsExcess keep sizes (Some (limit, symbols))

-- why the cycle that was tried is not made
abbrev pub not_made : NotSettled → ℕ → Cycle → EngineError
not_made not_settled.NoMemory cycle tried = error.NoMemory
not_made (not_settled.Over limit symbols) cycle tried = error.Full (record { limit = limit; cycle = cycle; symbols = symbols; tried = tried })

-- how many goals of some that are closed have failed
abbrev pub failed_among : List (GoalId × Closed) → ℕ
failed_among closed = count_by (λ goal. is_failed (Some goal.1)) closed

-- How a run stands between two cycles, and when it does not go on.
use Rattle.std.specs.Prelude.{◌≡◌, ◌+◌, ◌++◌, ℕ, List, [], ◌∷◌, length, map}
use Rattle.lps_terms.specs.declared.atom.Atom.{Atom}
use Rattle.lps_terms.specs.declared.prefer.Prefer.{Prefer}
use Rattle.lps_terms.specs.declared.text.Text.{Text}
use Rattle.lps_model.specs.declared.cycle.Cycle.{Cycle}
use Rattle.lps_model.specs.declared.trace.Trace.{Trace}
use Rattle.lps_model.specs.Clauses.{clauses}
use Rattle.lps_model.specs.Run.{AreInitial, first_trace}
use Rattle.lps_model.specs.Trace.{cycle_at, no_cycle, then_cycle}
use Rattle.lps_derivation.specs.Levels.{AreLevels}
use Rattle.lps_meaning.specs.declared.goal.Closed.{Closed}
use Rattle.lps_meaning.specs.declared.goal.Counts.{Counts}
use Rattle.lps_meaning.specs.declared.goal.GoalId.{GoalId}
use Rattle.lps_meaning.specs.declared.goal.NewGoal.{NewGoal}
use Rattle.lps_meaning.specs.Plain.{IsPlainRun}
use Rattle.lps_meaning.specs.Reports.{AreCounts, Block, IsBlockOf}
use Rattle.lps_sizes.specs.Sizes.{log_size}
use Rattle.lps_antecedents.specs.declared.held.Held.{Held}
use Rattle.lps_antecedents.specs.Waiting.{StandsFor}
use Rattle.lps_goaltrees.specs.Followed.{AreCallFree, StandsFor as PursuedFor}
use Rattle.lps_goaltrees.specs.Pursued.{Pursuit}
use Rattle.lps_limits.specs.declared.full.Full.{Full}
use Rattle.lps_limits.specs.Limits.{IsFull, StaysWithin}
use Rattle.lps_cycle.specs.declared.error.EngineError.{EngineError}
use Rattle.lps_cycle.specs.declared.error.EngineError.TheVariants as error

-- What an engine is seen as: its text, which goals are preferred, how many symbols are kept at most, the facts of its last state, how many
-- cycles it has made, what waits for antecedents and which goals are pursued now, which goals the last cycle created and closed, how many
-- goals have failed so far, and how many symbols its log has.
pub record EngineState : Type 0 where
  pub text : Text
  pub prefer : Prefer
  pub keep : ℕ
  pub facts : List Atom
  pub cycles : ℕ
  pub waiting : List Held
  pub goals : Pursuit
  pub created : List NewGoal
  pub closed : List (GoalId × Closed)
  pub failed : ℕ
  pub log : ℕ

-- it holds by any levels of the clauses of the text; by which does not matter
abbrev pub ByLevels : Text → ((List ℕ → ℕ) → Type 0) → Type 0
ByLevels text P = (level : List ℕ → ℕ) → AreLevels (clauses text) level → P level

-- how deep calls of macros may nest
abbrev pub depth : ℕ
depth = 100

-- the trace is the run of the text over these batches, with these goals preferred
abbrev pub IsRunOver : Text → Prefer → List (List Atom) → Trace → Type 0
IsRunOver text prefer batches trace = ByLevels text (λ level. IsPlainRun text level depth prefer batches trace)

-- no limit is exceeded anywhere on the way of the trace, where so many symbols may be kept
abbrev pub IsWithinAll : Text → ℕ → Trace → Type 0
IsWithinAll text keep trace = ByLevels text (λ level. StaysWithin text level depth keep trace)

-- at the end of the trace this limit is exceeded first, and by so many symbols
abbrev pub IsFullAt : Text → ℕ → Trace → Full → Type 0
IsFullAt text keep trace full = ByLevels text (λ level. IsFull text level depth keep trace full.limit full.symbols)

-- this is what is reported of the last cycle, which is this one
abbrev pub block_with : EngineState → Cycle → Block
block_with engine cycle = record { cycle = cycle; facts = engine.facts; created = engine.created; closed = engine.closed }

-- how many goals are pending, and how many have failed; none is cut
abbrev pub counts_of : EngineState → Counts
counts_of engine = record { pending = length engine.goals.goals; failed = engine.failed; cut = 0 }

-- The trace is the run over these batches, of as many cycles as the engine has made. What waits and what is pursued stands for it; and the
-- engine has what is reported of its last cycle and of its goals, and the size of its log.
pub record Carries (engine : EngineState) (batches : List (List Atom)) (trace : Trace) : Type 0 where
  pub run : IsRunOver engine.text engine.prefer batches trace
  pub events : map (λ cycle. cycle.events) trace.cycles ≡ batches
  pub count : length trace.cycles ≡ engine.cycles
  pub waiting : ByLevels engine.text (λ level. StandsFor engine.text level trace (length trace.cycles) engine.waiting)
  pub goals : ByLevels engine.text (λ level. PursuedFor engine.text level depth trace engine.goals)
  pub block : ByLevels engine.text (λ level. IsBlockOf engine.text level depth trace (length trace.cycles) (block_with engine (cycle_at trace (length trace.cycles))))
  pub counts : ByLevels engine.text (λ level. AreCounts engine.text level depth trace (counts_of engine))
  pub log : engine.log ≡ log_size trace
  -- consequents call no macros
  pub call_free : AreCallFree engine.text

-- the same, and no limit is exceeded on the way
pub record Stands (engine : EngineState) (batches : List (List Atom)) (trace : Trace) : Type 0 where
  pub carries : Carries engine batches trace
  pub within : IsWithinAll engine.text engine.keep trace

-- it is the run of some batches
abbrev pub IsOfRun : EngineState → Type 0
IsOfRun engine = (batches : List (List Atom)) × (trace : Trace) × Stands engine batches trace

-- ---- when a limit is exceeded

-- a limit is exceeded before any cycle
pub record IsFullFirst (text : Text) (keep : ℕ) (full : Full) : Type 0 where
  pub facts : List Atom
  pub initial : AreInitial text facts
  pub cycle : full.cycle ≡ 0
  pub tried : full.tried ≡ no_cycle
  pub is : IsFullAt text keep (first_trace facts) full

-- a run of the text is not begun: memory ran out, or a limit is exceeded
abbrev pub IsNotBegun : Text → ℕ → EngineError → Type 0
IsNotBegun text keep error.NoMemory = Unit {0}
IsNotBegun text keep (error.Full full) = IsFullFirst text keep full

-- behind the run over these batches the cycle that was tried is the plain one of the batch with its events, and a limit is exceeded with it
pub record IsFullNext (text : Text) (prefer : Prefer) (keep : ℕ) (batches : List (List Atom)) (trace : Trace) (full : Full) : Type 0 where
  pub run : IsRunOver text prefer (batches ++ full.tried.events ∷ []) (then_cycle trace full.tried)
  pub is : IsFullAt text keep (then_cycle trace full.tried) full

-- a cycle of a batch with these events is not added: memory ran out, or a limit would be exceeded
abbrev pub IsNotAdded : EngineState → List Atom → EngineError → Type 0
IsNotAdded engine events error.NoMemory = Unit {0}
IsNotAdded engine events (error.Full full) = (full.cycle ≡ engine.cycles + 1) × (full.tried.events ≡ events)
    × ((batches : List (List Atom)) (trace : Trace) → Stands engine batches trace → IsFullNext engine.text engine.prefer engine.keep batches trace full)

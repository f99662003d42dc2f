-- The laws of the definitions, each a statement over texts, traces and keys.
use Rattle.std.specs.Prelude.{◌≡◌, ◌⊎◌, ◌↔◌, ◌≤◌, ◌++◌, ℕ, suc, Bool, IsTrue, List, length, Some, Contains, ◌∷◌}
use Rattle.lps_terms.specs.declared.atom.Atom.{Atom}
use Rattle.lps_terms.specs.declared.prefer.Prefer.{Prefer}
use Rattle.lps_terms.specs.declared.text.Text.{Text}
use Rattle.lps_model.specs.declared.cycle.Cycle.{Cycle}
use Rattle.lps_model.specs.declared.trace.Trace.{Trace}
use Rattle.lps_model.specs.Trace.{happens_in}
use Rattle.lps_model.specs.Acceptance.{IsAccepted}
use Rattle.lps_model.specs.Clauses.{clauses}
use Rattle.lps_derivation.specs.Derivation.{Follows}
use Rattle.lps_derivation.specs.Laws.{Passes}
use Rattle.lps_derivation.specs.Levels.{AreClosed, AreLevels}
use Rattle.lps_values.specs.Truth.{is_true}
use Rattle.lps_meaning.specs.declared.goal.GoalKey.{GoalKey}
use Rattle.lps_meaning.specs.Holds.{Persists, Holds, Initiated, Terminated, Ends, IsTrueAt}
use Rattle.lps_meaning.specs.Cycles.{AreGoals, IsRun}
use Rattle.lps_meaning.specs.Denials.{ViolatesNone}
use Rattle.lps_meaning.specs.Plain.{IsPlainRun}
use Rattle.lps_meaning.specs.Reports.{Block, IsBlockOf, IsBlock, IsReport}
use Rattle.lps_model.specs.Rules.{numbered}
use Rattle.lps_meaning.specs.Frames.{AreFramed}

-- ---- states

-- a fluent holds in a state exactly where it persists there, over what holds in the states before
abbrev pub HoldsIsPersistence : Type 0
HoldsIsPersistence = (text : Text) (level : List ℕ → ℕ) (trace : Trace) (i : ℕ) (fluent : Atom) →
    Holds text level trace i fluent ↔ Persists text level trace (Holds text level trace) i fluent

-- in state 0 the initial facts hold
abbrev pub StartLaw : Type 0
StartLaw = (text : Text) (level : List ℕ → ℕ) (trace : Trace) (fluent : Atom) → Holds text level trace 0 fluent ↔ Contains trace.initial fluent

-- in state i+1 a fluent holds that is initiated then, or that holds in state i and does not end
abbrev pub UpdateLaw : Type 0
UpdateLaw = (text : Text) (level : List ℕ → ℕ) (trace : Trace) (i : ℕ) (fluent : Atom) →
    Holds text level trace (suc i) fluent
    ↔ (Initiated text level trace (suc i) fluent ⊎ (Holds text level trace i fluent × (Ends text level trace (suc i) fluent → ⊥)))

-- Where it is decided whether the fluent is initiated, state i+1 is state i without the terminated fluents, together with the
-- initiated ones.
abbrev pub DecidedUpdateLaw : Type 0
DecidedUpdateLaw = (text : Text) (level : List ℕ → ℕ) (trace : Trace) (i : ℕ) (fluent : Atom) →
    Initiated text level trace (suc i) fluent ⊎ (Initiated text level trace (suc i) fluent → ⊥) →
    Holds text level trace (suc i) fluent
    ↔ ((Holds text level trace i fluent × (Terminated text level trace (suc i) fluent → ⊥)) ⊎ Initiated text level trace (suc i) fluent)

-- an atom is true in a state where it holds there, or is the head of an instance of a clause whose conditions are met there
abbrev pub StatesAreByClauses : Type 0
StatesAreByClauses = (text : Text) (level : List ℕ → ℕ) → AreLevels (clauses text) level → (trace : Trace) (i : ℕ) (a : Atom) →
    IsTrueAt text level trace i a ↔ (Holds text level trace i a ⊎ Follows (Passes is_true) (IsTrueAt text level trace i) (clauses text) a)

-- Of names whose clauses call these names alone the same is true in two states, of one trace or of two, where the same holds there.
abbrev pub OtherFluentsDoNotMatter : Type 0
OtherFluentsDoNotMatter = (text : Text) (level : List ℕ → ℕ) (names : List ℕ → Bool) → AreClosed (clauses text) names → (trace other : Trace) (i j : ℕ) →
    ((a : Atom) → IsTrue (names a.name) → Holds text level trace i a ↔ Holds text level other j a) →
    (a : Atom) → IsTrue (names a.name) → IsTrueAt text level trace i a ↔ IsTrueAt text level other j a

-- what is true in a state does not depend on which levels are taken
abbrev pub LevelsDoNotMatterInStates : Type 0
LevelsDoNotMatterInStates = (text : Text) (level other : List ℕ → ℕ) → AreLevels (clauses text) level → AreLevels (clauses text) other →
    (trace : Trace) (i : ℕ) (a : Atom) → IsTrueAt text level trace i a ↔ IsTrueAt text other trace i a

-- ---- denials

-- in no cycle of a run of an accepted text does what happens violate a denial
abbrev pub NoneIsViolated : Type 0
NoneIsViolated = (text : Text) (level : List ℕ → ℕ) (depth : ℕ) (trace : Trace) → IsAccepted text → IsRun text level depth trace →
    (before after : List Cycle) (cycle : Cycle) → trace.cycles ≡ before ++ cycle ∷ after →
    ViolatesNone text level (record { initial = trace.initial; cycles = before }) (happens_in cycle)

-- ---- texts

-- each macro clause of an accepted text has the times of its first and last step
abbrev pub AcceptedAreFramed : Type 0
AcceptedAreFramed = (text : Text) → IsAccepted text → AreFramed text

-- the longer trace goes on from the other, whether by legal cycles or not
pub record IsContinuation (trace longer : Trace) : Type 0 where
  pub initial : longer.initial ≡ trace.initial
  pub more : List Cycle
  pub cycles : longer.cycles ≡ trace.cycles ++ more

-- ---- goals, runs and reports

-- the goals that a trace has by now are one list
abbrev pub GoalsAreUnique : Type 0
GoalsAreUnique = (text : Text) (level : List ℕ → ℕ) (trace : Trace) (now : ℕ) (keys others : List GoalKey) →
    AreGoals text level trace now keys → AreGoals text level trace now others → keys ≡ others

-- a goal keeps its number
abbrev pub NumbersStay : Type 0
NumbersStay = (text : Text) (level : List ℕ → ℕ) (trace : Trace) (now later : ℕ) (keys more : List GoalKey) → now ≤ later →
    AreGoals text level trace now keys → AreGoals text level trace later more → (n : ℕ) (key : GoalKey) → numbered keys n ≡ Some key → numbered more n ≡ Some key

-- some batches have one plain run
abbrev pub PlainRunsAreUnique : Type 0
PlainRunsAreUnique = (text : Text) (level : List ℕ → ℕ) (depth : ℕ) (prefer : Prefer) (batches : List (List Atom)) (trace other : Trace) →
    IsPlainRun text level depth prefer batches trace → IsPlainRun text level depth prefer batches other → trace ≡ other

-- a plain run is a run
abbrev pub PlainRunsAreRuns : Type 0
PlainRunsAreRuns = (text : Text) (level : List ℕ → ℕ) (depth : ℕ) (prefer : Prefer) (batches : List (List Atom)) (trace : Trace) →
    IsPlainRun text level depth prefer batches trace → IsRun text level depth trace

-- the block of a cycle depends on the cycles up to it alone: it is the same in every continuation
abbrev pub BlocksStay : Type 0
BlocksStay = (text : Text) (level : List ℕ → ℕ) (depth : ℕ) (trace longer : Trace) → IsContinuation trace longer → (k : ℕ) → k ≤ length trace.cycles →
    (bytes : List ℕ) → IsBlock text level depth trace k bytes ↔ IsBlock text level depth longer k bytes

-- a cycle has one block
abbrev pub BlocksAreUnique : Type 0
BlocksAreUnique = (text : Text) (level : List ℕ → ℕ) (depth : ℕ) (trace : Trace) (k : ℕ) (bytes others : List ℕ) →
    IsBlock text level depth trace k bytes → IsBlock text level depth trace k others → bytes ≡ others

-- a trace has one report
abbrev pub ReportsAreUnique : Type 0
ReportsAreUnique = (text : Text) (level : List ℕ → ℕ) (depth : ℕ) (trace : Trace) (first : ℕ) (bytes others : List ℕ) →
    IsReport text level depth trace first bytes → IsReport text level depth trace first others → bytes ≡ others

-- two runs of as many cycles, with the same reported of each cycle, are one
abbrev pub BlocksTellRuns : Type 0
BlocksTellRuns = (text : Text) (level : List ℕ → ℕ) (depth : ℕ) (trace other : Trace) → IsRun text level depth trace → IsRun text level depth other →
    length trace.cycles ≡ length other.cycles →
    ((k : ℕ) → k ≤ length trace.cycles → (block : Block) × IsBlockOf text level depth trace k block × IsBlockOf text level depth other k block) → trace ≡ other

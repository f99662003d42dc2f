-- What waits for antecedents and which goals are pursued, and what a cycle makes of both.
use Rattle.std.specs.Prelude.{◌≡◌, ◌≤◌, ◌<◌, ◌+◌, ◌++◌, ℕ, suc, true, List, [], ◌∷◌, length, Contains}
use Rattle.lps_terms.specs.declared.atom.Atom.{Atom}
use Rattle.lps_terms.specs.declared.text.Text.{Text}
use Rattle.lps_model.specs.declared.trace.Trace.{Trace}
use Rattle.lps_model.specs.Clauses.{clauses}
use Rattle.lps_derivation.specs.Levels.{AreLevels}
use Rattle.lps_meaning.specs.declared.goal.Closed.{Closed}
use Rattle.lps_meaning.specs.declared.goal.GoalId.{GoalId}
use Rattle.lps_meaning.specs.declared.goal.GoalKey.{GoalKey}
use Rattle.lps_meaning.specs.declared.goal.NewGoal.{NewGoal}
use Rattle.lps_meaning.specs.Cycles.{AreGoals}
use Rattle.lps_meaning.specs.Reports.{AreClosedIn, AreCreated}
use Rattle.lps_antecedents.specs.Waiting.{IsReadyWaiting, StandsFor, WaitingNodes}
use Rattle.lps_nodes.specs.Plans.{AreKeysOf}
use Rattle.lps_goaltrees.specs.Followed.{InStateOf, IsKeyOfGoal, Pursues, StandsAt}
use Rattle.lps_goaltrees.specs.Pursued.{IsReadyPursued, Pursued, Pursuit}
use Rattle.lps_meeting.specs.Stages.{AreEventsOf, IsStateOf}

-- what an agenda is seen as
pub record AgendaState : Type 0 where
  pub waiting : WaitingNodes
  pub goals : Pursued

-- steps can be made on all that it has, and its goals were closed last
pub record IsReadyAgenda (text : Text) (agenda : AgendaState) : Type 0 where
  pub waiting : IsReadyWaiting text agenda.waiting
  pub goals : IsReadyPursued text agenda.goals
  pub settled : agenda.goals.is_settled ≡ true

-- the one has what the other has
pub record IsSameAgenda (agenda other : AgendaState) : Type 0 where
  pub held : agenda.waiting.held ≡ other.waiting.held
  pub pursuit : agenda.goals.pursuit ≡ other.goals.pursuit

-- taking back leads from the later agenda to what the earlier one has
pub record LeadsBack (earlier later : AgendaState) : Type 0 where
  pub held : later.waiting.before ≡ earlier.waiting.held
  pub pursuit : later.goals.before ≡ earlier.goals.pursuit

-- what is told of a cycle: the goals that it creates and closes
pub record AreTold (text : Text) (level : List ℕ → ℕ) (depth : ℕ) (trace : Trace) (time : ℕ) (created : List NewGoal) (closed : List (GoalId × Closed)) : Type 0 where
  pub keys : List GoalKey
  pub goals : AreGoals text level trace time keys
  pub created_are : AreCreated text level depth trace keys time created
  pub closed_are : AreClosedIn text level depth trace keys time closed

-- it stands for the trace at a time
pub record AgendaStands (text : Text) (level : List ℕ → ℕ) (depth : ℕ) (trace : Trace) (time : ℕ) (agenda : AgendaState) : Type 0 where
  pub waiting : StandsFor text level trace time agenda.waiting.held
  pub goals : StandsAt text level trace depth time agenda.goals.pursuit

-- The trace has a cycle that ends at this time with these facts, and in which these events happen; the agenda stands for it at the time
-- before.
pub record IsReached (text : Text) (level : List ℕ → ℕ) (depth : ℕ) (trace : Trace) (time : ℕ) (facts events : List Atom) (agenda : AgendaState) : Type 0 where
  pub now : ℕ
  pub after : time ≡ suc now
  pub within : time ≤ length trace.cycles
  pub state : IsStateOf text level trace time facts
  pub happening : AreEventsOf trace time events
  pub stands : AgendaStands text level depth trace now agenda

-- some trace of the text has reached this
abbrev pub IsReachedBySome : Text → ℕ → ℕ → List Atom → List Atom → AgendaState → Type 0
IsReachedBySome text depth time facts events agenda = (level : List ℕ → ℕ) × AreLevels (clauses text) level × (trace : Trace) × IsReached text level depth trace time facts events agenda

-- whatever trace has reached this: the new agenda stands for it at this time, and these goals are created and closed
abbrev pub GoesOn : Text → ℕ → ℕ → List Atom → List Atom → AgendaState → AgendaState → List NewGoal → List (GoalId × Closed) → Type 0
GoesOn text depth time facts events old new created closed =
    (level : List ℕ → ℕ) → AreLevels (clauses text) level → (trace : Trace) → IsReached text level depth trace time facts events old →
    AgendaStands text level depth trace time new × AreTold text level depth trace time created closed

-- whatever trace has these facts as its initial state: the agenda stands for it at 0, and these goals are created and closed then
abbrev pub BeginsWith : Text → ℕ → List Atom → AgendaState → List NewGoal → List (GoalId × Closed) → Type 0
BeginsWith text depth facts agenda created closed =
    (level : List ℕ → ℕ) → AreLevels (clauses text) level → (trace : Trace) → IsStateOf text level trace 0 facts →
    AgendaStands text level depth trace 0 agenda × AreTold text level depth trace 0 created closed

-- ---- on the way: goals that are added and closed

-- these are keys of goals of one time
abbrev pub AreOfTime : ℕ → List GoalKey → Type 0
AreOfTime time keys = (key : GoalKey) → Contains keys key → key.time ≡ time

-- these are keys of goals of earlier times
abbrev pub AreBefore : ℕ → List GoalKey → Type 0
AreBefore time keys = (key : GoalKey) → Contains keys key → key.time < time

-- each is the key of a goal in some trace of the text, and not too late
abbrev pub AreKeysOfGoals : Text → List GoalKey → Type 0
AreKeysOfGoals text keys = (key : GoalKey) → Contains keys key → (key.time ≤ 1000000) × IsKeyOfGoal text key

-- goals with these keys, numbered from n on
abbrev pub goals_from : ℕ → List GoalKey → List NewGoal
goals_from n [] = []
goals_from n (key ∷ keys) = record { goal = record { 0 = n }; key = key } ∷ goals_from (suc n) keys

-- goals with these keys, which are new at the time of these facts, are pursued besides, and are those that are created
pub record AreAdded (text : Text) (depth : ℕ) (facts : List Atom) (keys : List GoalKey) (old new : Pursuit) (created : List NewGoal) : Type 0 where
  pub created_are : created ≡ goals_from old.next keys
  pub next : new.next ≡ old.next + length keys
  pub pursues : (time : ℕ) → AreOfTime time keys → InStateOf text time facts (λ level trace. (before : List GoalKey) →
      Pursues text level trace depth time before old → Pursues text level trace depth time (before ++ keys) new)

-- Whatever trace has these facts as its state at the time of these keys, which are those of its goals of this time: where its earlier
-- goals were pursued, what is pursued now stands for it at this time, and these goals are created and closed.
abbrev pub IsRenewed : Text → ℕ → List Atom → List GoalKey → Pursuit → Pursuit → List NewGoal → List (GoalId × Closed) → Type 0
IsRenewed text depth facts keys old new created closed = (time : ℕ) → AreOfTime time keys → InStateOf text time facts (λ level trace. time ≤ length trace.cycles →
    (before : List GoalKey) → AreBefore time before → AreGoals text level trace time (before ++ keys) → Pursues text level trace depth time before old →
    StandsAt text level trace depth time new × AreTold text level depth trace time created closed)

-- Whatever trace has a cycle that ends at this time with these facts, and in which these events happen and goals with these keys are
-- created: where what was pursued stands for it at the time before, what is pursued now stands for it at this time, and these goals are
-- created and closed.
abbrev pub IsPursuedOn : Text → ℕ → ℕ → List Atom → List Atom → List GoalKey → Pursuit → Pursuit → List NewGoal → List (GoalId × Closed) → Type 0
IsPursuedOn text depth time facts events keys old new created closed = InStateOf text time facts (λ level trace. AreEventsOf trace time events →
    time ≤ length trace.cycles → (now : ℕ) → time ≡ suc now → AreKeysOf text level trace time keys → StandsAt text level trace depth now old →
    StandsAt text level trace depth time new × AreTold text level depth trace time created closed)

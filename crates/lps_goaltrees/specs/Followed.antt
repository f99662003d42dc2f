-- When the goals that are pursued stand for a trace.
use Rattle.std.specs.Prelude.{◌≡◌, ◌⊎◌, ◌≤◌, ◌++◌, ℕ, suc, true, false, IsTrue, List, [], ◌∷◌, length, Some, Contains}
use Rattle.std.specs.List.{AllByRecursion}
use Rattle.std.specs.List.Sorted.{IsStrictlySortedBy}
use Rattle.std.specs.Ordering.{nat_cmp, on}
use Rattle.lps_terms.specs.declared.atom.Atom.{Atom}
use Rattle.lps_terms.specs.declared.text.Text.{Text}
use Rattle.lps_model.specs.declared.trace.Trace.{Trace}
use Rattle.lps_model.specs.Acceptance.{IsAccepted}
use Rattle.lps_model.specs.Clauses.{clauses}
use Rattle.lps_model.specs.Rules.{Rule, numbered, rules}
use Rattle.lps_derivation.specs.Ground.{is_ground}
use Rattle.lps_derivation.specs.Levels.{AreLevels}
use Rattle.lps_meaning.specs.declared.goal.Closed.{Closed}
use Rattle.lps_meaning.specs.declared.goal.GoalId.{GoalId}
use Rattle.lps_meaning.specs.declared.goal.GoalKey.{GoalKey}
use Rattle.lps_meaning.specs.Cycles.{AreGoals}
use Rattle.lps_meaning.specs.Goals.{IsClosed, IsFulfilledWithin, IsGoal, IsPending, shared_times, shared_values}
use Rattle.lps_meaning.specs.Reports.{AreClosedIn}
use Rattle.lps_meeting.specs.Stages.{AreEventsOf, IsStateOf}
use Rattle.lps_nodes.specs.LedLaws.{IsWithoutCalls}
use Rattle.lps_nodes.specs.Nodes.{IsGoalNode, IsListOf}
use Rattle.lps_nodes.specs.Shapes.{alternative_of}
use Rattle.lps_goaltrees.specs.declared.goal.Goal.{Goal}
use Rattle.lps_goaltrees.specs.Pursued.{Pursuit}

-- ---- rules without macro calls

-- no alternative of the rule has a macro call
abbrev pub IsCallFree : Text → Rule → Type 0
IsCallFree text rule = AllByRecursion (λ items. IsWithoutCalls text (alternative_of rule items)) rule.alternatives

-- nor has one of any rule
abbrev pub AreCallFree : Text → Type 0
AreCallFree text = AllByRecursion (IsCallFree text) (rules text)

-- A goal with this key can be entered: the key is one of a rule of the text, with a value for each variable and a time for each time that
-- the rule shares; its values are ground, and its times are not too late.
pub record IsEnterable (text : Text) (key : GoalKey) : Type 0 where
  pub rule : Rule
  pub of_text : numbered (rules text) key.rule ≡ Some rule
  pub value_count : length key.values ≡ length (shared_values rule)
  pub time_count : length key.times ≡ length (shared_times rule)
  pub ground : AllByRecursion (λ v. IsTrue (is_ground v)) key.values
  pub times : AllByRecursion (λ time. time ≤ 1000000) key.times
  pub time : key.time ≤ 1000000

-- in some trace of the text it is the key of a goal
abbrev pub IsKeyOfGoal : Text → GoalKey → Type 0
IsKeyOfGoal text key = (level : List ℕ → ℕ) × (trace : Trace) × IsGoal text level trace key

-- ---- what is kept of a goal

-- the goal with this number is one of them
abbrev pub IsAmong : List Goal → ℕ → Type 0
IsAmong goals n = (goal : Goal) × Contains goals goal × (goal.goal.0 ≡ n)

module _ (text : Text) (level : List ℕ → ℕ) (trace : Trace) (depth now : ℕ) where
  -- what is kept of a goal is right now: exactly the nodes that are left of its live plans, each once, and whether it is solved
  pub record IsFollowed (goal : Goal) : Type 0 where
    pub nodes : IsListOf (IsGoalNode text level trace depth goal.key now) goal.nodes
    pub solved : goal.solved ≡ true → IsFulfilledWithin text level trace depth goal.key now
    pub unsolved : goal.solved ≡ false → IsFulfilledWithin text level trace depth goal.key now → ⊥

  -- the goal with this key was pending in the cycle before, or is new
  abbrev pub IsOpenUntil : GoalKey → Type 0
  IsOpenUntil key = (key.time ≡ now) ⊎ ((j : ℕ) × (now ≡ suc j) × (key.time ≤ j) × IsPending text level trace depth key j)

  -- the goal with this key was closed in the cycle before, or earlier
  abbrev pub WasClosed : GoalKey → Type 0
  WasClosed key = (j : ℕ) × (now ≡ suc j) × (key.time ≤ j) × (how : Closed) × IsClosed text level trace depth key j how

  -- What is kept of some of the goals with these keys, which are numbered from 1, is right: the number and the key of each, and what is
  -- left of its plans.
  pub record Keeps (keys : List GoalKey) (p : Pursuit) : Type 0 where
    pub next : p.next ≡ suc (length keys)
    pub early : (key : GoalKey) → Contains keys key → key.time ≤ now
    pub rising : IsStrictlySortedBy (on (λ goal. goal.goal.0) nat_cmp) p.goals
    pub numbers : (goal : Goal) → Contains p.goals goal → numbered keys goal.goal.0 ≡ Some goal.key
    pub followed : (goal : Goal) → Contains p.goals goal → IsFollowed goal

  -- before goals are closed: kept are exactly those that were not closed before
  pub record Pursues (keys : List GoalKey) (p : Pursuit) : Type 0 where
    pub kept : Keeps keys p
    pub open_until : (goal : Goal) → Contains p.goals goal → IsOpenUntil goal.key
    pub others : (n : ℕ) (key : GoalKey) → numbered keys n ≡ Some key → IsAmong p.goals n ⊎ WasClosed key

  -- once they are: of all goals of the trace by now, kept are exactly those that are pending
  pub record StandsAt (p : Pursuit) : Type 0 where
    pub keys : List GoalKey
    pub goals : AreGoals text level trace now keys
    pub kept : Keeps keys p
    pub pending : (goal : Goal) → Contains p.goals goal → IsPending text level trace depth goal.key now
    pub others : (n : ℕ) (key : GoalKey) → numbered keys n ≡ Some key → IsAmong p.goals n ⊎ ((how : Closed) × IsClosed text level trace depth key now how)

-- what is pursued stands for the trace: it has exactly the goals that are pending at its last cycle, each with its number, its key and its nodes
abbrev pub StandsFor : Text → (List ℕ → ℕ) → ℕ → Trace → Pursuit → Type 0
StandsFor text level depth trace p = StandsAt text level trace depth (length trace.cycles) p

-- ---- what the calls make of it

-- whatever the levels and the trace are in which these are the facts of a time
abbrev pub InStateOf : Text → ℕ → List Atom → ((List ℕ → ℕ) → Trace → Type 0) → Type 0
InStateOf text time facts P = (level : List ℕ → ℕ) → AreLevels (clauses text) level → (trace : Trace) → IsStateOf text level trace time facts → P level trace

-- one goal more is pursued, which is new
abbrev pub IsAdded : Text → ℕ → GoalKey → List Atom → Pursuit → Pursuit → Type 0
IsAdded text depth key facts old new = InStateOf text key.time facts (λ level trace. (keys : List GoalKey) →
    Pursues text level trace depth key.time keys old → Pursues text level trace depth key.time (keys ++ key ∷ []) new)

-- what stood for the trace before a cycle is led on to the end of the cycle
abbrev pub IsLedOn : Text → ℕ → ℕ → List Atom → List Atom → Pursuit → Pursuit → Type 0
IsLedOn text depth time facts events old new = InStateOf text time facts (λ level trace. AreEventsOf trace time events → (now : ℕ) → time ≡ suc now →
    (stands : StandsAt text level trace depth now old) → Pursues text level trace depth time stands.keys new)

-- Whatever the trace is of which some goals are pursued, and these keys are those of all its goals by now: what is left stands for the
-- trace, and these are the goals that are closed now.
abbrev pub Closes : Pursuit → Pursuit → List (GoalId × Closed) → Type 0
Closes old new closed = (text : Text) → IsAccepted text → AreCallFree text → (level : List ℕ → ℕ) (trace : Trace) (depth now : ℕ) → now ≤ length trace.cycles →
    (keys : List GoalKey) → AreGoals text level trace now keys → Pursues text level trace depth now keys old →
    StandsAt text level trace depth now new × AreClosedIn text level depth trace keys now closed

-- What is found of a goal at a time, and what is added to it.
use Rattle.std.specs.Prelude.{◌≡◌, ◌⊎◌, ◌↔◌, ◌≤◌, ℕ, suc, true, false, List, Contains}
use Rattle.lps_terms.specs.declared.atom.Atom.{Atom}
use Rattle.lps_terms.specs.declared.text.Text.{Text}
use Rattle.lps_model.specs.declared.trace.Trace.{Trace}
use Rattle.lps_meaning.specs.declared.goal.GoalKey.{GoalKey}
use Rattle.lps_meaning.specs.declared.node.Carry.{Carry}
use Rattle.lps_meaning.specs.declared.node.Node.{Node}
use Rattle.lps_meeting.specs.Stages.{AreEventsOf}
use Rattle.lps_nodes.specs.Nodes.{IsGoalNode}
use Rattle.lps_nodes.specs.Plans.{EndsWith, Entrance, GoesOnTo, IsAlternativeEntered, IsEnded, IsNode}
use Rattle.lps_seq.specs.Found.{AreOnce}
use Rattle.lps_goaltrees.specs.declared.found.Found.{Found}
use Rattle.lps_goaltrees.specs.declared.goal.Goal.{Goal}
use Rattle.lps_goaltrees.specs.Followed.{InStateOf, IsFollowed}

-- the new nodes are the old ones and these, each once
pub record AddsNodes (old new more : List Node) : Type 0 where
  pub among : (o : Node) → Contains new o ↔ (Contains old o ⊎ Contains more o)
  pub once : AreOnce old → AreOnce new

-- The new one has what the old one has, and these nodes, each once; and it is solved where the old one is or an alternative ends.
pub record Grows (old new : Found) (IsNew : Node → Type 0) (AnyEnds : Type 0) : Type 0 where
  pub nodes : (o : Node) → Contains new.nodes.items o ↔ (Contains old.nodes.items o ⊎ IsNew o)
  pub once : AreOnce old.nodes.items → AreOnce new.nodes.items
  pub solved : new.solved ≡ true → (old.solved ≡ true) ⊎ AnyEnds
  pub unsolved : new.solved ≡ false → (old.solved ≡ false) × (AnyEnds → ⊥)

-- the rule of the goal has an alternative with this number
abbrev pub HasAlternative : Text → GoalKey → ℕ → Type 0
HasAlternative text key number = (e : Entrance) × IsAlternativeEntered text key number e

module _ (text : Text) (level : List ℕ → ℕ) (trace : Trace) (depth : ℕ) (key : GoalKey) where
  -- ---- at the time of the goal

  -- the node is left of an alternative where it is entered
  abbrev pub IsEnteredNode : ℕ → Node → Type 0
  IsEnteredNode number node = (e : Entrance) × IsAlternativeEntered text key number e × IsNode text level trace depth e key.time node

  -- the alternative ends where it is entered
  abbrev pub EndsAtOnce : ℕ → Type 0
  EndsAtOnce number = (e : Entrance) × IsAlternativeEntered text key number e × (carry : Carry) × IsEnded text level trace depth e key.time carry

  -- ---- in a cycle after it

  -- the node goes on to the other
  abbrev pub IsNextNode : ℕ → Node → Node → Type 0
  IsNextNode now node other = (number : ℕ) × (e : Entrance) × IsAlternativeEntered text key number e × IsNode text level trace depth e now node
      × GoesOnTo text level trace depth e now node other

  -- an alternative ends that comes through the node
  abbrev pub EndsNext : ℕ → Node → Type 0
  EndsNext now node = (number : ℕ) × (e : Entrance) × IsAlternativeEntered text key number e × IsNode text level trace depth e now node
      × (carry : Carry) × EndsWith text level trace depth e now node carry

-- what an alternative is entered with is added
abbrev pub GrowsByEntering : Text → ℕ → GoalKey → ℕ → List Atom → Found → Found → Type 0
GrowsByEntering text depth key number facts old new = InStateOf text key.time facts (λ level trace.
    Grows old new (IsEnteredNode text level trace depth key number) (EndsAtOnce text level trace depth key number))

-- what a node of a goal leads to is added
abbrev pub GrowsByStepping : Text → ℕ → Node → ℕ → List Atom → List Atom → Found → Found → Type 0
GrowsByStepping text depth node time facts events old new = InStateOf text time facts (λ level trace. AreEventsOf trace time events →
    (key : GoalKey) (now : ℕ) → time ≡ suc now → key.time ≤ now → IsGoalNode text level trace depth key now node →
    Grows old new (IsNextNode text level trace depth key now node) (EndsNext text level trace depth key now node))

-- what is kept of a goal is right at its own time
abbrev pub IsBegun : Text → ℕ → List Atom → Goal → Type 0
IsBegun text depth facts goal = InStateOf text goal.key.time facts (λ level trace. IsFollowed text level trace depth goal.key.time goal)

-- the same goal, of which is kept what is right a cycle later
pub record IsAdvanced (text : Text) (depth time : ℕ) (facts events : List Atom) (goal next : Goal) : Type 0 where
  pub number : next.goal ≡ goal.goal
  pub key : next.key ≡ goal.key
  pub followed : InStateOf text time facts (λ level trace. AreEventsOf trace time events → (now : ℕ) → time ≡ suc now → goal.key.time ≤ now →
      IsFollowed text level trace depth now goal → IsFollowed text level trace depth time next)

-- What contracts see of the goals that are pursued.
use Rattle.std.specs.Prelude.{sum_by, ℕ, Bool, List, [], ◌∷◌, Option, Some, None, if◌then◌else◌}
use Rattle.std.specs.List.{AllByRecursion, AllZip}
use Rattle.lps_terms.specs.declared.text.Text.{Text}
use Rattle.lps_meaning.specs.declared.goal.Closed.{Closed}
use Rattle.lps_meaning.specs.declared.goal.Closed.TheVariants as c
use Rattle.lps_meaning.specs.declared.goal.GoalId.{GoalId}
use Rattle.lps_meaning.specs.declared.node.Node.{Node}
use Rattle.lps_nodes.specs.Nodes.{goal_size}
use Rattle.lps_residual.specs.Moments.{IsReady}
use Rattle.lps_residual.specs.Waking.{IsWake}
use Rattle.lps_goaltrees.specs.declared.goal.Goal.{Goal}

-- the goals that are pursued, by number, and the number of the next one that is added
pub record Pursuit : Type 0 where
  pub goals : List Goal
  pub next : ℕ

-- what is pursued now, what was pursued before the last changes, and whether nothing was changed since goals were closed last
pub record Pursued : Type 0 where
  pub pursuit : Pursuit
  pub before : Pursuit
  pub is_settled : Bool

-- no goal yet
abbrev pub first_pursuit : Pursuit
first_pursuit = record { goals = []; next = 1 }

-- what the last close left
abbrev pub left_by_close : Pursued → Pursuit
left_by_close p = if p.is_settled then p.pursuit else p.before

-- ---- how goals are closed

-- without a node a goal has failed
abbrev pub closed_without : List Node → Option Closed
closed_without [] = Some c.Failed
closed_without (node ∷ nodes) = None

-- how a goal is closed, told from what is kept of it; it is pending where it is not
abbrev pub closed_as : Goal → Option Closed
closed_as goal = if goal.solved then Some c.Solved else closed_without goal.nodes

abbrev pub with_number : GoalId → Option Closed → Option (GoalId × Closed)
with_number number None = None
with_number number (Some how) = Some (number, how)

-- the number of a goal that is closed, and how
abbrev pub closing_of : Goal → Option (GoalId × Closed)
closing_of goal = with_number goal.goal (closed_as goal)

-- ---- how large goals are

-- the size of some goals with their nodes
abbrev pub goals_size : List Goal → ℕ
goals_size goals = sum_by (λ goal. goal_size goal.key goal.nodes) goals

-- ---- whether steps can be made

-- steps can be made on each node
abbrev pub AreReadyNodes : Text → List Node → Type 0
AreReadyNodes text nodes = AllByRecursion (IsReady text) nodes

-- on each node of a goal, which also has what wakes each of them
pub record IsReadyGoal (text : Text) (goal : Goal) : Type 0 where
  pub nodes : AreReadyNodes text goal.nodes
  pub wakes : AllZip (IsWake text) goal.nodes goal.wakes

-- on each node of some goals
abbrev pub AreReadyGoals : Text → List Goal → Type 0
AreReadyGoals text goals = AllByRecursion (IsReadyGoal text) goals

-- on each node that is pursued, or would be once the last changes are taken back
abbrev pub IsReadyPursued : Text → Pursued → Type 0
IsReadyPursued text p = AreReadyGoals text p.pursuit.goals × AreReadyGoals text p.before.goals

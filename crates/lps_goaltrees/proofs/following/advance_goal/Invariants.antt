use Rattle.std.proofs.Common.{ℕ, suc, ◌≡◌, ◌≤◌, take}
use Rattle.std.specs.Prelude.{Contains}
use Rattle.lps_facts.specs.Facts.{members}
use Rattle.lps_meaning.specs.declared.goal.GoalKey.{GoalKey}
use Rattle.lps_meaning.specs.declared.node.Node.{Node}
use Rattle.lps_meeting.specs.Stages.{AreEventsOf}
use Rattle.lps_nodes.specs.Nodes.{IsGoalNode}
use Rattle.lps_goaltrees.specs.Followed.{InStateOf}
use Rattle.lps_goaltrees.specs.Found.{EndsNext, Grows, IsNextNode}
use Rattle.lps_goaltrees.specs.Pursued.{AreReadyNodes}
use Rattle.lps_goaltrees.proofs.following.advance_goal.Given as goal

-- what the first nodes lead to is found
abbrev pub invariant-loop-node : goal.invariant-loop-node
invariant-loop-node l = record {
  same : l.bindings ≡ l.fn.bindings;
  ready : AreReadyNodes l.program l.found.nodes.items;
  grows : InStateOf l.program l.time (members l.facts) (λ level trace. AreEventsOf trace l.time l.events → (key : GoalKey) (now : ℕ) → l.time ≡ suc now → key.time ≤ now →
      ((node : Node) → Contains l.goal.nodes node → IsGoalNode l.program level trace l.depth key now node) →
      Grows l.initial.found l.found (λ other. (node : Node) × Contains (take l.node-index l.node-items) node × IsNextNode l.program level trace l.depth key now node other)
      ((node : Node) × Contains (take l.node-index l.node-items) node × EndsNext l.program level trace l.depth key now node));
}

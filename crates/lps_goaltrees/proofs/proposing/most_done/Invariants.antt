use Rattle.std.proofs.Common.{ℕ, ◌≤◌, drop}
use Rattle.std.specs.Prelude.{◌↔◌}
use Rattle.std.specs.List.{AllByRecursion}
use Rattle.lps_goaltrees.proofs.proposing.most_done.Given as goal

-- what is at least the greatest so far, and no less than what is left, is no less than all
abbrev pub invariant-loop-node : goal.invariant-loop-node
invariant-loop-node l = (bound : ℕ) → AllByRecursion (λ node. node.done ≤ bound) l.nodes ↔ ((l.most ≤ bound) × AllByRecursion (λ node. node.done ≤ bound) (drop l.node-index l.nodes))

use Rattle.std.proofs.Common.{◌⊎◌}
use Rattle.std.specs.Prelude.{◌↔◌, Contains}
use Rattle.lps_meaning.specs.declared.node.Node.{Node}
use Rattle.lps_seq.specs.Found.{AreOnce}
use Rattle.lps_goaltrees.proofs.found.add_nodes.Given as goal

-- those found, with those that are left, are all; and each is found once
abbrev pub invariant-loop-node : goal.invariant-loop-node
invariant-loop-node l = record {
  all : (o : Node) → (Contains l.found.items o ⊎ Contains l.node-iterator.rest.items o) ↔ (Contains l.fn.found.items o ⊎ Contains l.fn.nodes.items o);
  once : AreOnce l.fn.found.items → AreOnce l.found.items;
}

use Rattle.std.proofs.Common.{◌≡◌, take}
use Rattle.std.specs.Prelude.{sum_by}
use Rattle.lps_nodes.specs.Nodes.{node_size}
use Rattle.lps_sizes.specs.Sizes.{limited}
use Rattle.lps_sizes.proofs.goal.nodes_symbols.Given as goal

-- the symbols of the nodes so far
abbrev pub invariant-loop-node : goal.invariant-loop-node
invariant-loop-node l = l.count ≡ limited (sum_by node_size (take l.node-index l.nodes))

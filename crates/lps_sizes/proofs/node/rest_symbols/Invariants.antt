use Rattle.std.proofs.Common.{◌≡◌, take}
use Rattle.std.specs.Prelude.{sum_by}
use Rattle.lps_nodes.specs.Nodes.{left_size}
use Rattle.lps_sizes.specs.Sizes.{limited}
use Rattle.lps_sizes.proofs.node.rest_symbols.Given as goal

-- the symbols of the items so far
abbrev pub invariant-loop-left : goal.invariant-loop-left
invariant-loop-left l = l.count ≡ limited (sum_by (λ left. left_size left.item) (take l.left-index l.rest))

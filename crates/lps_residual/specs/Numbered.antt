-- Nodes in canonical numbers.
use Rattle.std.specs.Prelude.{ℕ, List, []}
use Rattle.lps_meaning.specs.declared.node.Node.{Node}
use Rattle.lps_nodes.specs.Nodes.{left_in}
use Rattle.lps_nodes.specs.Shapes.{shape_unknowns, shape_vars}
use Rattle.lps_unify.specs.Canonical.{first_seen, renumbered}
use Rattle.lps_residual.specs.Putting.{put_node, when_renumbered}

-- the variables of a node, each where it first occurs
abbrev pub seen_variables : Node → List ℕ
seen_variables node = first_seen [] (shape_vars (left_in node))

-- its unknown times, each where it first occurs
abbrev pub seen_unknowns : Node → List ℕ
seen_unknowns node = first_seen [] (shape_unknowns (left_in node))

-- the node with both numbered by where they first occur
abbrev pub canonical_node : Node → Node
canonical_node node = put_node (renumbered (seen_variables node)) (when_renumbered (seen_unknowns node)) node

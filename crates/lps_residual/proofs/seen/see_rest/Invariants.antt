use Rattle.std.proofs.Common.{◌≡◌, drop}
use Rattle.std.specs.List.{flat_map}
use Rattle.lps_nodes.specs.Shapes.{left_vars}
use Rattle.lps_unify.specs.Canonical.{first_seen}
use Rattle.lps_residual.proofs.seen.see_rest.Given as goal

-- those of the parts that are left finish it
abbrev pub invariant-loop-left : goal.invariant-loop-left
invariant-loop-left l = first_seen l.seen.items (flat_map (λ left. left_vars left.item) (drop l.left-index l.rest)) ≡ first_seen l.fn.seen.items (flat_map (λ left. left_vars left.item) l.rest)

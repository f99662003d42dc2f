use Rattle.std.proofs.Common.{◌≡◌, ◌++◌, drop}
use Rattle.std.specs.List.{flat_map}
use Rattle.lps_nodes.specs.Shapes.{unknowns}
use Rattle.lps_unify.specs.Canonical.{first_seen}
use Rattle.lps_residual.proofs.seen.see_limits.Given as goal

-- those of the parts that are left finish it
abbrev pub invariant-loop-limit : goal.invariant-loop-limit
invariant-loop-limit l = first_seen l.seen.items (flat_map (λ con. unknowns con.left ++ unknowns con.right) (drop l.limit-index l.limits)) ≡ first_seen l.fn.seen.items (flat_map (λ con. unknowns con.left ++ unknowns con.right) l.limits)

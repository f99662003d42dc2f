use Rattle.std.proofs.Common.{◌≡◌, drop}
use Rattle.std.specs.List.{flat_map}
use Rattle.lps_nodes.specs.Shapes.{unknowns}
use Rattle.lps_unify.specs.Canonical.{first_seen}
use Rattle.lps_residual.proofs.seen.see_whens.Given as goal

-- those of the parts that are left finish it
abbrev pub invariant-loop-when : goal.invariant-loop-when
invariant-loop-when l = first_seen l.seen.items (flat_map unknowns (drop l.when-index l.whens)) ≡ first_seen l.fn.seen.items (flat_map unknowns l.whens)

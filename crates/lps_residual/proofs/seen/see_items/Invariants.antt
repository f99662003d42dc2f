use Rattle.std.proofs.Common.{◌≡◌, drop}
use Rattle.std.specs.List.{flat_map}
use Rattle.lps_model.specs.VariableLists.{item_vars}
use Rattle.lps_unify.specs.Canonical.{first_seen}
use Rattle.lps_residual.proofs.seen.see_items.Given as goal

-- those of the parts that are left finish it
abbrev pub invariant-loop-item : goal.invariant-loop-item
invariant-loop-item l = first_seen l.seen.items (flat_map item_vars (drop l.item-index l.items)) ≡ first_seen l.fn.seen.items (flat_map item_vars l.items)

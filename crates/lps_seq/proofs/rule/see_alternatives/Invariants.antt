use Rattle.std.proofs.Common.{◌≡◌, drop}
use Rattle.std.specs.List.{flat_map}
use Rattle.lps_model.specs.VariableLists.{item_vars}
use Rattle.lps_unify.specs.Canonical.{first_seen}
use Rattle.lps_seq.proofs.rule.see_alternatives.Given as goal

-- with those of the alternatives left, all are seen
abbrev pub invariant-loop-items : goal.invariant-loop-items
invariant-loop-items l = first_seen l.seen.items (flat_map (flat_map item_vars) (drop l.items-index l.alternatives)) ≡ first_seen l.fn.seen.items (flat_map (flat_map item_vars) l.alternatives)

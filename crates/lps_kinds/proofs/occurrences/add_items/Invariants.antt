use Rattle.std.proofs.Common.{◌≡◌, ◌++◌, take}
use Rattle.std.specs.List.{flat_map}
use Rattle.lps_model.specs.Occurrences.{in_item}
use Rattle.lps_kinds.proofs.occurrences.add_items.Given as goal

-- the names in the items so far
abbrev pub invariant-loop-item : goal.invariant-loop-item
invariant-loop-item l = l.found.items ≡ l.initial.found.items ++ flat_map (in_item l.line l.span) (take l.item-index l.items)

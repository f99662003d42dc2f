use Rattle.std.proofs.Common.{◌≡◌, ◌++◌, take}
use Rattle.std.specs.List.{flat_map}
use Rattle.lps_model.specs.Occurrences.{in_items}
use Rattle.lps_model.specs.declared.place.Place.TheVariants.{Done}
use Rattle.lps_kinds.proofs.occurrences.add_alternatives.Given as goal

-- the names in the alternatives so far
abbrev pub invariant-loop-items : goal.invariant-loop-items
invariant-loop-items l = l.found.items ≡ l.initial.found.items ++ flat_map (in_items l.line Done) (take l.items-index l.alternatives)

use Rattle.std.proofs.Common.{◌≡◌, ◌++◌, take}
use Rattle.std.specs.List.{flat_map}
use Rattle.lps_model.specs.Occurrences.{in_atom}
use Rattle.lps_model.specs.declared.place.Place.TheVariants.{Initial}
use Rattle.lps_kinds.proofs.occurrences.add_initial.Given as goal

-- the names in the atoms so far
abbrev pub invariant-loop-atom : goal.invariant-loop-atom
invariant-loop-atom l = l.found.items ≡ l.initial.found.items ++ flat_map (in_atom l.line Initial) (take l.atom-index l.atoms)

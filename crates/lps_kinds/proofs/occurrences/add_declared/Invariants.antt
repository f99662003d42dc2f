use Rattle.std.proofs.Common.{◌≡◌, ◌++◌, take}
use Rattle.std.specs.List.{flat_map}
use Rattle.lps_model.specs.Occurrences.{declaring}
use Rattle.lps_kinds.proofs.occurrences.add_declared.Given as goal

-- the names declared so far
abbrev pub invariant-loop-decl : goal.invariant-loop-decl
invariant-loop-decl l = l.found.items ≡ l.initial.found.items ++ flat_map (declaring l.line) (take l.decl-index l.decl-items)

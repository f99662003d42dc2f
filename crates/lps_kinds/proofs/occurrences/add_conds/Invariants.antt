use Rattle.std.proofs.Common.{◌≡◌, ◌++◌, take}
use Rattle.std.specs.List.{flat_map}
use Rattle.lps_model.specs.Occurrences.{in_cond}
use Rattle.lps_kinds.proofs.occurrences.add_conds.Given as goal

-- the names in the conditions so far
abbrev pub invariant-loop-cond : goal.invariant-loop-cond
invariant-loop-cond l = l.found.items ≡ l.initial.found.items ++ flat_map (in_cond l.line l.place) (take l.cond-index l.conds)

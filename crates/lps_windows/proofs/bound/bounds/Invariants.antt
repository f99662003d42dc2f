use Rattle.std.proofs.Common.{◌≡◌, ◌++◌, drop}
use Rattle.std.specs.List.{flat_map}
use Rattle.lps_windows.specs.Bounds.{bounds_of}
use Rattle.lps_windows.proofs.bound.bounds.Given as goal

-- the bounds so far and those of the conditions left are all
abbrev pub invariant-loop-condition : goal.invariant-loop-condition
invariant-loop-condition l = l.bounds.items ++ flat_map bounds_of (drop l.condition-index l.conditions) ≡ flat_map bounds_of l.conditions

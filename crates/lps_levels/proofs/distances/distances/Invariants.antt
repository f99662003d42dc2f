use Rattle.std.proofs.Common.{◌+◌, ◌≤◌, length}
use Rattle.lps_levels.specs.Distances.{AreDistancesTo, missing}
use Rattle.lps_levels.proofs.distances.distances.Given as goal

-- all ways of so many calls are found, and at each depth a name was
abbrev pub invariant-loop-depth : goal.invariant-loop-depth
invariant-loop-depth l = record {
  found : AreDistancesTo l.depth l.names l.edges l.goal l.found.items;
  left : l.depth + missing l.found.items + 1 ≤ length l.names;
}

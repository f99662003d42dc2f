use Rattle.lps_levels.proofs.Spreading.{IsSpreading}
use Rattle.lps_levels.proofs.distances.spread.Given as goal

-- the edges so far have given their callers the next distance
abbrev pub invariant-loop-edge : goal.invariant-loop-edge
invariant-loop-edge l = IsSpreading l.names l.edges l.goal l.depth l.edge-index l.initial.found.items l.found.items l.has_grown

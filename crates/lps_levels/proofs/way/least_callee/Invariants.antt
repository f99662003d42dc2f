use Rattle.std.proofs.Common.{take}
use Rattle.std.specs.Option.{MatchOption}
use Rattle.lps_levels.specs.Distances.{HasNoCallee, IsLeastCallee}
use Rattle.lps_levels.proofs.way.least_callee.Given as goal

-- the least callee of the edges so far
abbrev pub invariant-loop-edge : goal.invariant-loop-edge
invariant-loop-edge l = MatchOption l.least (HasNoCallee (take l.edge-index l.edges) l.distances l.caller l.distance) (IsLeastCallee l.names (take l.edge-index l.edges) l.distances l.caller l.distance)

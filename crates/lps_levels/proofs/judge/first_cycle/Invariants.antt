use Rattle.std.proofs.Common.{take}
use Rattle.lps_levels.specs.Distances.{HaveNoStrictCycle}
use Rattle.lps_levels.proofs.judge.first_cycle.Given as goal

-- no strict edge so far lies on a cycle
abbrev pub invariant-loop-edge : goal.invariant-loop-edge
invariant-loop-edge l = HaveNoStrictCycle l.names l.edges (take l.edge-index l.edges)

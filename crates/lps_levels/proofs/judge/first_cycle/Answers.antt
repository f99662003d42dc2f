use Rattle.std.proofs.Common.{arith}
use Rattle.lps_levels.proofs.Judging.{cycle_is_first, no_cycle_all, no_cycle_more}
use Rattle.lps_levels.proofs.judge.first_cycle.Goals as goal

pub loop-edge-preserved : goal.loop-edge-preserved
loop-edge-preserved c = no_cycle_more _ _ _ _ c.loop-edge-test.true (rw c.in_default.is at c.in_ok-cycle.ensures) c.loop-edge.invariant

pub returns-in-Some : goal.returns-in-Some
returns-in-Some c = cycle_is_first _ _ _ _ _ c.loop-edge-test.true c.loop-edge.invariant (rw c.in-Some.is at c.in_ok-cycle.ensures)

pub returns : goal.returns
returns c = no_cycle_all _ _ _ (omega arith) c.loop-edge.invariant

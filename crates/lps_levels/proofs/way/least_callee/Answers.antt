use Rattle.lps_levels.proofs.LeastWays.{callee_within, least_start, least_step}
use Rattle.lps_levels.proofs.way.least_callee.Goals as goal

pub loop-edge-init : goal.loop-edge-init
loop-edge-init c = least_start c.args.names.now c.args.edges.now _ _ _

pub better-least-requires-clause-least_in : goal.better-least-requires-clause-least_in
better-least-requires-clause-least_in c = callee_within _ _ _ _ _ _ _ c.requires.graph c.loop-edge.invariant

pub loop-edge-preserved : goal.loop-edge-preserved
loop-edge-preserved c = least_step _ _ _ _ _ _ _ _ _ c.loop-edge-test.true c.better-least.ensures c.loop-edge.invariant

use Rattle.lps_goaltrees.proofs.Lists.{zip_more}
use Rattle.lps_residual.specs.Waking.{IsWake}
use Rattle.lps_goaltrees.proofs.following.wakes_of.Goals as goal

pub loop-node-preserved : goal.loop-node-preserved
loop-node-preserved c =
    rw c.in_ok-push.ensures.items
    (zip_more (IsWake c.args.text.now) c.args.nodes.now c.loop-node.wakes.items c.loop-node.node-index c.node-item.result c.in_ok-wake_of.field-0 c.loop-node-test.true c.node-item.is c.loop-node.invariant c.in_ok-wake_of.ensures)

use Rattle.lps_levels.proofs.Adding.{items_more, items_none}
use Rattle.lps_levels.proofs.calls.add_items.Goals as goal

pub loop-item-init : goal.loop-item-init
loop-item-init c = items_none c.args.names.now c.args.edges.now.items c.args.kinds.now c.args.head.now c.args.items.now

pub loop-item-preserved : goal.loop-item-preserved
loop-item-preserved c = items_more _ _ _ _ _ _ _ _ _ _ c.item-item.result _ c.loop-item-test.true c.item-item.is c.guards-guarded.ensures c.in_ok-add_item.ensures c.loop-item.invariant

use Rattle.lps_model.specs.Calls.{call_in_cond}
use Rattle.lps_levels.proofs.Adding.{added_more, added_none}
use Rattle.lps_levels.proofs.calls.add_conds.Goals as goal

pub loop-cond-init : goal.loop-cond-init
loop-cond-init c = added_none c.args.names.now c.args.edges.now.items

pub loop-cond-preserved : goal.loop-cond-preserved
loop-cond-preserved c = added_more (call_in_cond c.args.kinds.now c.args.head.now) _ _ _ _ _ _ c.cond-item.result c.loop-cond-test.true c.cond-item.is c.loop-cond.invariant c.in_ok-add_cond.ensures

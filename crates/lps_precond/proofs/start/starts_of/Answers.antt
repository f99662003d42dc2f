use Rattle.lps_precond.proofs.Starts.{one_start_more}
use Rattle.lps_precond.proofs.start.starts_of.Goals as goal

pub loop-cond-preserved : goal.loop-cond-preserved
loop-cond-preserved c =
    one_start_more c.args.happen.now c.args.conds.now c.loop-cond.cond-index c.cond-item.result c.loop-cond-test.true c.cond-item.is c.loop-cond.starts.items c.push.new.self.items c.in_ok-start_at.field-0
    c.in_ok-push.ensures.items c.in_ok-start_at.ensures.start c.in_ok-start_at.ensures.first c.loop-cond.invariant

use Rattle.lps_terms.specs.declared.statement.Statement.{Statement}
use Rattle.lps_model.specs.Calls.{calls_in}
use Rattle.lps_levels.proofs.Adding.{added_more}
use Rattle.lps_levels.proofs.calls.calls.Goals as goal

pub loop-statement-preserved : goal.loop-statement-preserved
loop-statement-preserved c = added_more (λ (statement : Statement). calls_in c.args.kinds.now statement.body) _ _ _ _ _ _ c.statement-item.result c.loop-statement-test.true c.statement-item.is c.loop-statement.invariant c.in_ok-add_body.ensures

use Rattle.lps_facts.specs.Facts.{members}
use Rattle.lps_model.specs.Clauses.{clauses}
use Rattle.lps_precond.specs.Stages.{IsLeft}
use Rattle.lps_precond.proofs.Stages.{no_more}
use Rattle.lps_precond.proofs.denial.Denial.is_left_by_one.Goals as goal

pub loop-row-preserved : goal.loop-row-preserved
loop-row-preserved c = λ level levels.
    no_more (IsLeft (clauses c.args.program.now) (members c.args.step.now.before.now) (members c.args.step.now.after.now) level c.args.self.now) c.args.rows.now c.loop-row.row-index c.row-item.result c.as_slice.result.now
    c.loop-row-test.true c.row-item.is c.as_slice.ensures c.in_ok-is_left_by.field-0 c.if-branch.false (c.in_ok-is_left_by.ensures level levels).1 (c.loop-row.invariant level levels)

use Rattle.std.proofs.Common.{refl}
use Rattle.lps_facts.specs.Facts.{members}
use Rattle.lps_model.specs.Clauses.{clauses}
use Rattle.lps_precond.specs.Stages.{IsViolatedWith}
use Rattle.lps_precond.proofs.Stages.{no_more}
use Rattle.lps_precond.proofs.denial.Denial.is_violated_with_one.Goals as goal

pub returns-then-branch : goal.returns-then-branch
returns-then-branch c = λ level levels. record { sound = λ yes. (c.in_ok-is_violated_with.ensures level levels).sound c.if-branch.true; complete = λ h. refl }

pub loop-row-preserved : goal.loop-row-preserved
loop-row-preserved c = λ level levels.
    let step = c.args.step.now in
    no_more (IsViolatedWith (clauses c.args.program.now) (members step.happened.now) (members step.before.now) (members step.after.now) level c.args.self.now c.args.start.now.rest.given) c.args.rows.now c.loop-row.row-index
    c.row-item.result c.as_slice.result.now c.loop-row-test.true c.row-item.is c.as_slice.ensures c.in_ok-is_violated_with.field-0 c.if-branch.false (c.in_ok-is_violated_with.ensures level levels).complete (c.loop-row.invariant level levels)

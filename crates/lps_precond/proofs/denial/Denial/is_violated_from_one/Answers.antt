use Rattle.std.proofs.Common.{refl, sym}
use Rattle.lps_facts.specs.Facts.{members}
use Rattle.lps_meaning.proofs.Lists.{of_element}
use Rattle.lps_model.specs.Clauses.{clauses}
use Rattle.lps_precond.specs.Stages.{IsReadyStart}
use Rattle.lps_precond.proofs.Starts.{none_more_starts}
use Rattle.lps_precond.proofs.denial.Denial.is_violated_from_one.Goals as goal

pub is_violated_from-requires-clause-start : goal.is_violated_from-requires-clause-start
is_violated_from-requires-clause-start c =
    of_element (IsReadyStart c.args.program.now c.args.self.now) c.args.starts.now c.start-item.result c.requires.starts (c.loop-start.start-index, c.loop-start-test.true, sym c.start-item.is)

pub returns-then-branch : goal.returns-then-branch
returns-then-branch c = λ level levels. record { sound = λ yes. (c.in_ok-is_violated_from.ensures level levels).sound c.if-branch.true; complete = λ h. refl }

pub loop-start-preserved : goal.loop-start-preserved
loop-start-preserved c = λ level levels.
    let step = c.args.step.now in
    none_more_starts (clauses c.args.program.now) (members c.args.new.now) (members step.happened.now) (members step.before.now) (members step.after.now) level c.args.self.now c.args.starts.now c.loop-start.start-index
    c.start-item.result c.loop-start-test.true c.start-item.is (λ some. absurd (let yes = (c.in_ok-is_violated_from.ensures level levels).complete some in cc))
    (c.loop-start.invariant level levels)

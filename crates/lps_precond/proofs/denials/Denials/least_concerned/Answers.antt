use Rattle.std.proofs.Common.{List, subst, arith}
use Rattle.std.specs.Prelude.{None}
use Rattle.lps_terms.specs.declared.atom.Atom.{Atom}
use Rattle.lps_facts.specs.Facts.{members}
use Rattle.lps_model.specs.Clauses.{clauses}
use Rattle.lps_solve.proofs.Gaining.{take_whole}
use Rattle.lps_precond.specs.Judged.{IsLessened}
use Rattle.lps_precond.specs.Stages.{IsAt, IsViolatedBy}
use Rattle.lps_precond.proofs.Concerned.{by_no_event, violated_more}
use Rattle.lps_precond.proofs.Lessening.{lessened_same, lessened_then}
use Rattle.lps_precond.proofs.denials.Denials.least_concerned.Goals as goal

pub loop-event-init : goal.loop-event-init
loop-event-init c = λ level levels.
    let text = c.args.program.now in
    let happened = members c.args.step.now.happened.now in
    let before = members c.args.step.now.before.now in
    let after = members c.args.step.now.after.now in
    lessened_same (clauses text) happened before after level c.args.self.now _ None
    (λ place h. absurd (by_no_event text c.lawful.ensures.accepted c.lawful.ensures.formed level happened before after c.args.self.now c.requires.denials place h))

pub loop-event-preserved : goal.loop-event-preserved
loop-event-preserved c = λ level levels.
    let text = c.args.program.now in
    let step = c.args.step.now in
    let happened = members step.happened.now in
    let before = members step.before.now in
    let after = members step.after.now in
    lessened_then (clauses text) happened before after level c.args.self.now _ _ _ None c.loop-event.least _
    (violated_more text c.lawful.ensures.accepted c.lawful.ensures.formed level happened before after c.args.self.now c.requires.denials step.new.now c.loop-event.event-index c.event-item.result c.loop-event-test.true c.event-item.is)
    (c.loop-event.invariant level levels) (c.in_ok-least.ensures level levels)

pub returns : goal.returns
returns c = λ level levels.
    let step = c.args.step.now in
    let happened = members step.happened.now in
    let before = members step.before.now in
    let after = members step.after.now in
    subst (λ (events : List Atom). IsLessened (clauses c.args.program.now) happened before after level c.args.self.now
    (IsAt c.args.self.now (λ denial. IsViolatedBy (clauses c.args.program.now) events happened before after level denial denial.happen)) None c.loop-event.least)
    (take_whole c.loop-event.event-index step.new.now (omega (arith, c.loop-event-test.false))) (c.loop-event.invariant level levels)

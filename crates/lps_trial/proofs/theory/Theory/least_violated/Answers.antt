use Rattle.std.proofs.Common.{◌≡◌, subst, None}
use Rattle.std.specs.Prelude.{IfOk}
use Rattle.lps_terms.specs.declared.text.Text.{Text}
use Rattle.lps_facts.specs.Facts.{members}
use Rattle.lps_precond.specs.Stages.{ViolateNone}
use Rattle.lps_trial.proofs.theory.Theory.least_violated.Goals as goal

pub returns-clause-allowed : goal.returns-clause-allowed
returns-clause-allowed c =
    let step = c.args.step.now in
    subst (λ (text : Text). IfOk c.least_violated.result (λ found. found ≡ None → ViolateNone text (members step.happened.now) (members step.before.now) (members step.after.now))) c.self.view_is
    c.least_violated.ensures.allowed

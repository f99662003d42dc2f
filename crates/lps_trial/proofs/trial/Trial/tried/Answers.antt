use Rattle.std.proofs.Common.{List, subst}
use Rattle.std.proofs.lemmas.Result.{IfOk-weaker}
use Rattle.lps_terms.specs.declared.atom.Atom.{Atom}
use Rattle.lps_facts.specs.Facts.{TrailedSet, members}
use Rattle.lps_precond.specs.Judged.{IsJudged}
use Rattle.lps_trial.specs.Trial.{InState}
use Rattle.lps_trial.proofs.Trials.{on_ok}
use Rattle.lps_trial.proofs.trial.Trial.tried.Goals as goal

pub returns-clause-judged : goal.returns-clause-judged
returns-clause-judged c =
    let text = c.args.theory.now in
    IfOk-weaker c.least_violated.result _ _
    (λ found judged.
    subst (λ (es : List Atom). InState text (members c.args.self.now.state) (λ level trace. IsJudged text level trace es found)) c.in_ok-touched.ensures.events
    (subst (λ (f : TrailedSet). InState text (members f) (λ level trace. IsJudged text level trace c.extend.new.self.events found)) c.extend.ensures.longer.state judged))
    c.least_violated.ensures.judged

pub returns-clause-events : goal.returns-clause-events
returns-clause-events c = on_ok c.least_violated.result _ c.in_ok-touched.ensures.events

use Rattle.std.proofs.Common.{◌∙◌, sym, ap, subst}
use Rattle.lps_goaltrees.specs.Pursued.{AreReadyGoals, Pursued}
use Rattle.lps_goaltrees.proofs.Pursuing.{left_settled, left_unsettled}
use Rattle.lps_goaltrees.proofs.goals.Goals.unsettle.Goals as goal

pub returns-then-not-self-clause-before : goal.returns-then-not-self-clause-before
returns-then-not-self-clause-before c = sym (left_unsettled c.args.self.now (ap (λ (p : Pursued). p.is_settled) (sym c.self.view_is) ∙ c.if-not-self.true))

pub invariant_of-self : goal.invariant_of-self
invariant_of-self c = (c.self-2.invariant.0, λ settled. absurd cc)

pub returns-clause-pursuit : goal.returns-clause-pursuit
returns-clause-pursuit c = ap (λ (p : Pursued). p.pursuit) c.self-2.view_is ∙ c.commit.ensures.pursuit

pub returns-clause-before : goal.returns-clause-before
returns-clause-before c =
    ap (λ (p : Pursued). p.before) c.self-2.view_is ∙ c.commit.ensures.before ∙ sym (left_settled c.args.self.now (ap (λ (p : Pursued). p.is_settled) (sym c.self.view_is) ∙ c.if-not-self.false))

pub returns-clause-ready : goal.returns-clause-ready
returns-clause-ready c = λ text ready.
    let kept = c.commit.ensures.ready text ready in (
      subst (AreReadyGoals text) (ap (λ (p : Pursued). p.pursuit.goals) (sym c.self-2.view_is)) kept.0,
      subst (AreReadyGoals text) (ap (λ (p : Pursued). p.before.goals) (sym c.self-2.view_is)) kept.1,
    )

use Rattle.std.proofs.Common.{◌≡◌, ◌∙◌, sym, arith, subst, IfOk, MatchOption, Some, None}
use Rattle.std.proofs.lemmas.Grind.{common_steps}
use Rattle.lps_build.proofs.Steps.{factor_step, summand_step}
use Rattle.lps_build.proofs.expressions.+expressions.Goals as goal

pub factors-returns : goal.factors-returns
factors-returns t c =
    let step = factor_step c.args.limit c.args.before c.in-Some-2.factor c.in_ok-product.product c.in-Some.tok.now c.args.toks.now c.in-Some.rest.now c.in-Some-2.left.now c.in-Some-mul_op.op
    (omega (arith, c.if-limit-eq0.false)) (grind (arith, common_steps)) (sym c.mul_op.ensures ∙ c.in-Some-mul_op.is)
    (rw c.in-Some-2.is at c.in_ok-factor.ensures) c.in_ok-product.ensures in
    subst (λ o. IfOk c.factors.result (λ found. MatchOption found (o ≡ None) (λ p. o ≡ Some (p.0, p.1.now)))) (sym step) c.factors.ensures

pub summands-returns : goal.summands-returns
summands-returns t c =
    let step = summand_step c.args.limit c.args.before c.in-Some-2.summand c.in_ok-sum.sum c.in-Some.tok.now c.args.toks.now c.in-Some.rest.now c.in-Some-2.left.now c.in-Some-add_op.op
    (omega (arith, c.if-limit-eq0.false)) (grind (arith, common_steps)) (sym c.add_op.ensures ∙ c.in-Some-add_op.is)
    (rw c.in-Some-2.is at c.in_ok-summand.ensures) c.in_ok-sum.ensures in
    subst (λ o. IfOk c.summands.result (λ found. MatchOption found (o ≡ None) (λ p. o ≡ Some (p.0, p.1.now)))) (sym step) c.summands.ensures

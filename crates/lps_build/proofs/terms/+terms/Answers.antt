use Rattle.std.proofs.Common.{◌≡◌, sym, arith, subst, IfOk, MatchOption, Some, None}
use Rattle.std.proofs.lemmas.Grind.{common_steps}
use Rattle.lps_build.proofs.Steps.{open_step, comma_step}
use Rattle.lps_build.proofs.terms.+terms.Goals as goal

pub args-returns-in-Open : goal.args-returns-in-Open
args-returns-in-Open t c =
    subst (λ o. IfOk c.next_arg.result (λ found. MatchOption found (o ≡ None) (λ p. o ≡ Some (p.0.items, p.1.now))))
    (sym (open_step c.args.limit c.new-none.result.items c.args.toks.now _ (omega (arith, c.if-limit-eq0.false)) c.new-none.ensures.items (grind (arith, common_steps)))) c.next_arg.ensures

pub more_args-returns-in-Comma : goal.more_args-returns-in-Comma
more_args-returns-in-Comma t c =
    subst (λ o. IfOk c.next_arg.result (λ found. MatchOption found (o ≡ None) (λ p. o ≡ Some (p.0.items, p.1.now))))
    (sym (comma_step c.args.limit c.args.args.items c.args.toks.now _ (omega (arith, c.if-limit-eq0.false)) (grind (arith, common_steps)))) c.next_arg.ensures

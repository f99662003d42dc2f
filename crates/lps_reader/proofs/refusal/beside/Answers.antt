use Rattle.std.proofs.Common.{arith, subst, sym, take}
use Rattle.lps_syntax.specs.Judging.{IsTextVerdict}
use Rattle.lps_reader.proofs.First.{LeavesFirst, crowded_beside, large_beside}
use Rattle.lps_reader.proofs.refusal.beside.Goals as goal

pub returns-in-TooLarge : goal.returns-in-TooLarge
returns-in-TooLarge c = λ toks count low within judged.
    large_beside c.args.tokens.now toks count c.args.place c.in-TooLarge.at c.line_at-in-TooLarge.result c.line_at-in-TooLarge.ensures c.if-at-place-2.true low within
    (subst (λ v. IsTextVerdict v (take count toks)) c.in-TooLarge.is judged)

pub returns-in-Bad-2 : goal.returns-in-Bad-2
returns-in-Bad-2 c = λ toks count low within judged.
    crowded_beside c.args.tokens.now toks c.args.verdict count c.args.place c.line_at.result c.line_at.ensures
    (subst (λ v. LeavesFirst v c.args.place) (sym c.in-Bad.is) (omega (arith, c.if-at-place.false))) low within judged

pub returns-in-TooLarge-2 : goal.returns-in-TooLarge-2
returns-in-TooLarge-2 c = λ toks count low within judged.
    crowded_beside c.args.tokens.now toks c.args.verdict count c.args.place c.line_at.result c.line_at.ensures
    (subst (λ v. LeavesFirst v c.args.place) (sym c.in-TooLarge.is) (omega (arith, c.if-at-place-2.false))) low within judged

pub returns-in-Accepted : goal.returns-in-Accepted
returns-in-Accepted c = λ toks count low within judged.
    crowded_beside c.args.tokens.now toks c.args.verdict count c.args.place c.line_at.result c.line_at.ensures
    (subst (λ v. LeavesFirst v c.args.place) (sym c.in-Accepted.is) tt) low within judged

pub returns-in-Incomplete : goal.returns-in-Incomplete
returns-in-Incomplete c = λ toks count low within judged.
    crowded_beside c.args.tokens.now toks c.args.verdict count c.args.place c.line_at.result c.line_at.ensures
    (subst (λ v. LeavesFirst v c.args.place) (sym c.in-Incomplete.is) tt) low within judged

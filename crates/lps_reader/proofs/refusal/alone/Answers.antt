use Rattle.std.proofs.Common.{subst}
use Rattle.lps_syntax.specs.Judging.{IsTextVerdict}
use Rattle.lps_reader.proofs.First.{large_alone}
use Rattle.lps_reader.proofs.refusal.alone.Goals as goal

pub returns-in-TooLarge : goal.returns-in-TooLarge
returns-in-TooLarge c = λ toks same judged.
    large_alone c.args.tokens.now toks c.in-TooLarge.at c.line_at-in-TooLarge.result c.line_at-in-TooLarge.ensures (subst (λ v. IsTextVerdict v toks) c.in-TooLarge.is judged)

use Rattle.std.proofs.Common.{◌∙◌, subst}
use Rattle.lps_syntax.specs.Judging.{IsTextVerdict}
use Rattle.lps_numbering.specs.Numbers.{toks_of}
use Rattle.lps_reader.specs.Refusing.{IsFirstRefusal}
use Rattle.lps_reader.proofs.Numbering.{are_judged, count_numbered, first_toks, sizes}
use Rattle.lps_reader.proofs.judge.refusal_of.Goals as goal

pub returns : goal.returns
returns c = λ bytes are.
    let tokens = c.args.tokens.now in
    let crowded = c.args.numbered.now.crowded in
    let toks = toks_of bytes tokens in
    subst (λ k. IsFirstRefusal c.first_refusal.result k tokens toks) are.crowded
    (c.first_refusal.ensures toks (count_numbered crowded toks) (sizes bytes tokens) (are_judged bytes tokens crowded are.crowded)
    (subst (IsTextVerdict c.in_ok-verdict.verdict) (c.as_slice.ensures.value ∙ are.toks ∙ first_toks bytes tokens crowded) c.in_ok-verdict.ensures))

use Rattle.std.proofs.Common.{◌≡◌, sym, arith, subst, true}
use Rattle.lps_syntax.specs.Counts.{symbols_after}
use Rattle.std.proofs.lemmas.List.{take_all}
use Rattle.lps_syntax.specs.Judging.{IsTextVerdict}
use Rattle.lps_syntax.proofs.Tallies.{count_taken}
use Rattle.lps_syntax.proofs.Verdicts.{TextSoFar, text_bad, text_large, text_more, text_accepted, text_incomplete}
use Rattle.lps_syntax.proofs.text.judge_text.Goals as goal
use Rattle.lps_syntax.proofs.text.judge_text.Goals.{then-whole, else-whole}

pub returns-in-None : goal.returns-in-None
returns-in-None c =
    let stop = rw c.in-None.is at c.in_ok-advance.ensures.goes_on in
    text_bad c.args.toks.now c.loop-i.i c.index-toks-i.result c.loop-i.expected c.loop-i.symbols (omega arith) c.loop-i.invariant.so_far c.index-toks-i.is stop

pub returns-then-after-gt-MAX_SYMBOLS : goal.returns-then-after-gt-MAX_SYMBOLS
returns-then-after-gt-MAX_SYMBOLS c =
    let on = rw c.in-Some.is at c.in_ok-advance.ensures.goes_on in
    let by = rw c.in-Some.is at c.in_ok-advance.ensures.taker in
    let u = c.loop-i.expected in
    let n = count_taken symbols_after u c.loop-i.symbols c.index-toks-i.result c.in-Some.frame c.symbols_after-after.result by c.symbols_after-after.ensures in
    text_large c.args.toks.now c.loop-i.i c.index-toks-i.result u c.loop-i.symbols (omega arith) c.loop-i.invariant.so_far c.index-toks-i.is
    c.advance.new.self c.symbols_after-after.result on n (omega arith)

pub loop-i-preserved : goal.loop-i-preserved
loop-i-preserved c =
    let on = rw c.in-Some.is at c.in_ok-advance.ensures.goes_on in
    let by = rw c.in-Some.is at c.in_ok-advance.ensures.taker in
    let u = c.loop-i.expected in
    let n = count_taken symbols_after u c.loop-i.symbols c.index-toks-i.result c.in-Some.frame c.symbols_after-after.result by c.symbols_after-after.ensures in
    record {
      so_far = text_more c.args.toks.now c.loop-i.i c.index-toks-i.result u c.loop-i.symbols (omega arith) c.loop-i.invariant.so_far c.index-toks-i.is
          c.advance.new.self c.symbols_after-after.result on n (omega arith);
      low = omega arith;
    }

pub returns : goal.returns
returns c =
    let u = c.loop-i.expected in
    let so_far : TextSoFar c.args.toks.now u c.loop-i.symbols = subst (λ ts. TextSoFar ts u c.loop-i.symbols) (take_all c.loop-i.i c.args.toks.now (omega arith)) c.loop-i.invariant.so_far in
    elim c.if-whole.branch [
      | then-whole w ↦ subst (λ v. IsTextVerdict v c.args.toks.now) (sym w.result-is)
          (text_accepted c.args.toks.now u c.loop-i.symbols so_far (c.ends_text-whole.ensures.0 w.if-whole.true))
      | else-whole w ↦ subst (λ v. IsTextVerdict v c.args.toks.now) (sym w.result-is)
          (text_incomplete c.args.toks.now u c.loop-i.symbols so_far
          (λ e. let whole : c.ends_text-whole.result ≡ true = c.ends_text-whole.ensures.1 e in let none = w.if-whole.false in absurd cc))
    ]

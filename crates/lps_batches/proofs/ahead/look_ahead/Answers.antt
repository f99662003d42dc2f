use Rattle.std.proofs.Common.{◌∙◌, ◌+◌, ◌<◌, ap, sym, arith, drop, length, length-drop}
use Rattle.std.proofs.lemmas.List.{drop-drop}
use Rattle.lps_batches.specs.LookAhead.{ahead_from}
use Rattle.lps_batches.proofs.FirstLine.{ahead_from-pass, ahead_from-stop}
use Rattle.lps_batches.proofs.Standing.{ahead_within}
use Rattle.lps_batches.proofs.ahead.look_ahead.Goals as goal

pub loop-at-preserved : goal.loop-at-preserved
loop-at-preserved c =
    let at = c.loop-at.at in
    let bytes = c.args.bytes.now in
    let count = c.in-Pass.length in
    let fits = c.in-Pass.ensures.fits in
    record {
      so_far = c.loop-at.invariant.so_far
          ∙ ahead_from-pass (drop at bytes) count at c.loop-at.lines fits.0 (omega (arith, fits.1, length-drop at bytes)) (sym c.in-Pass.ensures.same)
          ∙ ap (λ left. ahead_from left 0 (at + count) (c.loop-at.lines + 1)) (drop-drop count at bytes);
      within = omega (arith, fits.1);
      few = omega (arith, fits.0);
    }

pub returns-in-Stop-clause-same : goal.returns-in-Stop-clause-same
returns-in-Stop-clause-same c =
    let at = c.loop-at.at in
    let bytes = c.args.bytes.now in
    let some : 0 < length (drop at bytes) = omega (arith, length-drop at bytes) in
    sym (c.loop-at.invariant.so_far ∙ ahead_from-stop (drop at bytes) c.in-Stop.front at c.loop-at.lines some (sym c.in-Stop.ensures.same))

pub returns-in-Stop-clause-within : goal.returns-in-Stop-clause-within
returns-in-Stop-clause-within c =
    let at = c.loop-at.at in
    let bytes = c.args.bytes.now in
    let some : 0 < length (drop at bytes) = omega (arith, length-drop at bytes) in
    ahead_within bytes _ (sym (c.loop-at.invariant.so_far ∙ ahead_from-stop (drop at bytes) c.in-Stop.front at c.loop-at.lines some (sym c.in-Stop.ensures.same)))

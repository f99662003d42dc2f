use Rattle.std.proofs.Common.{◌<◌, arith, get_or}
use Rattle.lps_seq.proofs.Tables.{all_dropped, at_any}
use Rattle.lps_seq.proofs.entrance.above.Goals as goal

pub loop-number-preserved : goal.loop-number-preserved
loop-number-preserved c = λ bound le all.
    let x = get_or c.args.numbers.now c.loop-number.number-index 0 in
    let below : x < bound = (let next = c.in_ok-next.ensures in omega (arith, next, le, c.max-above.ensures)) in
    c.loop-number.invariant bound (omega (arith, le, c.max-above.ensures))
    (all_dropped (λ n. n < bound) c.args.numbers.now c.loop-number.number-index x c.loop-number-test.true (at_any c.args.numbers.now c.loop-number.number-index 0 x c.loop-number-test.true) below all)

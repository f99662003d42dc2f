use Rattle.std.proofs.Common.{◌/◌, ◌%◌, arith}
use Rattle.std.proofs.lemmas.Int.{ints}
use Rattle.lps_windows.specs.Matrices.{IsLesser, entry}
use Rattle.lps_windows.proofs.Filling.{column_below, pushed, pushed_count, row_below}
use Rattle.lps_windows.proofs.matrix.pass.Goals as goal

pub loop-place-preserved : goal.loop-place-preserved
loop-place-preserved c =
    let less = c.in-Some.ensures in
    let row = row_below c.args.size c.loop-place.place c.requires.some c.loop-place-test.true in
    let column = column_below c.args.size c.loop-place.place c.requires.some in
    record {
      count = pushed_count _ _ _ _ c.in_ok-push-in-Some.ensures.items c.loop-place.invariant.count;
      passed = pushed (λ p v. IsLesser (entry c.args.size c.args.numbers.now) c.args.k (p / c.args.size) (p % c.args.size) v) _ _ c.in-Some.number _ _ c.in_ok-push-in-Some.ensures.items
          (omega (arith, ints, less.low, less.before, c.requires.bounded.high _ _ row column)) c.loop-place.invariant.count less c.loop-place.invariant.passed;
    }

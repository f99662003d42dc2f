use Rattle.std.proofs.Common.{◌/◌, ◌%◌, arith}
use Rattle.std.proofs.lemmas.Int.{ints}
use Rattle.lps_windows.specs.Matrices.{IsFirst}
use Rattle.lps_windows.proofs.Filling.{pushed, pushed_count}
use Rattle.lps_windows.proofs.matrix.start.Goals as goal

pub loop-place-preserved : goal.loop-place-preserved
loop-place-preserved c = record {
  count = pushed_count _ _ _ _ c.in_ok-push.ensures.items c.loop-place.invariant.count;
  first = pushed (λ p v. IsFirst (p / c.args.size) (p % c.args.size) v) _ _ c.first_entry.result _ _ c.in_ok-push.ensures.items
      (omega (arith, ints, c.first_entry.ensures.low, c.first_entry.ensures.high)) c.loop-place.invariant.count c.first_entry.ensures c.loop-place.invariant.first;
}

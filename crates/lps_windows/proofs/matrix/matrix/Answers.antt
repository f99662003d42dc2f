use Rattle.std.proofs.lemmas.Int.{to_z-of_z}
use Rattle.lps_windows.proofs.Filling.{from_false}
use Rattle.lps_windows.proofs.Tightening.{begun_more, begun_none}
use Rattle.lps_windows.proofs.matrix.matrix.Goals as goal

pub loop-bound-init : goal.loop-bound-init
loop-bound-init c = begun_none _ _ _ c.in_ok-numbers.ensures

pub loop-bound-preserved : goal.loop-bound-preserved
loop-bound-preserved c =
    begun_more c.args.size c.args.bounds.now c.loop-bound.bound-index _ c.loop-bound.numbers.items c.lower.new.numbers.items _ c.requires.between c.loop-bound-test.true
    c.lower.ensures.count (from_false _ c.if-is_impossible.false c.is_impossible.ensures) c.lower.ensures.lowered (λ fits. to_z-of_z _ _ fits) c.loop-bound.invariant

use Rattle.std.proofs.Common.{arith}
use Rattle.lps_precond.proofs.Late.{late_all, late_more}
use Rattle.lps_precond.proofs.denials.late_of.Goals as goal

pub loop-place-preserved : goal.loop-place-preserved
loop-place-preserved c =
    late_more c.args.denials.now c.loop-place.place c.index-denials-place.result c.loop-place-test.true c.index-denials-place.is c.loop-place.late.items c.add_late.new.late.items c.in_ok-add_late.ensures c.loop-place.invariant

pub returns : goal.returns
returns c = late_all c.args.denials.now c.loop-place.place c.loop-place.late.items (omega (arith, c.loop-place-test.false)) c.loop-place.invariant

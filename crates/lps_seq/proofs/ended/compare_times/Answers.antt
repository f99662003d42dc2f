use Rattle.std.proofs.Common.{◌∙◌, sym, arith}
use Rattle.lps_seq.specs.Carries.{when_cmp}
use Rattle.lps_seq.proofs.Adding.{ends}
use Rattle.lps_seq.proofs.ended.compare_times.Goals as goal

pub returns : goal.returns
returns c =
    c.cmp.ensures ∙ sym (ends when_cmp c.args.times.now c.args.others.now c.loop-place.place (omega (arith, c.loop-place-test.false, c.loop-place.auto, c.min-place-end.ensures)))
    ∙ c.loop-place.invariant

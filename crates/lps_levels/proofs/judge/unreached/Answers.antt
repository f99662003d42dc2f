use Rattle.std.proofs.Common.{◌∙◌, ap, arith, length}
use Rattle.std.proofs.lemmas.List.{length_push}
use Rattle.lps_levels.specs.Distances.{missing}
use Rattle.lps_levels.proofs.Judging.{unreached_more}
use Rattle.lps_levels.proofs.judge.unreached.Goals as goal

pub loop-goal-preserved : goal.loop-goal-preserved
loop-goal-preserved c = record {
  size = ap length c.in_ok-push.ensures.items ∙ length_push c.loop-goal.levels.items c.count_missing.result ∙ omega (arith, c.loop-goal.invariant.size);
  counted = unreached_more _ _ _ _ _ _ _ c.in_ok-push.ensures.items c.loop-goal.invariant.size c.in_ok-distances.ensures (c.count_missing.ensures ∙ ap missing c.as_slice.ensures.value) c.loop-goal.invariant.counted;
}

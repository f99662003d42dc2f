use Rattle.std.proofs.Common.{◌≡◌, ◌∙◌, ◌+◌, ◌∷◌, drop, subst}
use Rattle.lps_residual.specs.declared.waking.Wake.{Wake}
use Rattle.lps_antecedents.specs.Buckets.{IsSound, slots_of}
use Rattle.lps_antecedents.proofs.Lists.{rest_from}
use Rattle.lps_antecedents.proofs.buckets.settle_all.Goals as goal

pub loop-wake-preserved : goal.loop-wake-preserved
loop-wake-preserved c =
    let changed = c.args.changed.now in
    let i = c.loop-wake.wake-index in
    let wake : Wake = c.wake-item.result in
    let rest : drop i changed ≡ wake ∷ drop (i + 1) changed = rest_from changed i wake c.loop-wake-test.true c.wake-item.is in
    record {
      sound = c.settle_at.ensures.sound (drop (i + 1) changed) (subst (IsSound (slots_of c.loop-wake.by_wake) c.loop-wake.watch) rest c.loop-wake.invariant.sound);
      waits = c.settle_at.ensures.waits ∙ c.loop-wake.invariant.waits;
      ready = λ text ready. c.settle_at.ensures.ready text (c.loop-wake.invariant.ready text ready);
    }

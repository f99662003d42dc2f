use Rattle.std.proofs.Common.{◌≡◌, ◌∙◌, ◌+◌, ◌++◌, ◌∷◌, [], List, take, ap, subst, sym}
use Rattle.std.proofs.lemmas.List.{take_more}
use Rattle.lps_residual.specs.declared.waking.Wake.{Wake}
use Rattle.lps_antecedents.specs.Buckets.{AreSwitched, slots_of}
use Rattle.lps_antecedents.proofs.Lying.{switched_one_bucket, switched_then}
use Rattle.lps_antecedents.proofs.buckets.switch_all.Goals as goal

pub loop-wake-preserved : goal.loop-wake-preserved
loop-wake-preserved c =
    let on = c.args.on in
    let wakes = c.args.wakes.now in
    let i = c.loop-wake.wake-index in
    let wake : Wake = c.wake-item.result in
    let old = slots_of c.args.by_wake.now in
    let middle = slots_of c.loop-wake.by_wake in
    let new = slots_of c.switch_at.new.by_wake in
    let more : take (i + 1) wakes ≡ take i wakes ++ wake ∷ [] = take_more wakes i wake c.loop-wake-test.true ∙ ap (λ (w : Wake). take i wakes ++ w ∷ []) (sym c.wake-item.is) in
    subst (λ (ws : List Wake). AreSwitched on ws old new) (sym more)
    (switched_then on (take i wakes) (wake ∷ []) old middle new c.loop-wake.invariant
    (subst (AreSwitched on (wake ∷ []) middle) (sym c.switch_at.ensures) (switched_one_bucket on wake middle c.loop-wake.invariant.only.ordered)))

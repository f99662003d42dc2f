use Rattle.std.proofs.Common.{◌∙◌, ap, sym, subst}
use Rattle.std.specs.List.Sorted.{IsStrictlySortedBy}
use Rattle.std.specs.Map.{keys_of}
use Rattle.lps_watch.specs.Orders.{wake_cmp}
use Rattle.lps_antecedents.specs.Buckets.{IsSound, LiesIn, slots_of, waiting}
use Rattle.lps_antecedents.proofs.Maps.{gone_slots, ordered_slots}
use Rattle.lps_antecedents.proofs.Settling.{IsSettledAt, left_lay, left_sound, left_waits, ready_lesser, settled_bucket}
use Rattle.lps_antecedents.proofs.buckets.settle_at.Goals as goal

pub returns-then-settle_bucket-clause-sound : goal.returns-then-settle_bucket-clause-sound
returns-then-settle_bucket-clause-sound c = λ rest sound.
    let old = slots_of c.args.by_wake.now in
    let all = subst (IsSettledAt c.args.wake.now old c.requires) (sym c.settle_bucket.ensures.slots) (settled_bucket c.args.wake.now old c.requires) in
    let there = all.sound c.args.watch.now rest sound in
    let gone = gone_slots c.args.wake.now c.settle_bucket.new.by_wake c.remove.new.self c.remove.ensures.entries in
    subst (λ bs. IsSound bs c.remove-then-settle_bucket.new.self rest) (sym gone)
    (left_sound c.args.wake.now (slots_of c.settle_bucket.new.by_wake) there.ordered (c.settle_bucket.ensures.nothing c.if-settle_bucket.true)
    (subst (λ bs. IsStrictlySortedBy wake_cmp (keys_of bs)) gone (ordered_slots c.remove.new.self c.remove.ensures.ordered))
    c.args.watch.now c.remove-then-settle_bucket.new.self rest (λ w among other. (c.remove-then-settle_bucket.ensures w).1 (among, other)) there)

pub returns-then-settle_bucket-clause-waits : goal.returns-then-settle_bucket-clause-waits
returns-then-settle_bucket-clause-waits c =
    let old = slots_of c.args.by_wake.now in
    let all = subst (IsSettledAt c.args.wake.now old c.requires) (sym c.settle_bucket.ensures.slots) (settled_bucket c.args.wake.now old c.requires) in
    ap waiting (gone_slots c.args.wake.now c.settle_bucket.new.by_wake c.remove.new.self c.remove.ensures.entries)
    ∙ left_waits c.args.wake.now (slots_of c.settle_bucket.new.by_wake) all.ordered (c.settle_bucket.ensures.nothing c.if-settle_bucket.true) ∙ all.waits

pub returns-then-settle_bucket-clause-ready : goal.returns-then-settle_bucket-clause-ready
returns-then-settle_bucket-clause-ready c = λ text.
    let old = slots_of c.args.by_wake.now in
    let all = subst (IsSettledAt c.args.wake.now old c.requires) (sym c.settle_bucket.ensures.slots) (settled_bucket c.args.wake.now old c.requires) in
    ready_lesser text old (slots_of c.remove.new.self)
    (λ wake slot lies. all.lay wake slot (left_lay c.args.wake.now (slots_of c.settle_bucket.new.by_wake) all.ordered (c.settle_bucket.ensures.nothing c.if-settle_bucket.true) wake slot
    (subst (λ bs. LiesIn bs wake slot) (gone_slots c.args.wake.now c.settle_bucket.new.by_wake c.remove.new.self c.remove.ensures.entries) lies)))

pub returns-else-settle_bucket-clause-sound : goal.returns-else-settle_bucket-clause-sound
returns-else-settle_bucket-clause-sound c = λ rest sound.
    let old = slots_of c.args.by_wake.now in
    let all = subst (IsSettledAt c.args.wake.now old c.requires) (sym c.settle_bucket.ensures.slots) (settled_bucket c.args.wake.now old c.requires) in
    all.sound c.args.watch.now rest sound

pub returns-else-settle_bucket-clause-waits : goal.returns-else-settle_bucket-clause-waits
returns-else-settle_bucket-clause-waits c =
    let old = slots_of c.args.by_wake.now in
    let all = subst (IsSettledAt c.args.wake.now old c.requires) (sym c.settle_bucket.ensures.slots) (settled_bucket c.args.wake.now old c.requires) in
    all.waits

pub returns-else-settle_bucket-clause-ready : goal.returns-else-settle_bucket-clause-ready
returns-else-settle_bucket-clause-ready c = λ text.
    let old = slots_of c.args.by_wake.now in
    let all = subst (IsSettledAt c.args.wake.now old c.requires) (sym c.settle_bucket.ensures.slots) (settled_bucket c.args.wake.now old c.requires) in
    ready_lesser text old (slots_of c.settle_bucket.new.by_wake) all.lay

use Rattle.std.proofs.Common.{[], ◌∷◌, List, subst, sym}
use Rattle.std.specs.Prelude.{Contains}
use Rattle.std.proofs.lemmas.List.Elements.{Contains-append_left, Contains-push}
use Rattle.lps_terms.specs.declared.text.Text.{Text}
use Rattle.lps_residual.specs.Waking.{IsWake}
use Rattle.lps_residual.specs.declared.waking.Wake.{Wake}
use Rattle.lps_antecedents.specs.Buckets.{AreReadyIn, IsSound, kept, slots_of}
use Rattle.lps_antecedents.proofs.Putting.{ready_put, sound_put}
use Rattle.lps_antecedents.proofs.Settling.{sound_more}
use Rattle.lps_antecedents.proofs.buckets.Buckets.put.Goals as goal

pub returns-in_err-put_at-clause-sound : goal.returns-in_err-put_at-clause-sound
returns-in_err-put_at-clause-sound c =
    let changed = c.args.self.now.changed.items in
    let more : List Wake = c.push.new.self.items in
    let kept_changed : (w : Wake) → Contains changed w → Contains more w =
    λ w among. subst (λ (ws : List Wake). Contains ws w) (sym c.in_ok-push.ensures.items) (Contains-append_left changed (c.in_ok-copy_wake.field-0 ∷ []) w among) in
    subst (λ bs. IsSound bs c.put_at.new.watch more) (sym c.in_err-put_at.ensures.err)
    (sound_more (slots_of c.args.self.now.by_wake) c.args.self.now.watch c.put_at.new.watch changed more c.in_err-put_at.ensures.others kept_changed c.requires.sound)

pub returns-in_err-put_at-clause-kept : goal.returns-in_err-put_at-clause-kept
returns-in_err-put_at-clause-kept c = subst (λ bs. AreReadyIn c.args.program.now (kept bs)) (sym c.in_err-put_at.ensures.err) c.requires.kept

pub returns-clause-sound : goal.returns-clause-sound
returns-clause-sound c =
    let changed = c.args.self.now.changed.items in
    let more : List Wake = c.push.new.self.items in
    let copy : Wake = c.in_ok-copy_wake.field-0 in
    let wake : Wake = c.in_ok-wake.wake in
    let kept_changed : (w : Wake) → Contains changed w → Contains more w =
    λ w among. subst (λ (ws : List Wake). Contains ws w) (sym c.in_ok-push.ensures.items) (Contains-append_left changed (copy ∷ []) w among) in
    let also : Contains more wake = subst (Contains more) c.in_ok-copy_wake.ensures (subst (λ (ws : List Wake). Contains ws copy) (sym c.in_ok-push.ensures.items) (Contains-push changed copy)) in
    sound_put wake c.args.held (slots_of c.args.self.now.by_wake) (slots_of c.put_at.new.by_wake) c.in_ok-put_at.ensures.put c.args.self.now.watch c.put_at.new.watch changed more
    c.in_ok-put_at.ensures.others c.in_ok-put_at.ensures.watched kept_changed also c.requires.sound

pub returns-clause-kept : goal.returns-clause-kept
returns-clause-kept c =
    ready_put c.in_ok-wake.wake c.args.held (slots_of c.args.self.now.by_wake) (slots_of c.put_at.new.by_wake) c.in_ok-put_at.ensures.put c.args.program.now c.requires.ready
    (subst (λ (t : Text). IsWake t c.args.held.node c.in_ok-wake.wake) c.text.ensures c.in_ok-wake.ensures) c.requires.kept

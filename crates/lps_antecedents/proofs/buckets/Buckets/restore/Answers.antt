use Rattle.std.proofs.Common.{List, true, subst}
use Rattle.lps_residual.specs.declared.waking.Wake.{Wake}
use Rattle.lps_antecedents.specs.Buckets.{AreSwitched, slots_of}
use Rattle.lps_antecedents.proofs.Lying.{same_kept}
use Rattle.lps_antecedents.proofs.Settling.{restored_waiting, sound_changed}
use Rattle.lps_antecedents.proofs.buckets.Buckets.restore.Goals as goal

pub returns-clause-sound : goal.returns-clause-sound
returns-clause-sound c =
    let old = slots_of c.args.self.now.by_wake in
    let new = slots_of c.switch_all.new.by_wake in
    let switched = subst (λ (ws : List Wake). AreSwitched true ws old new) c.as_slice.ensures.value c.switch_all.ensures in
    sound_changed c.args.self.now.changed.items old new c.args.self.now.watch switched.only c.requires.sound

pub returns-clause-waits : goal.returns-clause-waits
returns-clause-waits c =
    let old = slots_of c.args.self.now.by_wake in
    let new = slots_of c.switch_all.new.by_wake in
    let switched = subst (λ (ws : List Wake). AreSwitched true ws old new) c.as_slice.ensures.value c.switch_all.ensures in
    restored_waiting c.args.self.now.changed.items old new c.args.self.now.watch c.requires.sound switched

pub returns-clause-kept : goal.returns-clause-kept
returns-clause-kept c = same_kept (slots_of c.args.self.now.by_wake) (slots_of c.switch_all.new.by_wake) c.switch_all.ensures.only.before

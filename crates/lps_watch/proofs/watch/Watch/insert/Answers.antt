use Rattle.std.proofs.Common.{◌≡◌, ◌⊎◌, ◌↔◌, Contains, List, subst, sym}
use Rattle.lps_residual.specs.declared.waking.Wake.{Wake}
use Rattle.lps_watch.specs.declared.due.Due.{Due}
use Rattle.lps_watch.specs.Watches.{Adds, Agree, due_of}
use Rattle.lps_watch.proofs.Both.{back_again, by_copy, one_more, same_time, still_agree}
use Rattle.lps_watch.proofs.Members.{without_one}
use Rattle.lps_watch.proofs.Orders.{wake_cmp_total, wake_exact}
use Rattle.lps_watch.proofs.watch.Watch.insert.Goals as goal

pub invariant_of-self-in_err-add_wake : goal.invariant_of-self-in_err-add_wake
invariant_of-self-in_err-add_wake c = subst (λ (ws : List Wake). Agree ws c.self.inside.by_due.keys) (sym c.in_err-add_wake.ensures.err) c.self.invariant

-- a wake that could not be added by time was new, and is taken out by event
back : (c : goal.After-remove) → (w : Wake) → Contains c.remove.new.self.keys w ↔ Contains c.self.inside.by_event.keys w
back c =
    let wake = c.args.wake.now in
    let wakes = c.self.inside.by_event.keys in
    let dues = c.self.inside.by_due.keys in
    let due : Due = record { time = wake.due; awaited = c.in_ok-copy_awaited.field-0 } in
    let timed : due ≡ due_of wake = same_time c.in_ok-copy_awaited.field-0 wake c.in_ok-copy_awaited.ensures in
    let absent : Contains dues due → ⊥ = c.in-Err.ensures.absent in
    back_again wakes wake c.add_wake.new.wakes.keys c.remove.new.self.keys (λ there. absent (subst (Contains dues) (sym timed) ((c.self.invariant wake).0 there)))
    (by_copy wakes c.add_wake.new.wakes.keys c.in_ok-copy_wake.field-0 wake c.in_ok-copy_wake.ensures c.in_ok-add_wake.ensures.added)
    (without_one wake_cmp_total wake_exact wake c.add_wake.new.wakes c.remove.new.self c.remove.ensures.updates.0)

pub invariant_of-self-in-Err : goal.invariant_of-self-in-Err
invariant_of-self-in-Err c = still_agree c.self.inside.by_event.keys c.remove.new.self.keys c.self.inside.by_due.keys c.add_due.new.dues.keys c.in-Err.ensures.err (back c) c.self.invariant

pub returns-in-Err-clause-err : goal.returns-in-Err-clause-err
returns-in-Err-clause-err c = subst (λ (ws : List Wake). (w : Wake) → Contains c.remove.new.self.keys w ↔ Contains ws w) c.self.view_is (back c)

pub invariant_of-self-in_default : goal.invariant_of-self-in_default
invariant_of-self-in_default c =
    let wake = c.args.wake.now in
    let wakes = c.self.inside.by_event.keys in
    let dues = c.self.inside.by_due.keys in
    let due : Due = record { time = wake.due; awaited = c.in_ok-copy_awaited.field-0 } in
    let timed : due ≡ due_of wake = same_time c.in_ok-copy_awaited.field-0 wake c.in_ok-copy_awaited.ensures in
    one_more wakes wake c.add_wake.new.wakes.keys dues c.add_due.new.dues.keys c.self.invariant
    (by_copy wakes c.add_wake.new.wakes.keys c.in_ok-copy_wake.field-0 wake c.in_ok-copy_wake.ensures c.in_ok-add_wake.ensures.added)
    (subst (λ (e : Due). (d : Due) → Contains c.add_due.new.dues.keys d ↔ (Contains dues d ⊎ (d ≡ e))) timed c.in_default.ensures.added)

pub returns-clause-added : goal.returns-clause-added
returns-clause-added c =
    subst (λ (ws : List Wake). Adds ws c.add_wake.new.wakes.keys (λ w. w ≡ c.args.wake.now)) c.self.view_is
    (by_copy c.self.inside.by_event.keys c.add_wake.new.wakes.keys c.in_ok-copy_wake.field-0 c.args.wake.now c.in_ok-copy_wake.ensures c.in_ok-add_wake.ensures.added)

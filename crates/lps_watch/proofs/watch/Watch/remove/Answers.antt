use Rattle.std.proofs.Common.{◌≡◌, ◌↔◌, ap, Contains, List, subst, sym}
use Rattle.lps_residual.specs.declared.waking.Wake.{Wake}
use Rattle.lps_watch.specs.declared.due.Due.{Due}
use Rattle.lps_watch.specs.Watches.{Agree, due_of}
use Rattle.lps_watch.proofs.Both.{one_less}
use Rattle.lps_watch.proofs.Members.{without_one}
use Rattle.lps_watch.proofs.Orders.{due_cmp_total, due_exact, wake_cmp_total, wake_exact}
use Rattle.lps_watch.proofs.watch.Watch.remove.Goals as goal

pub invariant_of-self : goal.invariant_of-self
invariant_of-self c = subst (λ (ws : List Wake). Agree ws c.self.inside.by_due.keys) (sym c.in_default.ensures.unchanged) c.self.invariant

pub returns-in_default : goal.returns-in_default
returns-in_default c =
    subst (λ (ws : List Wake). (w : Wake) → Contains c.take.new.self.keys w ↔ (Contains ws w × (w ≡ c.args.wake.now → ⊥))) c.self.view_is
    (without_one wake_cmp_total wake_exact c.args.wake.now c.self.inside.by_event c.take.new.self c.take.ensures.updates.0)

pub invariant_of-self-2 : goal.invariant_of-self-2
invariant_of-self-2 c =
    let wake = c.args.wake.now in
    let taken : Wake = c.in-Some.field-0 in
    let same : wake ≡ taken = wake_exact wake taken c.in-Some.ensures.same_key in
    one_less c.self.inside.by_event.keys wake c.take.new.self.keys c.self.inside.by_due.keys c.remove.new.self.keys c.self.invariant
    (without_one wake_cmp_total wake_exact wake c.self.inside.by_event c.take.new.self c.take.ensures.updates.0)
    (subst (λ (e : Due). (d : Due) → Contains c.remove.new.self.keys d ↔ (Contains c.self.inside.by_due.keys d × (d ≡ e → ⊥))) (ap due_of (sym same))
    (without_one due_cmp_total due_exact (due_of taken) c.self.inside.by_due c.remove.new.self c.remove.ensures.updates.0))

pub returns : goal.returns
returns c =
    subst (λ (ws : List Wake). (w : Wake) → Contains c.take.new.self.keys w ↔ (Contains ws w × (w ≡ c.args.wake.now → ⊥))) c.self.view_is
    (without_one wake_cmp_total wake_exact c.args.wake.now c.self.inside.by_event c.take.new.self c.take.ensures.updates.0)

use Rattle.std.proofs.Common.{◌≡◌, ◌∙◌, List, ap, sym, subst}
use Rattle.std.specs.Prelude.{◌↔◌, Contains, Some}
use Rattle.std.specs.List.{filter_map}
use Rattle.lps_meaning.specs.declared.goal.Closed.{Closed}
use Rattle.lps_meaning.specs.declared.goal.GoalId.{GoalId}
use Rattle.lps_goaltrees.specs.declared.goal.Goal.{Goal}
use Rattle.lps_goaltrees.specs.declared.slot.Slot.{Slot}
use Rattle.lps_goaltrees.specs.Pursued.{Pursued, closing_of}
use Rattle.lps_goaltrees.specs.Slots.{closing_at}
use Rattle.lps_goaltrees.proofs.Closing.{closes}
use Rattle.lps_goaltrees.proofs.Closings.{exact_closings}
use Rattle.lps_goaltrees.proofs.goals.Goals.close.Goals as goal

pub returns-clause-closes : goal.returns-clause-closes
returns-clause-closes c =
    let slots = c.self.inside.slots.items in
    let closed = c.in_ok-closed.closed.items in
    let are : closed ≡ filter_map (closing_at slots) c.self.inside.changed.keys =
    c.in_ok-closed.ensures.closed ∙ ap (λ (ss : List Slot). filter_map (closing_at ss) c.self.inside.changed.keys) c.as_slice.ensures.value in
    let exact : (p : GoalId × Closed) → Contains closed p ↔ ((g : Goal) × Contains c.args.self.now.pursuit.goals g × (closing_of g ≡ Some p)) =
    λ p. subst (λ ps. Contains ps p ↔ ((g : Goal) × Contains c.args.self.now.pursuit.goals g × (closing_of g ≡ Some p))) (sym are)
    (subst (λ (gs : List Goal). Contains (filter_map (closing_at slots) c.self.inside.changed.keys) p ↔ ((g : Goal) × Contains gs g × (closing_of g ≡ Some p)))
    (ap (λ (p : Pursued). p.pursuit.goals) c.self.view_is) (exact_closings slots c.self.invariant.0 p)) in
    closes c.status_law.ensures.stays c.args.self.now.pursuit c.keep_pending.new.self.pursuit closed c.keep_pending.ensures.goals c.keep_pending.ensures.next c.in_ok-closed.ensures.sorted exact

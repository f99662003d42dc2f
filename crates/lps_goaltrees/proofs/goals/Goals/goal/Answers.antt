use Rattle.std.proofs.Common.{◌≡◌, ◌∙◌, ap, List}
use Rattle.std.specs.Option.{option_copied}
use Rattle.lps_goaltrees.specs.declared.slot.Slot.{Slot}
use Rattle.lps_goaltrees.specs.declared.slot.Which.TheVariants.{Now}
use Rattle.lps_goaltrees.specs.Pursued.{Pursued}
use Rattle.lps_goaltrees.specs.Slots.{version_at}
use Rattle.lps_goaltrees.proofs.Putting.{goal_found}
use Rattle.lps_goaltrees.proofs.goals.Goals.goal.Goals as goal

pub returns : goal.returns
returns c =
    let slots = c.self.inside.slots.items in
    let is : option_copied c.goal_at.result ≡ version_at Now slots c.args.goal.0 = c.goal_at.ensures ∙ ap (λ (ss : List Slot). version_at Now ss c.args.goal.0) c.as_slice.ensures.value in
    goal_found slots c.self.invariant.0 c.args.goal c.args.self.now.pursuit.goals (ap (λ (p : Pursued). p.pursuit.goals) c.self.view_is) c.goal_at.result is

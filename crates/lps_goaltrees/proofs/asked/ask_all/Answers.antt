use Rattle.std.proofs.Common.{◌≡◌, ◌∙◌, ap, sym, refl}
use Rattle.std.specs.Prelude.{Some}
use Rattle.std.specs.Option.{option_copied}
use Rattle.lps_meaning.proofs.Lists.{of_element}
use Rattle.lps_goaltrees.specs.declared.asked.Asked.{Asked}
use Rattle.lps_goaltrees.specs.declared.slot.Slot.{Slot}
use Rattle.lps_goaltrees.specs.declared.slot.Which.TheVariants.{Now}
use Rattle.lps_goaltrees.specs.Offers.{IsAskedOf}
use Rattle.lps_goaltrees.specs.Pursued.{IsReadyGoal}
use Rattle.lps_goaltrees.specs.Slots.{goals_of, version}
use Rattle.lps_goaltrees.proofs.Lists.{element_at, to_chosen, zip_chosen, zip_passed}
use Rattle.lps_goaltrees.proofs.asked.ask_all.Goals as goal
use Rattle.lps_goaltrees.proofs.asked.ask_all.Goals.{in-Some+in_ok-proposals+in_ok-push, in_default}

pub proposals-requires : goal.proposals-requires
proposals-requires c =
    let slot : Slot = c.slot-item.result in
    let now : version Now slot.versions ≡ Some c.in-Some.goal.now = sym c.get.ensures ∙ ap option_copied c.in-Some.is in
    let there = to_chosen (λ (s : Slot). version Now s.versions) c.args.slots.now slot c.in-Some.goal.now (element_at c.args.slots.now c.loop-slot.slot-index slot c.loop-slot-test.true c.slot-item.is) now in
    record { ready = (of_element (IsReadyGoal c.args.text.now) (goals_of Now c.args.slots.now) c.in-Some.goal.now c.requires.ready there).nodes }

pub loop-slot-preserved : goal.loop-slot-preserved
loop-slot-preserved c =
    let slot : Slot = c.slot-item.result in
    let R = IsAskedOf c.args.text.now c.args.time in
    let now : version Now slot.versions ≡ option_copied c.get.result = sym c.get.ensures in
    elim c.match-get.branch [
      | in-Some+in_ok-proposals+in_ok-push b ↦
          let one : Asked = record { goal = b.in-Some.goal.now.goal; proposals = b.in_ok-proposals.field-0 } in
          let more = zip_chosen (λ (s : Slot). version Now s.versions) R c.args.slots.now c.loop-slot.slot-index slot b.in-Some.goal.now c.loop-slot.asked.items one c.loop-slot-test.true c.slot-item.is
          (now ∙ ap option_copied b.in-Some.is) c.loop-slot.invariant (record { number = refl; proposed = b.in_ok-proposals.ensures }) in
          rw b.asked-is (rw b.in_ok-push.ensures.items more)
      | in_default b ↦
          let same = zip_passed (λ (s : Slot). version Now s.versions) R c.args.slots.now c.loop-slot.slot-index slot c.loop-slot.asked.items c.loop-slot-test.true c.slot-item.is (now ∙ ap option_copied b.in_default.is) c.loop-slot.invariant in
          rw b.asked-is same
    ]

use Rattle.std.proofs.Common.{◌∙◌, ap, sym}
use Rattle.lps_goaltrees.specs.declared.slot.Slot.{Slot}
use Rattle.lps_goaltrees.specs.Slots.{version}
use Rattle.lps_goaltrees.proofs.Places.{no_version, version_there}
use Rattle.lps_goaltrees.proofs.slots.goal_at.Goals as goal

pub returns-in-Some : goal.returns-in-Some
returns-in-Some c =
    let slot : Slot = c.index-slots-place.result in
    let same = ap (λ (s : Slot). s.number) c.index-slots-place.is ∙ c.in-Some.ensures.1 slot in
    c.get.ensures ∙ ap (λ (s : Slot). version c.args.which s.versions) (sym c.index-slots-place.is) ∙ sym (version_there c.args.which c.args.slots.now c.requires.rising c.args.number c.in-Some.place slot c.in-Some.ensures.0 c.index-slots-place.is same)

pub returns-in-None : goal.returns-in-None
returns-in-None c = sym (no_version c.args.which c.args.slots.now c.args.number c.in-None.ensures)

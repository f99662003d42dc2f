use Rattle.std.proofs.Common.{◌≡◌, ◌∙◌, ◌<◌, List, arith, length, get_or, slice_set, ap}
use Rattle.lps_antecedents.specs.declared.slot.Slot.{Slot}
use Rattle.lps_antecedents.specs.Slots.{switched}
use Rattle.lps_antecedents.proofs.Parts.{part_all, part_item, part_set}
use Rattle.lps_antecedents.proofs.slot.switch.Goals as goal

pub loop-place-preserved : goal.loop-place-preserved
loop-place-preserved c =
    let old = c.args.slots.now.items in
    let place = c.loop-place.place in
    let item : Slot = c.index_mut-slot.result.now in
    let lt : place < length old = omega arith in
    let is : item ≡ get_or old place item = c.index_mut-slot.ensures.value ∙ ap (λ (xs : List Slot). get_or xs place item) c.loop-place.invariant ∙ part_item (switched c.args.on) place old item in
    ap (λ (xs : List Slot). slice_set xs place (switched c.args.on item)) c.loop-place.invariant ∙ part_set (switched c.args.on) place old (switched c.args.on item) item lt (ap (switched c.args.on) is)

pub returns : goal.returns
returns c = c.loop-place.invariant ∙ part_all (switched c.args.on) c.loop-place.place c.args.slots.now.items (omega arith)

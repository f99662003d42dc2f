use Rattle.std.proofs.Common.{◌≡◌, ◌∙◌, get_or, length, ◌<◌, List, set, ap, sym, subst}
use Rattle.std.specs.Prelude.{Contains}
use Rattle.lps_goaltrees.specs.declared.slot.Slot.{Slot}
use Rattle.lps_goaltrees.proofs.Places.{changed_slot, none_there, set_is}
use Rattle.lps_goaltrees.proofs.slots.change_at.Goals as goal

pub returns-in-Some : goal.returns-in-Some
returns-in-Some c =
    let slots = c.args.slots.now.items in
    let place = c.in-Some.place in
    let slot : Slot = c.index_mut.result.now in
    let found : (place < length slots) × ((d : Slot) → (get_or slots place d).number ≡ c.args.number) = rw (← c.as_slice.ensures.value) c.in-Some.ensures in
    let same = ap (λ (s : Slot). s.number) c.index_mut.ensures.value ∙ found.1 slot in
    let changed : c.change.new.self ≡ changed_slot c.args.change slot = λ i. record { number = c.change.ensures.number i; versions = c.change.ensures.versions i; dropped = c.change.ensures.dropped i } in
    ap (set slots place) changed ∙ set_is c.args.change slots c.requires.rising c.args.number place slot found.0 c.index_mut.ensures.value same

pub returns-in_default : goal.returns-in_default
returns-in_default c =
    sym (none_there c.args.change c.args.number c.args.slots.now.items (λ slot there. c.in_default.ensures slot (subst (λ (slots : List Slot). Contains slots slot) (sym c.as_slice.ensures.value) there)))

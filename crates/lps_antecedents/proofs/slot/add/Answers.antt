use Rattle.std.proofs.Common.{◌≡◌, ◌∙◌, List, map, slice_set, ap, subst, sym}
use Rattle.std.specs.Prelude.{Contains, Some, slice_get}
use Rattle.lps_antecedents.specs.declared.held.Held.{Held}
use Rattle.lps_antecedents.specs.declared.slot.Slot.{Slot}
use Rattle.lps_antecedents.specs.Slots.{IsAdded, IsHeldAt, held_of}
use Rattle.lps_antecedents.proofs.Slots.{got, on, pushed, switched_on}
use Rattle.lps_antecedents.proofs.slot.add.Goals as goal

pub returns-in-Some-clause-added : goal.returns-in-Some-clause-added
returns-in-Some-clause-added c =
    let old = c.args.slots.now.items in
    let place = c.in-Some.place in
    let item : Slot = c.index_mut.result.now in
    let found : IsHeldAt old place c.args.held = subst (λ (xs : List Slot). IsHeldAt xs place c.args.held) c.as_slice.ensures.value c.in-Some.ensures in
    let same : item ≡ found.0 = c.index_mut.ensures.value ∙ got old place found.0 item found.1 in
    let at : slice_get old place ≡ Some item = found.1 ∙ ap (λ (s : Slot). Some s) (sym same) in
    subst (λ (h : Held). IsAdded h old (slice_set old place (on item))) (ap held_of same ∙ found.2) (switched_on old place item at)

pub returns-in_ok-push-in-None-clause-added : goal.returns-in_ok-push-in-None-clause-added
returns-in_ok-push-in-None-clause-added c =
    let old = c.args.slots.now.items in
    subst (IsAdded c.args.held old) (sym c.in_ok-push-in-None.ensures.items)
    (pushed old c.args.held (λ there. c.in-None.ensures (subst (λ (xs : List Slot). Contains (map held_of xs) c.args.held) (sym c.as_slice.ensures.value) there)))

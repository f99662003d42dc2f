use Rattle.std.proofs.Common.{rules, sym, subst, ◌≡◌, ◌<◌, length}
use Rattle.std.specs.Prelude.{Contains, MatchOption, Option, ℕ}
use Rattle.std.specs.List.{HoldsAt}
use Rattle.std.proofs.lemmas.List.Sorted.{answers_always}
use Rattle.lps_goaltrees.specs.declared.slot.Slot.{Slot}
use Rattle.lps_goaltrees.proofs.Places.{found_place}
use Rattle.lps_goaltrees.proofs.slots.place_of.Goals as goal

pub returns : goal.returns
returns c =
    let slots = c.args.slots.now in
    let number = c.args.number in
    let facts = c.binary_search_by_key.ensures in
    let by_key = facts.position (λ (slot : Slot). slot.number) (answers_always _ _ _ (λ f a r g called. search rules)) in
    subst (λ (found : Option ℕ). MatchOption found ((slot : Slot) → Contains slots slot → slot.number ≡ number → ⊥) (λ place. (place < length slots) × HoldsAt (λ slot. slot.number ≡ number) slots place)) (sym c.ok.ensures.value)
    (found_place slots c.requires.rising number c.binary_search_by_key.result facts.bound by_key)

use Rattle.std.proofs.Common.{[], List, sym, subst}
use Rattle.lps_model.proofs.Elements.{nothing_contained}
use Rattle.lps_goaltrees.specs.declared.slot.Slot.{Slot}
use Rattle.lps_goaltrees.specs.declared.slot.Which.TheVariants.{Now}
use Rattle.lps_goaltrees.specs.Followed.{Pursues}
use Rattle.lps_goaltrees.specs.Slots.{goals_of}
use Rattle.lps_goaltrees.proofs.Pursuing.{pursues_none}
use Rattle.lps_goaltrees.proofs.Putting.{stored_none}
use Rattle.lps_goaltrees.proofs.goals.Goals.new.Goals as goal

pub invariant_of-result : goal.invariant_of-result
invariant_of-result c = rw (c.new.ensures.items, c.new-3.ensures.empty) (stored_none 1 1 c.new-2.result, λ settled slot there. absurd (nothing_contained slot there))

pub returns-clause-pursues : goal.returns-clause-pursues
returns-clause-pursues c = λ text level trace depth.
    subst (λ (slots : List Slot). Pursues text level trace depth 0 [] (record { goals = goals_of Now slots; next = 1 })) (sym c.new.ensures.items) (pursues_none text level trace depth)

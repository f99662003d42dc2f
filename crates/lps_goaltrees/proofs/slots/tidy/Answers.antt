use Rattle.std.proofs.Common.{◌∙◌, ap, sym, subst}
use Rattle.std.specs.Ordering.{nat_cmp, on}
use Rattle.std.proofs.lemmas.List.Kept.{IsStrictlySortedBy-filter}
use Rattle.lps_goaltrees.specs.declared.slot.Slot.{Slot}
use Rattle.lps_goaltrees.specs.Slots.{IsStored, goals_of, is_used}
use Rattle.lps_goaltrees.proofs.Settling.{swept, swept_goals}
use Rattle.lps_goaltrees.proofs.slots.tidy.Goals as goal

pub returns-clause-goals : goal.returns-clause-goals
returns-clause-goals c = λ which. ap (goals_of which) c.sweep.ensures ∙ swept_goals which c.clean_all.new.slots.items ∙ c.clean_all.ensures.goals which

pub returns-clause-stored : goal.returns-clause-stored
returns-clause-stored c = λ which limit next noted was.
    let slots = c.clean_all.new.slots.items in
    let now = c.clean_all.ensures.stored which limit next noted was in
    subst (IsStored which limit next c.clean_all.new.table noted) (sym c.sweep.ensures)
    (swept slots which limit next c.clean_all.new.table noted (IsStrictlySortedBy-filter (on (λ (s : Slot). s.number) nat_cmp) is_used slots now.rising) now)

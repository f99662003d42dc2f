use Rattle.std.proofs.Common.{◌≡◌, ◌∙◌, [], sym, ap, subst}
use Rattle.std.specs.List.{filter}
use Rattle.std.specs.Ordering.{nat_cmp, on}
use Rattle.std.proofs.lemmas.List.Kept.{IsStrictlySortedBy-filter}
use Rattle.lps_goaltrees.specs.declared.slot.Slot.{Slot}
use Rattle.lps_goaltrees.specs.declared.slot.Which.TheVariants.{Before, Now}
use Rattle.lps_goaltrees.specs.Pursued.{AreReadyGoals, Pursued}
use Rattle.lps_goaltrees.specs.Slots.{IsStored, goals_of, is_used}
use Rattle.lps_goaltrees.proofs.Lists.{of_filtered}
use Rattle.lps_goaltrees.proofs.Putting.{below_limit, pending_unchanged}
use Rattle.lps_goaltrees.proofs.Settling.{all_same, one_version, swept, swept_goals}
use Rattle.lps_goaltrees.proofs.goals.Goals.undo.Goals as goal
use Rattle.lps_goaltrees.proofs.goals.Goals.undo.Goals.{After-self-3-1}

-- nothing has changed, the goals before are kept, and all are below the next of before
kept : (c : After-self-3-1) → IsStored Before c.self.inside.before c.self.inside.before c.tidy-self-inside.new.table [] c.sweep.new.slots.items
kept c =
    let inside = c.self.inside in
    let table = c.tidy-self-inside.new.table in
    let slots = c.tidy-self-inside.new.slots.items in
    let tidied = c.tidy-self-inside.ensures.stored Before inside.before inside.next [] (c.settle_all.ensures.stored inside.before inside.next inside.table c.self.invariant.0) in
    let left = swept slots Before inside.before inside.next table [] (IsStrictlySortedBy-filter (on (λ (s : Slot). s.number) nat_cmp) is_used slots tidied.rising) tidied in
    rw c.sweep.ensures (below_limit (filter is_used slots) (λ slot there. (of_filtered is_used slots slot there).1) left)

before_goals : (c : After-self-3-1) → goals_of Before c.sweep.new.slots.items ≡ c.args.self.now.before.goals
before_goals c = ap (goals_of Before) c.sweep.ensures ∙ swept_goals Before c.tidy-self-inside.new.slots.items ∙ c.tidy-self-inside.ensures.goals Before ∙ c.settle_all.ensures.goals ∙ ap (λ (p : Pursued). p.before.goals) c.self.view_is

now_goals : (c : After-self-3-1) → goals_of Now c.sweep.new.slots.items ≡ c.args.self.now.before.goals
now_goals c = one_version c.sweep.new.slots.items (all_same (kept c)) Now Before ∙ before_goals c

pub invariant_of-self : goal.invariant_of-self
invariant_of-self c = rw c.clear.ensures.empty (kept c, λ settled. pending_unchanged Before c.sweep.new.slots.items (kept c))

pub returns-clause-back : goal.returns-clause-back
returns-clause-back c = λ i. record { goals = now_goals c i; next = ap (λ (p : Pursued). p.before.next) c.self.view_is i }

pub returns-clause-ready : goal.returns-clause-ready
returns-clause-ready c = λ text ready. (subst (AreReadyGoals text) (sym (now_goals c)) ready.1, subst (AreReadyGoals text) (sym (before_goals c)) ready.1)

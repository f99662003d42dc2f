use Rattle.std.proofs.Common.{rules, ◌≡◌, ◌∙◌, [], ◌∷◌, List, length, map, refl, ap, sym, arith}
use Rattle.lps_goaltrees.specs.declared.goal.Goal.{Goal}
use Rattle.lps_goaltrees.specs.declared.slot.Change.TheVariants as act
use Rattle.lps_goaltrees.specs.Slots.{changed_at, with_goals}
use Rattle.lps_goaltrees.proofs.Places.{rising_mapped, same_number}
use Rattle.lps_goaltrees.proofs.Putting.{put_first, put_none}
use Rattle.lps_goaltrees.proofs.slots.put_all.Goals as goal

pub loop-goal-preserved : goal.loop-goal-preserved
loop-goal-preserved c =
    let goal : Goal = c.in-Some.goal in
    let slots = c.loop-goal.slots.items in
    let next : c.loop-goal.goal-iterator.rest.items ≡ goal ∷ c.next.new.self.rest.items = search rules in
    rw c.change_at.ensures (record {
      rising = rising_mapped (changed_at (act.Put goal) goal.goal.0) (same_number (act.Put goal) goal.goal.0) slots c.loop-goal.invariant.rising;
      all = sym (put_first goal c.next.new.self.rest.items slots) ∙ ap (λ (gs : List Goal). map (with_goals gs) slots) (sym next) ∙ c.loop-goal.invariant.all;
    })

pub returns-clause-put : goal.returns-clause-put
returns-clause-put c =
    let none : length c.loop-goal.goal-iterator.rest.items ≡ 0 = search rules in
    sym (put_none c.loop-goal.slots.items) ∙ ap (λ (gs : List Goal). map (with_goals gs) c.loop-goal.slots.items) (sym (no_goals c.loop-goal.goal-iterator.rest.items none)) ∙ c.loop-goal.invariant.all
  where
    no_goals : (goals : List Goal) → length goals ≡ 0 → goals ≡ []
    no_goals [] none = refl
    no_goals (goal ∷ goals) none = absurd (omega (arith, none))

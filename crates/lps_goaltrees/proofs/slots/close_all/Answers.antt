use Rattle.std.proofs.Common.{◌∙◌, refl, sym, subst}
use Rattle.lps_goaltrees.specs.declared.slot.Change.TheVariants as act
use Rattle.lps_goaltrees.specs.Slots.{changed_at}
use Rattle.lps_goaltrees.proofs.Places.{rising_mapped, same_number}
use Rattle.lps_goaltrees.proofs.Settling.{AreClosedBut, all_pending, closed, closed_before_goals, closed_but, closed_but_noted, closed_goals}
use Rattle.lps_goaltrees.proofs.slots.close_all.Goals as goal

pub loop-number-init : goal.loop-number-init
loop-number-init c =
    let all = c.into_iter-number-iterator.ensures.into_iter_gives ∙ c.iter-number-items.ensures.rest in
    let slots = c.args.slots.now.items in
    record { rising = c.requires.rising; goals = refl; before = refl; stored = λ limit next table was. (was, subst (λ left. AreClosedBut left slots) (sym all) (closed_but_noted slots was)) }

pub loop-number-preserved : goal.loop-number-preserved
loop-number-preserved c =
    let slots = c.loop-number.slots.items in
    let number = c.in-Some.number.now in
    let was = c.loop-number.invariant in
    rw c.change_at.ensures (record {
      rising = rising_mapped (changed_at act.Close number) (same_number act.Close number) slots was.rising;
      goals = closed_goals number slots ∙ was.goals;
      before = closed_before_goals number slots ∙ was.before;
      stored = λ limit next table first.
          let s = was.stored limit next table first in (
            closed limit next table c.args.changed.now.keys number c.next.new.self slots s.0,
            closed_but limit next table c.args.changed.now.keys number c.next.new.self slots s.0 (subst (λ left. AreClosedBut left slots) c.in-Some.ensures.steps s.1),
          );
    })

pub returns-clause-stored : goal.returns-clause-stored
returns-clause-stored c = λ limit next table first.
    let slots = c.loop-number.slots.items in
    let s = c.loop-number.invariant.stored limit next table first in
    (s.0, all_pending slots (subst (λ left. AreClosedBut left slots) c.in-None.ensures.steps.0 s.1))

use Rattle.std.proofs.Common.{◌∙◌, refl, sym, subst}
use Rattle.lps_goaltrees.specs.declared.slot.Change.TheVariants as act
use Rattle.lps_goaltrees.specs.Slots.{IsStored, changed_at}
use Rattle.lps_goaltrees.proofs.Places.{rising_mapped, same_number}
use Rattle.lps_goaltrees.proofs.Settling.{settled, settled_found, settled_goals}
use Rattle.lps_goaltrees.proofs.slots.settle_all.Goals as goal

pub loop-number-init : goal.loop-number-init
loop-number-init c =
    let all = c.into_iter-number-iterator.ensures.into_iter_gives ∙ c.iter-number-items.ensures.rest in
    record { rising = c.requires.rising; goals = refl; found = λ number. refl; stored = λ limit next table was. subst (λ left. IsStored c.args.which limit next table left c.args.slots.now.items) (sym all) was }

pub loop-number-preserved : goal.loop-number-preserved
loop-number-preserved c =
    let slots = c.loop-number.slots.items in
    let number = c.in-Some.number.now in
    let was = c.loop-number.invariant in
    rw c.change_at.ensures (record {
      rising = rising_mapped (changed_at (act.Settle c.args.which) number) (same_number (act.Settle c.args.which) number) slots was.rising;
      goals = settled_goals c.args.which number slots ∙ was.goals;
      found = λ n. settled_found c.args.which number slots n ∙ was.found n;
      stored = λ limit next table first.
          settled c.args.which limit next table number c.next.new.self slots (subst (λ left. IsStored c.args.which limit next table left slots) c.in-Some.ensures.steps (was.stored limit next table first));
    })

pub returns-clause-stored : goal.returns-clause-stored
returns-clause-stored c = λ limit next table first.
    subst (λ left. IsStored c.args.which limit next table left c.loop-number.slots.items) c.in-None.ensures.steps.0 (c.loop-number.invariant.stored limit next table first)

use Rattle.std.proofs.Common.{◌∙◌}
use Rattle.lps_goaltrees.specs.declared.slot.Change.TheVariants as act
use Rattle.lps_goaltrees.specs.Slots.{changed_at}
use Rattle.lps_goaltrees.proofs.Places.{rising_mapped, same_number}
use Rattle.lps_goaltrees.proofs.Settling.{cleaned, cleaned_goals}
use Rattle.lps_goaltrees.proofs.slots.clean_all.Goals as goal

pub loop-number-preserved : goal.loop-number-preserved
loop-number-preserved c =
    let slots = c.loop-number.slots.items in
    let number = c.in-Some.number.now in
    let was = c.loop-number.invariant in
    rw c.clean_at.ensures.slots (record {
      rising = rising_mapped (changed_at act.Clean number) (same_number act.Clean number) slots was.rising;
      goals = λ which. cleaned_goals number slots which ∙ was.goals which;
      stored = λ which limit next noted first.
          cleaned number slots c.loop-number.table c.clean_at.new.table c.clean_at.ensures.table which limit next noted (was.stored which limit next noted first);
    })

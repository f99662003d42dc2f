use Rattle.std.proofs.Common.{◌∙◌, ◌++◌, ap, sym, subst}
use Rattle.std.specs.List.{filter_map}
use Rattle.std.specs.List.Sorted.{IsStrictlySortedBy}
use Rattle.std.specs.Ordering.{nat_cmp, on}
use Rattle.lps_meaning.specs.declared.goal.Closed.{Closed}
use Rattle.lps_meaning.specs.declared.goal.GoalId.{GoalId}
use Rattle.lps_goaltrees.specs.Slots.{closing_at}
use Rattle.lps_goaltrees.proofs.Closings.{closings_rise}
use Rattle.lps_goaltrees.proofs.Settling.{append_none}
use Rattle.lps_goaltrees.proofs.slots.closings.Goals as goal

pub returns-clause-sorted : goal.returns-clause-sorted
returns-clause-sorted c =
    let all = sym (append_none c.loop-number.closed.items) ∙ ap (λ left. c.loop-number.closed.items ++ filter_map (closing_at c.args.slots.now) left) (sym c.in-None.ensures.steps.0) ∙ c.loop-number.invariant in
    subst (IsStrictlySortedBy (on (λ (p : GoalId × Closed). p.0.0) nat_cmp)) (sym all) (closings_rise c.args.slots.now c.args.changed.now.keys c.iter-number-items.ensures.ordered)

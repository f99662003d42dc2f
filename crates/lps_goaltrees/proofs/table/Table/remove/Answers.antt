use Rattle.std.proofs.Common.{subst}
use Rattle.lps_residual.specs.declared.waking.Wake.{Wake}
use Rattle.lps_goaltrees.specs.Slots.{IsListed}
use Rattle.lps_goaltrees.proofs.table.Table.remove.Goals as goal

pub returns-then-not-remove_goal : goal.returns-then-not-remove_goal
returns-then-not-remove_goal c = λ w n was apart.
    let listed = c.remove_goal.ensures.rest w n was.listed apart in
    record {
      watched = (c.remove.ensures w).1 (was.watched, λ same. c.remove_goal.ensures.none c.if-not-remove_goal.true n (subst (λ (x : Wake). IsListed c.remove_goal.new.goals x n) same listed));
      listed = listed;
    }

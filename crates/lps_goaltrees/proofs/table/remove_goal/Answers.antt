use Rattle.std.proofs.Common.{refl, sym, subst}
use Rattle.std.specs.Prelude.{None}
use Rattle.lps_residual.specs.declared.waking.Wake.{Wake}
use Rattle.lps_goaltrees.specs.Slots.{IsListed}
use Rattle.lps_goaltrees.proofs.Listed.{listed_after, none_here}
use Rattle.lps_goaltrees.proofs.table.remove_goal.Goals as goal

pub returns-clause-rest : goal.returns-clause-rest
returns-clause-rest c = λ w n was apart.
    let left = c.take_goal.ensures w n was apart in
    listed_after c.args.wake.now None c.take_goal.new.goals c.remove.new.self c.remove.ensures.updates.0 w n left
    (λ same. absurd (c.has_goals.ensures c.if-has_goals.false n (subst (λ (x : Wake). IsListed c.take_goal.new.goals x n) (sym same) left)))

pub returns-clause-none : goal.returns-clause-none
returns-clause-none c = λ none n. none_here c.args.wake.now None c.take_goal.new.goals c.remove.new.self c.remove.ensures.updates.0 refl n

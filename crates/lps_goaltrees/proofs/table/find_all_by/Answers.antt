use Rattle.std.proofs.Common.{List, sym, subst, inl, inr}
use Rattle.std.specs.Prelude.{Contains}
use Rattle.lps_goaltrees.specs.declared.goal.Goal.{Goal}
use Rattle.lps_goaltrees.specs.Slots.{IsGoalOf}
use Rattle.lps_goaltrees.proofs.Lists.{all_taken, taken_next}
use Rattle.lps_goaltrees.proofs.Putting.{still_found}
use Rattle.lps_goaltrees.proofs.table.find_all_by.Goals as goal

pub returns-in_err-find_by-clause-others : goal.returns-in_err-find_by-clause-others
returns-in_err-find_by-clause-others c = λ w n was. c.find_by.ensures.others w n (c.loop-goal.invariant.others w n was)

pub loop-goal-preserved : goal.loop-goal-preserved
loop-goal-preserved c =
    let more = c.in_ok-find_by.ensures in
    record {
      found = λ g among. elim (taken_next c.args.goals.now c.loop-goal.goal-index c.goal-item.result c.loop-goal-test.true c.goal-item.is g among) [
        | inl before ↦ still_found c.loop-goal.table c.find_by.new.table more.others g.goal.0 g (c.loop-goal.invariant.found g before)
        | inr e ↦ subst (λ (x : Goal). IsGoalOf c.find_by.new.table x.goal.0 x) (sym e) more.found
      ];
      others = λ w n was. more.others w n (c.loop-goal.invariant.others w n was);
    }

pub returns-clause-found : goal.returns-clause-found
returns-clause-found c = λ g among. c.loop-goal.invariant.found g (subst (λ (gs : List Goal). Contains gs g) (sym (all_taken c.args.goals.now c.loop-goal.goal-index c.loop-goal-test.false)) among)

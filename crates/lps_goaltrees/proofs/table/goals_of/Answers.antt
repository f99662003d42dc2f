use Rattle.std.proofs.Common.{sym, subst, arith, inl, inr, List}
use Rattle.std.specs.Prelude.{Contains}
use Rattle.lps_residual.specs.declared.waking.Wake.{Wake}
use Rattle.lps_goaltrees.specs.Slots.{IsListed}
use Rattle.lps_goaltrees.proofs.Lists.{all_taken, taken_next}
use Rattle.lps_goaltrees.proofs.table.goals_of.Goals as goal

pub loop-wake-preserved : goal.loop-wake-preserved
loop-wake-preserved c = λ w n among listed. elim (taken_next c.args.wakes.now c.loop-wake.wake-index c.wake-item.result c.loop-wake-test.true c.wake-item.is w among) [
  | inl before ↦ c.in_ok-add_goals.ensures.more n (c.loop-wake.invariant w n before listed)
  | inr e ↦ c.in_ok-add_goals.ensures.added n (subst (λ (x : Wake). IsListed c.args.goals.now x n) e listed)
]

pub returns : goal.returns
returns c = λ w n among listed. c.loop-wake.invariant w n (subst (λ (ws : List Wake). Contains ws w) (sym (all_taken c.args.wakes.now c.loop-wake.wake-index (omega arith))) among) listed

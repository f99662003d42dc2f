use Rattle.std.proofs.Common.{ℕ, take}
use Rattle.std.specs.Prelude.{Contains}
use Rattle.lps_residual.specs.declared.waking.Wake.{Wake}
use Rattle.lps_goaltrees.specs.declared.goal.Goal.{Goal}
use Rattle.lps_goaltrees.specs.Slots.{IsGoalOf, IsWoken}
use Rattle.lps_goaltrees.proofs.table.find_all_by.Given as goal

-- the first goals are found
abbrev pub invariant-loop-goal : goal.invariant-loop-goal
invariant-loop-goal l = record {
  found : (g : Goal) → Contains (take l.goal-index l.goals) g → IsGoalOf l.table g.goal.0 g;
  others : (w : Wake) (n : ℕ) → IsWoken l.fn.table w n → IsWoken l.table w n;
}

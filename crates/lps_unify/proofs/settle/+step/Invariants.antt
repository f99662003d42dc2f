use Rattle.std.proofs.Common.{◌+◌, ◌*◌, sum_by, take}
use Rattle.lps_unify.specs.Weights.{size}
use Rattle.lps_unify.specs.Bindings.{standing}
use Rattle.lps_unify.specs.Unified.{AreSame, IsSameAll}
use Rattle.lps_unify.proofs.settle.+step.Given as goal

abbrev pub decreases-next_step : goal.decreases-next_step
decreases-next_step l = 3 * (size (standing l.bindings.now).rank l.a.now + size (standing l.bindings.now).rank l.b.now) + 2

abbrev pub decreases-step_of_all : goal.decreases-step_of_all
decreases-step_of_all l = 3 * (sum_by (size (standing l.bindings.now).rank) l.xs.now + sum_by (size (standing l.bindings.now).rank) l.ys.now) + 3

abbrev pub decreases-step_of_variable : goal.decreases-step_of_variable
decreases-step_of_variable l = 3 * ((standing l.bindings.now).rank l.v + size (standing l.bindings.now).rank l.b.now) + 1

abbrev pub decreases-step_of_bound : goal.decreases-step_of_bound
decreases-step_of_bound l = 3 * ((standing l.bindings.now).rank l.v + size (standing l.bindings.now).rank l.b.now)

abbrev pub decreases-step_of_free : goal.decreases-step_of_free
decreases-step_of_free l = 3 * ((standing l.bindings.now).rank l.v + size (standing l.bindings.now).rank l.b.now)

-- the items so far are the same
abbrev pub invariant-step_of_all-loop-i : goal.invariant-step_of_all-loop-i
invariant-step_of_all-loop-i l = record {
  so_far : IsSameAll l.bindings (take l.i l.xs) (take l.i l.ys);
  same : AreSame l.bindings l.same;
}

use Rattle.std.proofs.Common.{◌≡◌, map}
use Rattle.lps_goaltrees.specs.Slots.{AreRising, with_goals}
use Rattle.lps_goaltrees.proofs.slots.put_all.Given as goal

-- with the goals that are left put in their places, all are
abbrev pub invariant-loop-goal : goal.invariant-loop-goal
invariant-loop-goal l = record {
  rising : AreRising l.slots.items;
  all : map (with_goals l.goal-iterator.rest.items) l.slots.items ≡ map (with_goals l.fn.goals.items) l.fn.slots.items;
}

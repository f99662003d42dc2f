use Rattle.std.proofs.Common.{Contains, map, drop}
use Rattle.lps_choice.proofs.check.has_goal.Given as goal

-- a goal that is one of them is one of those left
abbrev pub invariant-loop-other : goal.invariant-loop-other
invariant-loop-other l = Contains (map (λ goal. goal.0) l.goals) l.goal → Contains (drop l.other-index (map (λ goal. goal.0) l.goals)) l.goal

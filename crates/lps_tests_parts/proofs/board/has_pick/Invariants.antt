use Rattle.std.proofs.Common.{Contains, drop}
use Rattle.lps_choice.specs.Choices.{goals_of}
use Rattle.lps_tests_parts.proofs.board.has_pick.Given as goal

-- a goal that is one of theirs is one of those left
abbrev pub invariant-loop-pick : goal.invariant-loop-pick
invariant-loop-pick l = Contains (goals_of l.picks) l.goal → Contains (drop l.pick-index (goals_of l.picks)) l.goal

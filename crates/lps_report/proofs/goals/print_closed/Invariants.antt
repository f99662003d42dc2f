use Rattle.std.proofs.Common.{◌≡◌, ◌++◌, drop}
use Rattle.std.specs.List.{flat_map}
use Rattle.lps_meaning.specs.Reports.{closed_line}
use Rattle.lps_report.proofs.goals.print_closed.Given as goal

-- what is printed, and the lines of what is left
abbrev pub invariant-loop-goal : goal.invariant-loop-goal
invariant-loop-goal l = l.out.items ++ flat_map closed_line (drop l.goal-index l.closed) ≡ l.fn.out.items ++ flat_map closed_line l.closed

use Rattle.std.proofs.Common.{◌≡◌, ◌++◌, drop}
use Rattle.std.specs.List.{flat_map}
use Rattle.lps_meaning.specs.Reports.{goal_line}
use Rattle.lps_report.proofs.goals.print_created.Given as goal

-- what is printed, and the lines of what is left
abbrev pub invariant-loop-new : goal.invariant-loop-new
invariant-loop-new l = l.out.items ++ flat_map goal_line (drop l.new-index l.created) ≡ l.fn.out.items ++ flat_map goal_line l.created

use Rattle.std.proofs.Common.{◌≡◌, ◌++◌, drop}
use Rattle.std.specs.List.{flat_map}
use Rattle.lps_meaning.specs.Reports.{pick_line}
use Rattle.lps_report.proofs.picks.print_picks.Given as goal

-- what is printed, and the lines of what is left
abbrev pub invariant-loop-pick : goal.invariant-loop-pick
invariant-loop-pick l = l.out.items ++ flat_map pick_line (drop l.pick-index l.picks) ≡ l.fn.out.items ++ flat_map pick_line l.picks

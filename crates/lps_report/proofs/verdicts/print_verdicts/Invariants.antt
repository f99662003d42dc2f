use Rattle.std.proofs.Common.{◌≡◌, ◌++◌, drop}
use Rattle.lps_model.specs.Report.{verdict_lines}
use Rattle.lps_report.proofs.verdicts.print_verdicts.Given as goal

-- what is written, and the lines of what is left
abbrev pub invariant-loop-i : goal.invariant-loop-i
invariant-loop-i l = l.out.items ++ verdict_lines (drop l.i l.events) (drop l.i l.verdicts) ≡ l.fn.out.items ++ verdict_lines l.events l.verdicts

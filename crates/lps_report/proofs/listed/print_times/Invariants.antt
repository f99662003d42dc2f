use Rattle.std.proofs.Common.{◌≡◌, ◌++◌, drop, map}
use Rattle.std.specs.Prelude.{codes}
use Rattle.std.specs.Fmt.{decimal}
use Rattle.lps_report.specs.Listed.{led_from}
use Rattle.lps_report.proofs.listed.print_times.Given as goal

-- what is printed, and the texts of what is left
abbrev pub invariant-loop-time : goal.invariant-loop-time
invariant-loop-time l = l.out.items ++ led_from (codes " with ") l.later (map decimal (drop l.time-index l.times)) ≡ l.fn.out.items ++ led_from (codes " with ") l.fn.later (map decimal l.times)

use Rattle.std.proofs.Common.{◌≡◌, ◌++◌, drop, map}
use Rattle.std.specs.Prelude.{codes, false}
use Rattle.lps_terms.specs.Printed.{printed}
use Rattle.lps_report.specs.Listed.{led_from}
use Rattle.lps_report.proofs.listed.print_terms.Given as goal

-- what is printed, and the texts of what is left
abbrev pub invariant-loop-term : goal.invariant-loop-term
invariant-loop-term l = l.out.items ++ led_from (codes " with ") l.later (map printed (drop l.term-index l.terms)) ≡ l.fn.out.items ++ led_from (codes " with ") false (map printed l.terms)

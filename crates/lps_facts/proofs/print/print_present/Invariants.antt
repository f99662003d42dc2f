use Rattle.std.proofs.Common.{◌≡◌, ◌++◌, false}
use Rattle.lps_terms.specs.Printed.{listed_from}
use Rattle.lps_facts.specs.Trail.{present}
use Rattle.lps_facts.proofs.print.print_present.Given as goal

-- what is printed, and the facts of the entries that are left
abbrev pub invariant-loop-fact : goal.invariant-loop-fact
invariant-loop-fact l = l.out.items ++ listed_from l.later (present l.fact-iterator) ≡ l.fn.out.items ++ listed_from false (present l.entries.entries)

use Rattle.std.proofs.Common.{◌≡◌, ◌++◌}
use Rattle.lps_facts.specs.Trail.{present}
use Rattle.lps_facts.proofs.entries.copy_present.Given as goal

-- what is copied, and the entries that are left
abbrev pub invariant-loop-fact : goal.invariant-loop-fact
invariant-loop-fact l = l.facts.items ++ present l.fact-iterator ≡ present l.entries.entries

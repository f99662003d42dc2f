use Rattle.lps_facts.specs.Matching.{IsInstance}
use Rattle.lps_facts.specs.Trail.{present}
use Rattle.lps_facts.proofs.Beginnings.{LieTogether}
use Rattle.lps_facts.proofs.Selections.{Continues}
use Rattle.lps_facts.proofs.entries.copy_instances.Given as goal

-- what is selected, and the entries that are left, of which those that begin as the pattern come first
abbrev pub invariant-loop-fact : goal.invariant-loop-fact
invariant-loop-fact l = Continues (IsInstance l.pattern) (present l.entries.entries) (present l.fact-iterator) l.facts.items × LieTogether l.pattern l.fact-iterator

use Rattle.std.proofs.Common.{◌≡◌, drop, true}
use Rattle.lps_facts.specs.Facts.{with_facts}
use Rattle.lps_cycle.proofs.Initial.{initial, nothing}
use Rattle.lps_cycle.proofs.engine.initial_facts.Given as goal

-- what is left to put in leads to the whole
abbrev pub invariant-loop-statement : goal.invariant-loop-statement
invariant-loop-statement l = with_facts true (initial (drop l.statement-index l.statements)) l.facts ≡ with_facts true (initial l.statements) nothing

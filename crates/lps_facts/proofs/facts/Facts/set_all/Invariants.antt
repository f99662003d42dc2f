use Rattle.std.proofs.Common.{◌≡◌, drop}
use Rattle.lps_facts.specs.Facts.{with_facts, IsLater}
use Rattle.lps_facts.proofs.facts.Facts.set_all.Given as goal

-- what is left to do leads to the whole
abbrev pub invariant-loop-fact : goal.invariant-loop-fact
invariant-loop-fact l = (with_facts l.inserted (drop l.fact-index l.facts) l.self ≡ with_facts l.inserted l.facts l.fn.self) × IsLater l.fn.self l.self

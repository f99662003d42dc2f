use Rattle.std.proofs.Common.{◌≡◌, false, drop}
use Rattle.lps_facts.specs.Facts.{with_facts, IsLater}
use Rattle.lps_trial.proofs.trial.remove_all.Given as goal

-- what is left to take out leads to the whole
abbrev pub invariant-loop-fact : goal.invariant-loop-fact
invariant-loop-fact l = (with_facts false (drop l.fact-index l.gone) l.facts ≡ with_facts false l.gone l.fn.facts) × IsLater l.fn.facts l.facts

use Rattle.lps_facts.proofs.Sequences.{later_with, later_with_effects, later_still}
use Rattle.lps_facts.proofs.laws.changes_go_back.Goals as goal

pub returns-clause-fact : goal.returns-clause-fact
returns-clause-fact c = later_with

pub returns-clause-effects : goal.returns-clause-effects
returns-clause-effects c = later_with_effects

pub returns-clause-further : goal.returns-clause-further
returns-clause-further c = later_still

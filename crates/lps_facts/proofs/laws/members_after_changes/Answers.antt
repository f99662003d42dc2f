use Rattle.lps_facts.proofs.Sequences.{members_with, members_with_all, members_with_effects}
use Rattle.lps_facts.proofs.laws.members_after_changes.Goals as goal

pub returns-clause-fact : goal.returns-clause-fact
returns-clause-fact c = members_with

pub returns-clause-all : goal.returns-clause-all
returns-clause-all c = members_with_all

pub returns-clause-effects : goal.returns-clause-effects
returns-clause-effects c = members_with_effects

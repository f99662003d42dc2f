use Rattle.std.proofs.Common.{◌∙◌, ap}
use Rattle.lps_facts.proofs.Present.{found, found_present}
use Rattle.lps_facts.proofs.entries.is_present.Goals as goal

pub returns-in-Some : goal.returns-in-Some
returns-in-Some c = ap found c.in-Some.ensures.value ∙ found_present c.args.entries.now.entries c.requires c.args.fact.now

pub returns-in-None : goal.returns-in-None
returns-in-None c = ap found c.in-None.ensures.value ∙ found_present c.args.entries.now.entries c.requires c.args.fact.now

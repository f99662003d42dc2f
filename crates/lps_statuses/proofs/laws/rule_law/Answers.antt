use Rattle.lps_statuses.proofs.RuleLaws.{rules_true}
use Rattle.lps_statuses.proofs.laws.rule_law.Goals as goal

pub returns : goal.returns
returns c = rules_true

use Rattle.std.proofs.Common.{ap}
use Rattle.lps_model.specs.Rules.{rule_in}
use Rattle.lps_goaltrees.proofs.rule.alternatives_in.Goals as goal

pub returns-in-Rule : goal.returns-in-Rule
returns-in-Rule c = (record { antecedent = c.in-Rule.antecedent; alternatives = c.in-Rule.alternatives }, ap rule_in c.in-Rule.is, c.len.ensures)

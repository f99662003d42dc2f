use Rattle.lps_examples.proofs.KeptSymbols.{goal_node, kept}
use Rattle.lps_examples.proofs.reports.kept_law.Goals as goal

pub returns-clause-goal_node : goal.returns-clause-goal_node
returns-clause-goal_node c = goal_node

pub returns-clause-kept : goal.returns-clause-kept
returns-clause-kept c = kept

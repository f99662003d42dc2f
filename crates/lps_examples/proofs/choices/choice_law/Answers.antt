use Rattle.lps_examples.proofs.ConflictRuns.{conflict, either, illegal}
use Rattle.lps_examples.proofs.choices.choice_law.Goals as goal

pub returns-clause-conflict : goal.returns-clause-conflict
returns-clause-conflict c = conflict

pub returns-clause-either : goal.returns-clause-either
returns-clause-either c = either

pub returns-clause-illegal : goal.returns-clause-illegal
returns-clause-illegal c = illegal

use Rattle.lps_meaning.proofs.Uniqueness.{run_of_plain, run_unique}
use Rattle.lps_meaning.proofs.laws.plain_law.Goals as goal

pub returns-clause-runs : goal.returns-clause-runs
returns-clause-runs c = run_of_plain

pub returns-clause-unique : goal.returns-clause-unique
returns-clause-unique c = run_unique

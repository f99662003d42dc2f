use Rattle.lps_meaning.proofs.Persistence.{is_persistence, start_law, update_law, decided_law}
use Rattle.lps_meaning.proofs.laws.state_law.Goals as goal

pub returns-clause-persistence : goal.returns-clause-persistence
returns-clause-persistence c = is_persistence

pub returns-clause-start : goal.returns-clause-start
returns-clause-start c = start_law

pub returns-clause-update : goal.returns-clause-update
returns-clause-update c = λ text level trace i fluent. update_law text level trace fluent i

pub returns-clause-decided : goal.returns-clause-decided
returns-clause-decided c = λ text level trace i fluent. decided_law text level trace fluent i

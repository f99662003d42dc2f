use Rattle.lps_goaltrees.proofs.Ends.{solved_at_once, solved_next}
use Rattle.lps_goaltrees.proofs.laws.solved_law.Goals as goal

pub returns-clause-at_once : goal.returns-clause-at_once
returns-clause-at_once c = solved_at_once

pub returns-clause-next : goal.returns-clause-next
returns-clause-next c = solved_next

use Rattle.lps_goaltrees.proofs.Continuing.{stands_in_continuations}
use Rattle.lps_goaltrees.proofs.laws.pursuit_law.Goals as goal

pub returns : goal.returns
returns c = stands_in_continuations

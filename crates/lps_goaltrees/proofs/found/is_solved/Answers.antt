use Rattle.std.proofs.Common.{inr}
use Rattle.lps_goaltrees.proofs.Growing.{some_there}
use Rattle.lps_goaltrees.proofs.found.is_solved.Goals as goal

pub returns-clause-yes : goal.returns-clause-yes
returns-clause-yes c = λ yes. inr (some_there c.args.ended.now c.is_empty.result c.is_empty.ensures yes)

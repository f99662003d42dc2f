use Rattle.lps_batches.proofs.Standing.{ahead_stands}
use Rattle.lps_batches.proofs.laws.lines_are_those_of_the_rules.Goals as goal

pub returns : goal.returns
returns c = ahead_stands

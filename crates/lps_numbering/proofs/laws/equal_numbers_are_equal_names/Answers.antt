use Rattle.lps_numbering.proofs.Alike.{times_alike, variables_alike}
use Rattle.lps_numbering.proofs.laws.equal_numbers_are_equal_names.Goals as goal

pub returns-clause-variables : goal.returns-clause-variables
returns-clause-variables c = variables_alike

pub returns-clause-times : goal.returns-clause-times
returns-clause-times c = times_alike

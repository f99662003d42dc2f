use Rattle.lps_values.proofs.Division.{unique}
use Rattle.lps_values.proofs.Rest.{lies_between}
use Rattle.lps_values.proofs.laws.division_rounds_down.Goals as goal

pub returns-clause-unique : goal.returns-clause-unique
returns-clause-unique c = unique

pub returns-clause-between : goal.returns-clause-between
returns-clause-between c = lies_between

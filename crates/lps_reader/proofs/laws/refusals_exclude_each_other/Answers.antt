use Rattle.lps_reader.proofs.Unique.{none, one}
use Rattle.lps_reader.proofs.laws.refusals_exclude_each_other.Goals as goal

pub returns : goal.returns
returns c = record { one = one; none = none }

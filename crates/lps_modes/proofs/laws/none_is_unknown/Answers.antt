use Rattle.lps_modes.proofs.Sets.{none_is_unknown}
use Rattle.lps_modes.proofs.laws.none_is_unknown.Goals as goal

pub returns : goal.returns
returns c = none_is_unknown

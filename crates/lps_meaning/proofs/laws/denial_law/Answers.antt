use Rattle.lps_meaning.proofs.Prevented.{none_is_violated}
use Rattle.lps_meaning.proofs.laws.denial_law.Goals as goal

pub returns : goal.returns
returns c = none_is_violated

use Rattle.lps_modes.proofs.Sets.{learning_is_union}
use Rattle.lps_modes.proofs.laws.learning_is_union.Goals as goal

pub returns : goal.returns
returns c = learning_is_union

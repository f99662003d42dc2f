use Rattle.lps_levels.proofs.Ways.{cycles_are_unique}
use Rattle.lps_levels.proofs.laws.cycles_are_unique.Goals as goal

pub returns : goal.returns
returns c = cycles_are_unique

use Rattle.lps_levels.proofs.Ways.{levels_exclude_cycles}
use Rattle.lps_levels.proofs.laws.levelled_texts_have_no_cycle.Goals as goal

pub returns : goal.returns
returns c = levels_exclude_cycles

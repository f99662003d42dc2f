use Rattle.std.proofs.Common.{length}
use Rattle.lps_levels.proofs.inside.+starred.Given as goal

abbrev pub decreases-starred : goal.decreases-starred
decreases-starred l = length l.modes.now

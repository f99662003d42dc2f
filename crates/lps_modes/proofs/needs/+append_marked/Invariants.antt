use Rattle.std.proofs.Common.{length}
use Rattle.lps_modes.proofs.needs.+append_marked.Given as goal

abbrev pub decreases-append_marked : goal.decreases-append_marked
decreases-append_marked l = length l.modes.now

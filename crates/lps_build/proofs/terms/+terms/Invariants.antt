use Rattle.std.proofs.Common.{◌*◌, ◌+◌}
use Rattle.lps_build.proofs.terms.+terms.Given as goal

abbrev pub decreases-term : goal.decreases-term
decreases-term l = 2 * l.limit

abbrev pub decreases-args : goal.decreases-args
decreases-args l = 2 * l.limit

abbrev pub decreases-next_arg : goal.decreases-next_arg
decreases-next_arg l = 2 * l.limit + 1

abbrev pub decreases-more_args : goal.decreases-more_args
decreases-more_args l = 2 * l.limit

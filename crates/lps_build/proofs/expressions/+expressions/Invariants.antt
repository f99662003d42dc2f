use Rattle.std.proofs.Common.{◌*◌, ◌+◌}
use Rattle.lps_build.proofs.expressions.+expressions.Given as goal

abbrev pub decreases-expr : goal.decreases-expr
decreases-expr l = 3 * l.limit + 2

abbrev pub decreases-prod : goal.decreases-prod
decreases-prod l = 3 * l.limit + 1

abbrev pub decreases-unit : goal.decreases-unit
decreases-unit l = 3 * l.limit

abbrev pub decreases-factors : goal.decreases-factors
decreases-factors l = 3 * l.limit

abbrev pub decreases-summands : goal.decreases-summands
decreases-summands l = 3 * l.limit

use Rattle.std.proofs.Common.{◌≡◌}
use Rattle.lps_build.specs.ReadStatements.{alternatives_in}
use Rattle.lps_build.proofs.statements.alternatives.Given as goal

abbrev pub invariant-loop-room : goal.invariant-loop-room
invariant-loop-room l = alternatives_in l.room l.before.items l.left ≡ alternatives_in l.fn.limit l.fn.before.items l.fn.toks

abbrev pub decreases-loop-room : goal.decreases-loop-room
decreases-loop-room l = l.room

use Rattle.std.proofs.Common.{◌≡◌, [], length}
use Rattle.lps_build.specs.ReadStatements.{text_in}
use Rattle.lps_build.proofs.text.bodies.Given as goal

abbrev pub invariant-loop-room : goal.invariant-loop-room
invariant-loop-room l = text_in (length l.fn.toks) l.room l.before.items l.left ≡ text_in (length l.fn.toks) (length l.fn.toks) [] l.fn.toks

abbrev pub decreases-loop-room : goal.decreases-loop-room
decreases-loop-room l = l.room

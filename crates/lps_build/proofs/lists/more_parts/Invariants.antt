use Rattle.std.proofs.Common.{◌≡◌}
use Rattle.lps_build.specs.ReadItems.{more_parts_in}
use Rattle.lps_build.proofs.lists.more_parts.Given as goal

abbrev pub invariant-loop-room : goal.invariant-loop-room
invariant-loop-room g l = more_parts_in g.T.Part.part_in l.room l.parts.items l.left ≡ more_parts_in g.T.Part.part_in l.fn.limit l.fn.parts.items l.fn.toks

abbrev pub decreases-loop-room : goal.decreases-loop-room
decreases-loop-room g l = l.room

use Rattle.std.proofs.Common.{◌≡◌}
use Rattle.lps_build.specs.ReadItems.{more_parts_in}
use Rattle.lps_build.specs.ReadStatements.{decl_in}
use Rattle.lps_build.proofs.declarations.more_decls.Given as goal

abbrev pub invariant-loop-room : goal.invariant-loop-room
invariant-loop-room l = more_parts_in (decl_in l.fn.kind) l.room l.decls.items l.left ≡ more_parts_in (decl_in l.fn.kind) l.fn.limit l.fn.decls.items l.fn.toks

abbrev pub decreases-loop-room : goal.decreases-loop-room
decreases-loop-room l = l.room

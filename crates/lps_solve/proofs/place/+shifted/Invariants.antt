use Rattle.std.proofs.Common.{◌≡◌, map, take}
use Rattle.lps_terms.specs.Put.{put}
use Rattle.lps_solve.specs.Placed.{shift}
use Rattle.lps_solve.proofs.place.+shifted.Given as goal

-- the arguments so far are shifted
abbrev pub invariant-loop-arg : goal.invariant-loop-arg
invariant-loop-arg l = l.copies ≡ map (put (shift l.base)) (take l.arg-index l.arg-items)

use Rattle.std.proofs.Common.{◌≡◌, map, take}
use Rattle.lps_terms.specs.Put.{put}
use Rattle.lps_solve.specs.Placed.{shift}
use Rattle.lps_solve.proofs.place.shifted_all.Given as goal

-- the terms so far are shifted
abbrev pub invariant-loop-term : goal.invariant-loop-term
invariant-loop-term l = l.copies ≡ map (put (shift l.base)) (take l.term-index l.terms)

use Rattle.std.proofs.Common.{◌≡◌, map, take}
use Rattle.lps_terms.specs.Put.{put}
use Rattle.lps_solve.specs.Placed.{values_in}
use Rattle.lps_solve.proofs.place.place_args.Given as goal

-- the terms so far are placed
abbrev pub invariant-loop-term : goal.invariant-loop-term
invariant-loop-term l = l.copies ≡ map (put (values_in l.bindings l.base)) (take l.term-index l.terms)

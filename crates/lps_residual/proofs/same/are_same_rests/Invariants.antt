use Rattle.std.proofs.Common.{◌≡◌, take}
use Rattle.lps_residual.proofs.same.are_same_rests.Given as goal

-- the first ones are the same
abbrev pub invariant-loop-place : goal.invariant-loop-place
invariant-loop-place l = take l.place l.rest ≡ take l.place l.others

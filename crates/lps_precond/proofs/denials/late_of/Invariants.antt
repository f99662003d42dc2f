use Rattle.lps_precond.proofs.Late.{AreLateUpTo}
use Rattle.lps_precond.proofs.denials.late_of.Given as goal

-- the places so far
abbrev pub invariant-loop-place : goal.invariant-loop-place
invariant-loop-place l = AreLateUpTo l.denials l.place l.late.items

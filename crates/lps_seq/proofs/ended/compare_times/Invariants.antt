use Rattle.std.proofs.Common.{◌≡◌, drop}
use Rattle.std.specs.Cmp.Lexicographic.{slice_cmp}
use Rattle.lps_seq.specs.Carries.{when_cmp}
use Rattle.lps_seq.proofs.ended.compare_times.Given as goal

-- the times that are left decide
abbrev pub invariant-loop-place : goal.invariant-loop-place
invariant-loop-place l = slice_cmp when_cmp (drop l.place l.times) (drop l.place l.others) ≡ slice_cmp when_cmp l.times l.others

use Rattle.std.proofs.Common.{◌≡◌, ◌++◌, drop}
use Rattle.lps_antecedents.specs.Gathered.{numbers_in}
use Rattle.lps_antecedents.proofs.gathered.known_times.Given as goal

-- the numbers so far, and those of the times that are left
abbrev pub invariant-loop-time : goal.invariant-loop-time
invariant-loop-time l = l.numbers ++ numbers_in (drop l.time-index l.times) ≡ numbers_in l.times

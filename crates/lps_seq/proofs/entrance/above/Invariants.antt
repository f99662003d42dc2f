use Rattle.std.proofs.Common.{ℕ, ◌<◌, ◌≤◌, drop}
use Rattle.std.specs.List.{AllByRecursion}
use Rattle.lps_seq.proofs.entrance.above.Given as goal

-- what is above this number and those left is above all
abbrev pub invariant-loop-number : goal.invariant-loop-number
invariant-loop-number l = (bound : ℕ) → l.above ≤ bound → AllByRecursion (λ n. n < bound) (drop l.number-index l.numbers) → AllByRecursion (λ n. n < bound) l.numbers

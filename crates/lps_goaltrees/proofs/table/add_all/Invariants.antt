use Rattle.std.proofs.Common.{ℕ}
use Rattle.std.specs.Prelude.{◌⊎◌, ◌↔◌, Contains}
use Rattle.lps_goaltrees.proofs.table.add_all.Given as goal

-- those found, with those that are left, are all
abbrev pub invariant-loop-number : goal.invariant-loop-number
invariant-loop-number l = (n : ℕ) → (Contains l.found.keys n ⊎ Contains l.number-iterator n) ↔ (Contains l.fn.found.keys n ⊎ Contains l.numbers.keys n)

use Rattle.std.proofs.Common.{◌≡◌, length}
use Rattle.lps_levels.proofs.guess.guess.Given as goal

abbrev pub invariant-loop : goal.invariant-loop
invariant-loop l = Unit {0}

abbrev pub invariant-loop-name : goal.invariant-loop-name
invariant-loop-name l = length l.levels.items ≡ l.name

use Rattle.std.proofs.Common.{◌≡◌, ◌++◌, map}
use Rattle.lps_solve.proofs.found.values_of.Given as goal

-- the values so far, and the rows that are left
abbrev pub invariant-loop-row : goal.invariant-loop-row
invariant-loop-row l = map (λ v. v.0) l.values.items ++ l.row-iterator ≡ l.fn.found.keys

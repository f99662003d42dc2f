use Rattle.std.proofs.Common.{◌≡◌, ◌++◌}
use Rattle.lps_solve.proofs.found.rows_of.Given as goal

-- the rows so far, and those that are left
abbrev pub invariant-loop-row : goal.invariant-loop-row
invariant-loop-row l = l.rows.items ++ l.row-iterator ≡ l.fn.found.keys

use Rattle.lps_windows.specs.Matrices.{IsReady}
use Rattle.lps_windows.proofs.matrix.closed.Given as goal

-- the matrix is closed through the unknowns so far
abbrev pub invariant-loop-k : goal.invariant-loop-k
invariant-loop-k l = IsReady l.size l.bounds l.k l.numbers.items

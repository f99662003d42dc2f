use Rattle.std.proofs.Common.{take}
use Rattle.lps_windows.specs.Matrices.{IsBegun}
use Rattle.lps_windows.proofs.matrix.matrix.Given as goal

-- the matrix has the bounds so far
abbrev pub invariant-loop-bound : goal.invariant-loop-bound
invariant-loop-bound l = IsBegun l.size l.bounds (take l.bound-index l.bounds) l.numbers.items

use Rattle.std.proofs.Common.{◌≡◌, length}
use Rattle.lps_windows.specs.Matrices.{IsFilledBy, IsLesser, entry}
use Rattle.lps_windows.proofs.matrix.pass.Given as goal

-- the places so far went through the unknown
abbrev pub invariant-loop-place : goal.invariant-loop-place
invariant-loop-place l = record {
  count : length l.next.items ≡ l.place;
  passed : IsFilledBy l.size (IsLesser (entry l.size l.numbers) l.k) l.next.items;
}

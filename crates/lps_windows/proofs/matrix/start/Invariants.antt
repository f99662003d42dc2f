use Rattle.std.proofs.Common.{◌≡◌, length}
use Rattle.lps_windows.specs.Matrices.{IsFilledBy, IsFirst}
use Rattle.lps_windows.proofs.matrix.start.Given as goal

-- the places so far have their numbers
abbrev pub invariant-loop-place : goal.invariant-loop-place
invariant-loop-place l = record {
  count : length l.numbers.items ≡ l.place;
  first : IsFilledBy l.size IsFirst l.numbers.items;
}

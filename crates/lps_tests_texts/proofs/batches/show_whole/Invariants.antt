use Rattle.std.proofs.Common.{◌+◌, ◌≤◌, length}
use Rattle.lps_tests_texts.proofs.batches.show_whole.Given as goal

-- the reader keeps no more than before
abbrev pub invariant-loop : goal.invariant-loop
invariant-loop l = l.reader.lines + length l.reader.left ≤ l.initial.reader.lines + length l.initial.reader.left

use Rattle.std.proofs.Common.{length, ◌-◌, ◌+◌, ◌≤◌}
use Rattle.lps_tests_texts.proofs.batches.shown.Given as goal

-- the reader keeps no more than was fed
abbrev pub invariant-loop-at : goal.invariant-loop-at
invariant-loop-at l = record {
  room : l.reader.lines + length l.reader.left ≤ l.at;
  within : l.at ≤ length l.stream;
}

abbrev pub decreases-loop-at : goal.decreases-loop-at
decreases-loop-at l = length l.stream - l.at

use Rattle.std.proofs.Common.{length, ◌-◌, ◌≡◌, ◌≤◌, drop}
use Rattle.lps_batches.specs.LookAhead.{ahead, ahead_from}
use Rattle.lps_batches.proofs.ahead.look_ahead.Given as goal

abbrev pub invariant-loop-at : goal.invariant-loop-at
invariant-loop-at l = record {
  so_far : ahead l.bytes ≡ ahead_from (drop l.at l.bytes) 0 l.at l.lines;
  within : l.at ≤ length l.bytes;
  few : l.lines ≤ l.at;
}

abbrev pub decreases-loop-at : goal.decreases-loop-at
decreases-loop-at l = length l.bytes - l.at

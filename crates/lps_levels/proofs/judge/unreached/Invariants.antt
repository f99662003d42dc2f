use Rattle.std.proofs.Common.{◌≡◌, ℕ, ◌<◌, List, Option, length, slice_index}
use Rattle.lps_levels.specs.Distances.{AreDistances, missing}
use Rattle.lps_levels.proofs.judge.unreached.Given as goal

-- the levels so far
abbrev pub invariant-loop-goal : goal.invariant-loop-goal
invariant-loop-goal l = record {
  size : length l.levels.items ≡ l.goal;
  counted : (goal : ℕ) → goal < l.goal → (distances : List (Option ℕ)) × AreDistances l.names l.edges goal distances × (slice_index l.levels.items goal ≡ missing distances);
}

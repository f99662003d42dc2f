use Rattle.std.proofs.Common.{◌≡◌, ℕ, ◌<◌, ◌++◌, List, Some, length}
use Rattle.lps_model.specs.Levels.{IsLeastWay}
use Rattle.lps_levels.specs.Graphs.{calls_by, name_at}
use Rattle.lps_levels.specs.Distances.{distance_at}
use Rattle.lps_levels.proofs.way.least_way.Given as goal

-- a least way from here makes a least way from the start
abbrev pub invariant-loop-left : goal.invariant-loop-left
invariant-loop-left l = record {
  number_in : l.number < length l.names;
  far : distance_at l.distances l.number ≡ Some l.left;
  goes_on : (rest : List (List ℕ)) → IsLeastWay (calls_by l.names l.edges) (name_at l.names l.number) (name_at l.names l.goal) rest → IsLeastWay (calls_by l.names l.edges) (name_at l.names l.start) (name_at l.names l.goal) (l.way.items ++ rest);
}

abbrev pub decreases-loop-left : goal.decreases-loop-left
decreases-loop-left l = l.left

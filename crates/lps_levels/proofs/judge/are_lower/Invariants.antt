use Rattle.std.proofs.Common.{◌≡◌, drop}
use Rattle.std.specs.List.{list_all}
use Rattle.lps_levels.specs.Graphs.{is_lower}
use Rattle.lps_levels.proofs.judge.are_lower.Given as goal

-- the edges that are left decide
abbrev pub invariant-loop-edge : goal.invariant-loop-edge
invariant-loop-edge l = list_all (is_lower l.levels) (drop l.edge-index l.edges) ≡ list_all (is_lower l.levels) l.edges

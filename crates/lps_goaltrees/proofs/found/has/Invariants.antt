use Rattle.std.proofs.Common.{drop}
use Rattle.std.specs.Prelude.{◌↔◌, Contains}
use Rattle.lps_goaltrees.proofs.found.has.Given as goal

-- the node is there where it is among those left
abbrev pub invariant-loop-other : goal.invariant-loop-other
invariant-loop-other l = Contains (drop l.other-index l.nodes) l.node ↔ Contains l.nodes l.node

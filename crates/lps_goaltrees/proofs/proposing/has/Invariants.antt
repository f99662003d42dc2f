use Rattle.std.proofs.Common.{drop}
use Rattle.std.specs.Prelude.{◌↔◌, Contains}
use Rattle.lps_goaltrees.proofs.proposing.has.Given as goal

-- the group is there where it is among those left
abbrev pub invariant-loop-other : goal.invariant-loop-other
invariant-loop-other l = Contains (drop l.other-index l.groups) l.group ↔ Contains l.groups l.group

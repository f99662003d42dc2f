use Rattle.std.proofs.Common.{Contains, drop}
use Rattle.lps_choice.proofs.check.has_group.Given as goal

-- a group that is one of them is one of those left
abbrev pub invariant-loop-other : goal.invariant-loop-other
invariant-loop-other l = Contains l.groups l.group → Contains (drop l.other-index l.groups) l.group

use Rattle.std.proofs.Common.{◌≡◌, ◌++◌, map}
use Rattle.lps_cycle.specs.Candidates.{unpicked}
use Rattle.lps_cycle.proofs.candidates.unpicked.Given as goal

-- those so far, with those of what is left, are all
abbrev pub invariant-loop-one : goal.invariant-loop-one
invariant-loop-one l = l.candidates.items ++ map unpicked l.one-iterator.rest.items ≡ map unpicked l.fn.asked.items

use Rattle.std.proofs.Common.{take}
use Rattle.lps_solve.specs.Found.{Gains, IsRowOf}
use Rattle.lps_solve.proofs.Gaining.{ByOne}
use Rattle.lps_solve.proofs.found.add_facts.Given as goal

-- the facts so far are added
abbrev pub invariant-loop-fact : goal.invariant-loop-fact
invariant-loop-fact l = Gains l.fn.found.keys l.found.keys (ByOne (take l.fact-index l.fact-items) IsRowOf)

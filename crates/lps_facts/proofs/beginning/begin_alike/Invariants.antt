use Rattle.std.proofs.Common.{◌≡◌, drop}
use Rattle.lps_facts.specs.Beginning.{begin_alike}
use Rattle.lps_facts.proofs.beginning.begin_alike.Given as goal

-- the patterns and values that are left decide
abbrev pub invariant-loop-i : goal.invariant-loop-i
invariant-loop-i l = begin_alike (drop l.i l.patterns) (drop l.i l.values) ≡ begin_alike l.patterns l.values

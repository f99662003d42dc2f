use Rattle.std.proofs.Common.{◌≡◌, drop}
use Rattle.std.specs.List.{list_all}
use Rattle.lps_facts.specs.Beginning.{is_fixed}
use Rattle.lps_facts.proofs.beginning.+fixed.Given as goal

-- the terms that are left decide
abbrev pub invariant-are_fixed-loop-term : goal.invariant-are_fixed-loop-term
invariant-are_fixed-loop-term l = list_all is_fixed (drop l.term-index l.terms) ≡ list_all is_fixed l.terms

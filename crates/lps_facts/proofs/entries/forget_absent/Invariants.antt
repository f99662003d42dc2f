use Rattle.std.proofs.Common.{◌≡◌}
use Rattle.std.specs.BTreeMap.{IsOrdered}
use Rattle.lps_terms.specs.Order.{atom_cmp}
use Rattle.lps_facts.specs.Trail.{present}
use Rattle.lps_facts.proofs.entries.forget_absent.Given as goal

-- what is present so far is what was
abbrev pub invariant-loop-change : goal.invariant-loop-change
invariant-loop-change l = IsOrdered atom_cmp l.entries × (present l.entries.entries ≡ present l.fn.entries.entries)

use Rattle.std.proofs.Common.{◌≡◌, drop}
use Rattle.lps_unify.specs.Canonical.{first_seen, variables_of_all}
use Rattle.lps_unify.proofs.renumber.+see.Given as goal

-- the terms that are left finish it
abbrev pub invariant-see_all-loop-term : goal.invariant-see_all-loop-term
invariant-see_all-loop-term l = first_seen l.seen.items (variables_of_all (drop l.term-index l.terms)) ≡ first_seen l.fn.seen.items (variables_of_all l.terms)

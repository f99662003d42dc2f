use Rattle.std.proofs.Common.{◌≡◌, drop}
use Rattle.lps_model.specs.VariableLists.{args_vars}
use Rattle.lps_unify.specs.Canonical.{first_seen}
use Rattle.lps_residual.proofs.seen.+see.Given as goal

-- those of the terms that are left finish it
abbrev pub invariant-see_terms-loop-term : goal.invariant-see_terms-loop-term
invariant-see_terms-loop-term l = first_seen l.seen.items (args_vars (drop l.term-index l.terms)) ≡ first_seen l.fn.seen.items (args_vars l.terms)

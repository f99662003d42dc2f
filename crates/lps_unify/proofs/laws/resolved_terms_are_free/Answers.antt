use Rattle.lps_unify.proofs.Variables.{resolved_within, resolved_free}
use Rattle.lps_unify.proofs.laws.resolved_terms_are_free.Goals as goal

pub returns-clause-within : goal.returns-clause-within
returns-clause-within c = resolved_within

pub returns-clause-free : goal.returns-clause-free
returns-clause-free c = resolved_free

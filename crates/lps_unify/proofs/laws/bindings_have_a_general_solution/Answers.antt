use Rattle.lps_unify.proofs.Standings.{solves_itself, goes_through}
use Rattle.lps_unify.proofs.laws.bindings_have_a_general_solution.Goals as goal

pub returns-clause-solution : goal.returns-clause-solution
returns-clause-solution c = solves_itself

pub returns-clause-general : goal.returns-clause-general
returns-clause-general c = goes_through

use Rattle.lps_unify.proofs.Sums.{put_within}
use Rattle.lps_unify.proofs.Variables.{solutions_agree}
use Rattle.lps_unify.proofs.laws.solutions_look_at_variables.Goals as goal

pub returns-clause-terms : goal.returns-clause-terms
returns-clause-terms c = λ count x h s r same. put_within s r count same x h

pub returns-clause-bindings : goal.returns-clause-bindings
returns-clause-bindings c = solutions_agree

use Rattle.lps_examples.proofs.Derivations.{levels, one_answer}
use Rattle.lps_examples.proofs.laws.derivation_law.Goals as goal

pub returns-clause-levels : goal.returns-clause-levels
returns-clause-levels c = levels

pub returns-clause-answer : goal.returns-clause-answer
returns-clause-answer c = one_answer

use Rattle.lps_values.specs.Truth.{is_true}
use Rattle.lps_model.specs.Clauses.{clauses}
use Rattle.lps_derivation.specs.Laws.{Passes}
use Rattle.lps_derivation.proofs.Reach.{same_reached}
use Rattle.lps_derivation.proofs.Truth.{equation}
use Rattle.lps_meaning.specs.Holds.{Holds}
use Rattle.lps_meaning.proofs.Persistence.{true_by_levels}
use Rattle.lps_meaning.proofs.laws.truth_law.Goals as goal

pub returns-clause-by_clauses : goal.returns-clause-by_clauses
returns-clause-by_clauses c = λ text level levels trace i a. equation (Passes is_true) (clauses text) (Holds text level trace i) level levels a

pub returns-clause-levels : goal.returns-clause-levels
returns-clause-levels c = true_by_levels

pub returns-clause-reach : goal.returns-clause-reach
returns-clause-reach c = λ text level names closed trace other i j same a named. same_reached (Passes is_true) (clauses text) names closed (Holds text level trace i) (Holds text level other j) same level a named

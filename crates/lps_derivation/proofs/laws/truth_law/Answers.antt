use Rattle.std.specs.Prelude.{Contains}
use Rattle.lps_derivation.specs.Laws.{Passes}
use Rattle.lps_derivation.proofs.Truth.{equation}
use Rattle.lps_derivation.proofs.laws.truth_law.Goals as goal

pub returns : goal.returns
returns c = λ test program facts level levels a. equation (Passes test) program (Contains facts) level levels a

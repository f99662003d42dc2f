use Rattle.std.specs.Prelude.{Contains}
use Rattle.lps_derivation.specs.Laws.{Passes}
use Rattle.lps_derivation.proofs.Truth.{same_truth}
use Rattle.lps_derivation.proofs.laws.level_law.Goals as goal

pub returns : goal.returns
returns c = λ test program facts level other levels others a. same_truth (Passes test) program (Contains facts) level other levels others a

use Rattle.std.proofs.Common.{take}
use Rattle.std.specs.List.{AllByRecursion}
use Rattle.lps_solve.specs.Met.{AreGround}
use Rattle.lps_tests_sequences.proofs.antecedents.all_ground.Given as goal

-- the atoms so far are ground
abbrev pub invariant-loop-atom : goal.invariant-loop-atom
invariant-loop-atom l = AllByRecursion (λ a. AreGround a.args) (take l.atom-index l.atoms)

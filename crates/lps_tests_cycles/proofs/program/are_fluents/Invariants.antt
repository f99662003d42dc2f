use Rattle.std.proofs.Common.{take}
use Rattle.lps_causal.specs.Names.{AreFluents}
use Rattle.lps_tests_cycles.proofs.program.are_fluents.Given as goal

-- the atoms so far are fluents
abbrev pub invariant-loop-atom : goal.invariant-loop-atom
invariant-loop-atom l = AreFluents l.text (take l.atom-index l.atoms)

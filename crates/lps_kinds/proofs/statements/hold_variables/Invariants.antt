use Rattle.std.proofs.Common.{◌≡◌, drop}
use Rattle.lps_model.specs.Variables.{hold_variables}
use Rattle.lps_kinds.proofs.statements.hold_variables.Given as goal

-- no atom so far holds a variable
abbrev pub invariant-loop-atom : goal.invariant-loop-atom
invariant-loop-atom l = hold_variables (drop l.atom-index l.atoms) ≡ hold_variables l.atoms

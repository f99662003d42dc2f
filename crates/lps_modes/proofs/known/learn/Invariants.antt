use Rattle.std.proofs.Common.{◌≡◌, drop}
use Rattle.lps_model.specs.Known.{learnt}
use Rattle.lps_modes.proofs.known.learn.Given as goal

-- what is known, with the variables that are left
abbrev pub invariant-loop-variable : goal.invariant-loop-variable
invariant-loop-variable l = learnt l.known.items (drop l.variable-index l.variables) ≡ learnt l.fn.known.items l.variables

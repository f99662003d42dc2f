use Rattle.std.proofs.Common.{◌≡◌, drop}
use Rattle.lps_model.specs.Known.{unknown_among}
use Rattle.lps_modes.proofs.known.unknown_among.Given as goal

-- the variables that are left decide
abbrev pub invariant-loop-variable : goal.invariant-loop-variable
invariant-loop-variable l = unknown_among l.names l.known (drop l.variable-index l.variables) ≡ unknown_among l.names l.known l.variables

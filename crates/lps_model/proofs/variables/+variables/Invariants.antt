use Rattle.std.proofs.Common.{◌≡◌, drop}
use Rattle.lps_model.specs.Variables.{have_variables}
use Rattle.lps_model.proofs.variables.+variables.Given as goal

-- no argument so far holds a variable
abbrev pub invariant-have_variables-loop-arg : goal.invariant-have_variables-loop-arg
invariant-have_variables-loop-arg l = have_variables (drop l.arg-index l.args) ≡ have_variables l.args

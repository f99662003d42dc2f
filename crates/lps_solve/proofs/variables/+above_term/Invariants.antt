use Rattle.std.proofs.Common.{◌<◌, take}
use Rattle.std.specs.List.{AllByRecursion}
use Rattle.lps_model.specs.VariableLists.{args_vars}
use Rattle.lps_solve.proofs.variables.+above_term.Given as goal

-- the variables of the arguments so far are below
abbrev pub invariant-loop-arg : goal.invariant-loop-arg
invariant-loop-arg l = AllByRecursion (λ v. v < l.above) (args_vars (take l.arg-index l.arg-items))

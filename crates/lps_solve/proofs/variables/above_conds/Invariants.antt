use Rattle.std.proofs.Common.{◌<◌, take}
use Rattle.std.specs.List.{AllByRecursion, flat_map}
use Rattle.lps_model.specs.VariableLists.{cond_vars}
use Rattle.lps_solve.proofs.variables.above_conds.Given as goal

-- the variables of the conditions so far are below
abbrev pub invariant-loop-cond : goal.invariant-loop-cond
invariant-loop-cond l = AllByRecursion (λ v. v < l.above) (flat_map cond_vars (take l.cond-index l.conds))

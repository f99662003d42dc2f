use Rattle.std.proofs.Common.{◌<◌, take}
use Rattle.std.specs.List.{AllByRecursion}
use Rattle.lps_model.specs.VariableLists.{args_vars}
use Rattle.lps_solve.proofs.variables.above_terms.Given as goal

-- the variables of the terms so far are below
abbrev pub invariant-loop-term : goal.invariant-loop-term
invariant-loop-term l = AllByRecursion (λ v. v < l.above) (args_vars (take l.term-index l.terms))

use Rattle.std.specs.Prelude.{Contains}
use Rattle.std.specs.List.{AllByRecursion, flat_map}
use Rattle.lps_model.specs.VariableLists.{cond_vars}
use Rattle.lps_precond.proofs.noting.shared_variables.Given as goal

-- the shared ones so far, and those that are left, are variables of the conditions
abbrev pub invariant-loop-variable : goal.invariant-loop-variable
invariant-loop-variable l = AllByRecursion (Contains (flat_map cond_vars l.conds)) l.shared.items × AllByRecursion (Contains (flat_map cond_vars l.conds)) l.variable-iterator

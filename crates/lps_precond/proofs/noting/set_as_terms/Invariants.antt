use Rattle.std.proofs.Common.{◌≡◌, ◌++◌, map}
use Rattle.lps_terms.specs.declared.term.Term.TheVariants.{Var}
use Rattle.lps_precond.proofs.noting.set_as_terms.Given as goal

-- the terms so far, and those that are left
abbrev pub invariant-loop-variable : goal.invariant-loop-variable
invariant-loop-variable l = l.terms.items ++ map (λ v. Var v) l.variable-iterator ≡ map (λ v. Var v) l.fn.variables.keys

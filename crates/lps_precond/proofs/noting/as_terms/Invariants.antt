use Rattle.std.proofs.Common.{◌≡◌, map, take}
use Rattle.lps_terms.specs.declared.term.Term.TheVariants.{Var}
use Rattle.lps_precond.proofs.noting.as_terms.Given as goal

-- the terms of the variables so far
abbrev pub invariant-loop-variable : goal.invariant-loop-variable
invariant-loop-variable l = l.terms.items ≡ map (λ v. Var v) (take l.variable-index l.variables)

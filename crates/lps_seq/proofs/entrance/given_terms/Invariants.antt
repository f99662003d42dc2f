use Rattle.lps_terms.specs.declared.term.Term.TheVariants.{Var}
use Rattle.lps_seq.specs.Starts.{given_value}
use Rattle.lps_seq.proofs.Tables.{IsTable}
use Rattle.lps_seq.proofs.entrance.given_terms.Given as goal

-- so far each variable has its value
abbrev pub invariant-loop-variable : goal.invariant-loop-variable
invariant-loop-variable l = IsTable (λ v. Var v) (given_value l.shared l.values) l.terms.items l.variable

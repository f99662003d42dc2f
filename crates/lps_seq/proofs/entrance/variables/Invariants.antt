use Rattle.std.proofs.Common.{◌≡◌, map, take}
use Rattle.lps_terms.specs.declared.term.Term.TheVariants.{Var}
use Rattle.lps_seq.proofs.entrance.variables.Given as goal

abbrev pub invariant-loop-number : goal.invariant-loop-number
invariant-loop-number l = l.terms.items ≡ map (λ v. Var v) (take l.number-index l.numbers)

use Rattle.std.proofs.Common.{arith}
use Rattle.lps_terms.specs.declared.term.Term.TheVariants.{Var}
use Rattle.lps_seq.specs.Starts.{given_value}
use Rattle.lps_seq.proofs.Tables.{value_above, whole_table}
use Rattle.lps_seq.proofs.entrance.given_terms.Goals as goal

pub returns : goal.returns
returns c =
    whole_table (λ v. Var v) (given_value c.args.shared.now c.args.values.now) c.loop-variable.terms.items c.loop-variable.variable c.loop-variable.invariant
    (λ v le. value_above c.args.shared.now c.args.values.now c.in_ok-variable-end.variable-end v c.requires c.in_ok-variable-end.ensures (omega (arith, le, c.loop-variable-test.false)))

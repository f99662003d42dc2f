use Rattle.std.proofs.Common.{◌∙◌, ap, map}
use Rattle.lps_terms.specs.declared.term.Term.TheVariants.{Var}
use Rattle.lps_meaning.specs.declared.when.When.TheVariants.{Unknown}
use Rattle.lps_seq.proofs.entrance.antecedent.Goals as goal

pub returns : goal.returns
returns c = λ i. record {
  alternative = (c.in_ok-node.ensures i).alternative;
  rank = (c.in_ok-node.ensures i).rank;
  done = (c.in_ok-node.ensures i).done;
  carry = record {
    values = (c.in_ok-values.ensures ∙ ap (map (λ v. Var v)) (c.as_slice.ensures.value ∙ c.in_ok-shared_values.ensures)) i;
    times = (c.in_ok-times.ensures ∙ ap (map (λ k. Unknown k)) (c.as_slice-2.ensures.value ∙ c.in_ok-shared_times.ensures)) i;
  };
  rest = (c.in_ok-node.ensures i).rest;
  limits = (c.in_ok-node.ensures i).limits;
}

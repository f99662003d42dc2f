use Rattle.std.proofs.Common.{◌∙◌, ap}
use Rattle.lps_residual.specs.Putting.{value_at, when_at}
use Rattle.lps_seq.specs.Starts.{given_value, given_when, rule_of}
use Rattle.lps_seq.proofs.Entrances.{alternative_is}
use Rattle.lps_seq.proofs.entrance.alternative.Goals as goal

pub returns : goal.returns
returns c =
    alternative_is (rule_of c.args.rule) c.args.key.now c.args.number c.args.items.now (value_at c.as_slice-5.result.now) (when_at c.as_slice-6.result.now)
    (λ v. ap (λ xs. value_at xs v) c.as_slice-5.ensures.value ∙ c.in_ok-values-2.ensures v ∙ (λ i. given_value ((c.as_slice.ensures.value ∙ c.in_ok-values.ensures) i) (c.as_slice-2.ensures i) v))
    (λ k. ap (λ xs. when_at xs k) c.as_slice-6.ensures.value ∙ c.in_ok-times-2.ensures k ∙ (λ i. given_when ((c.as_slice-3.ensures.value ∙ c.in_ok-times.ensures) i) (c.as_slice-4.ensures i) k))
    c.in_ok-whole.whole c.in_ok-whole.ensures c.in_ok-node.node c.in_ok-node.ensures

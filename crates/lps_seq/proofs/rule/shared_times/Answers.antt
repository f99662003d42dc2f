use Rattle.std.proofs.Common.{◌∙◌, ap}
use Rattle.std.specs.List.{flat_map}
use Rattle.lps_model.specs.Order.{times_of}
use Rattle.lps_unify.specs.Canonical.{first_seen}
use Rattle.lps_seq.specs.Starts.{rule_of}
use Rattle.lps_seq.proofs.Sharing.{is_shared}
use Rattle.lps_seq.proofs.rule.shared_times.Goals as goal

pub returns : goal.returns
returns c =
    c.common.ensures
    ∙ is_shared times_of (rule_of c.args.rule) _ c.as_slice.result.now (c.in_ok-see_times.ensures ∙ ap (λ seen. first_seen seen (flat_map times_of c.args.rule.antecedent.now)) c.new-shared.ensures.items)
    (c.as_slice.ensures.value ∙ c.in_ok-see_alternative_times.ensures ∙ ap (λ seen. first_seen seen (flat_map (flat_map times_of) c.args.rule.alternatives.now)) c.new-others.ensures.items)

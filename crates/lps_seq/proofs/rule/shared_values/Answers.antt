use Rattle.std.proofs.Common.{◌∙◌, ap}
use Rattle.std.specs.List.{flat_map}
use Rattle.lps_model.specs.VariableLists.{item_vars}
use Rattle.lps_unify.specs.Canonical.{first_seen}
use Rattle.lps_seq.specs.Starts.{rule_of}
use Rattle.lps_seq.proofs.Sharing.{is_shared}
use Rattle.lps_seq.proofs.rule.shared_values.Goals as goal

pub returns : goal.returns
returns c =
    c.common.ensures
    ∙ is_shared item_vars (rule_of c.args.rule) _ c.as_slice.result.now (c.in_ok-see_items.ensures ∙ ap (λ seen. first_seen seen (flat_map item_vars c.args.rule.antecedent.now)) c.new-shared.ensures.items)
    (c.as_slice.ensures.value ∙ c.in_ok-see_alternatives.ensures ∙ ap (λ seen. first_seen seen (flat_map (flat_map item_vars) c.args.rule.alternatives.now)) c.new-others.ensures.items)

use Rattle.std.proofs.Common.{◌≡◌, ◌∙◌, ap, subst}
use Rattle.std.specs.BTreeSet.{insert_key}
use Rattle.lps_meaning.specs.declared.goal.GoalKey.{GoalKey}
use Rattle.lps_meaning.specs.Cycles.{key_cmp}
use Rattle.lps_meaning.proofs.Numbers.{key_cmp-IsAntisymmetric}
use Rattle.lps_antecedents.specs.Gathered.{Gains, key_of, numbers_in}
use Rattle.lps_antecedents.proofs.Lists.{gains_put}
use Rattle.lps_antecedents.proofs.gathered.add_key.Goals as goal

pub returns : goal.returns
returns c =
    let times = c.in_ok-times.ensures ∙ ap numbers_in c.as_slice.ensures in
    let same : c.new.result ≡ key_of c.args.rule c.args.time c.args.carry =
    c.new.ensures ∙ (λ i. record { rule = c.args.rule; values = c.args.carry.values; times = times i; time = c.args.time }) in
    rw c.in_ok-insert.ensures.keys
    (subst (λ (k : GoalKey). Gains c.args.keys.now.keys (insert_key key_cmp c.args.keys.now.keys c.new.result) (λ x. x ≡ k)) same (gains_put key_cmp key_cmp-IsAntisymmetric c.args.keys.now.keys c.new.result))

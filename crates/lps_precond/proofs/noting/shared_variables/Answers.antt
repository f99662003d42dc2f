use Rattle.std.proofs.Common.{ℕ, ◌≡◌, List, [], ◌∙◌, sym, ap, subst}
use Rattle.std.specs.Prelude.{Contains}
use Rattle.std.specs.List.{AllByRecursion, flat_map}
use Rattle.lps_model.specs.VariableLists.{cond_vars}
use Rattle.lps_meaning.proofs.Lists.{of_each}
use Rattle.lps_precond.specs.Stages.{vars_with}
use Rattle.lps_precond.proofs.Variables.{all_in_order}
use Rattle.lps_precond.proofs.noting.shared_variables.Goals as goal

pub loop-variable-init : goal.loop-variable-init
loop-variable-init c =
    let vars : List ℕ = flat_map cond_vars c.args.conds.now in
    let gives : c.into_iter-variable-iterator.result ≡ c.note_conds.new.variables.keys = c.into_iter-variable-iterator.ensures.into_iter_gives.0 in
    let noted : c.note_conds.new.variables.keys ≡ vars_with c.new-own.result.keys c.args.conds.now = c.in_ok-note_conds.ensures in
    let keys : c.into_iter-variable-iterator.result ≡ vars_with [] c.args.conds.now = gives ∙ noted ∙ ap (λ (known : List ℕ). vars_with known c.args.conds.now) c.new-own.ensures.empty in (
      subst (AllByRecursion (Contains vars)) (sym c.new-shared.ensures.items) tt,
      subst (AllByRecursion (Contains vars)) (sym keys) (all_in_order (Contains vars) vars (of_each (Contains vars) vars (λ v at. at))),
    )

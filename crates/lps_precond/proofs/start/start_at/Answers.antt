use Rattle.std.proofs.Common.{ℕ, List, ◌<◌, ◌≡◌, ◌∙◌, map, ap, subst}
use Rattle.std.specs.Prelude.{Contains}
use Rattle.std.specs.List.{AllByRecursion, flat_map}
use Rattle.lps_terms.specs.declared.cond.Cond.{Cond}
use Rattle.lps_terms.specs.declared.term.Term.TheVariants.{Var}
use Rattle.lps_model.specs.VariableLists.{cond_vars}
use Rattle.lps_precond.specs.declared.start.Start.{Start}
use Rattle.lps_precond.specs.Stages.{IsStart, vars_of}
use Rattle.lps_precond.proofs.Stages.{are_of_start}
use Rattle.lps_precond.proofs.start.start_at.Goals as goal

pub returns-clause-start : goal.returns-clause-start
returns-clause-start c =
    let n = c.in_ok-variables.variables in
    let one = c.in_ok-one.one in
    let all = c.in_ok-all.all in
    let shared = c.in_ok-shared.shared.items in
    let below = λ (conds own : List Cond) (same : conds ≡ own) (h : AllByRecursion (λ v. v < n) (flat_map cond_vars conds)). subst (λ (ks : List Cond). AllByRecursion (λ v. v < n) (flat_map cond_vars ks)) same h in
    let start : Start = record {
      first = record { conds = one; given = c.new.result; found = c.in_ok-found.found; variables = n };
      rest = record { conds = all; given = c.in_ok-given.given; found = c.in_ok-happened.happened; variables = n };
    } in
    subst (λ (ks : List Cond). IsStart ks start) c.in_ok-all.ensures
    (are_of_start one all n shared _ _ _ _ (below _ one c.as_slice.ensures c.in_ok-variables.ensures.first) (below _ all c.as_slice-2.ensures c.in_ok-variables.ensures.second)
    (subst (λ (ks : List Cond). AllByRecursion (Contains (flat_map cond_vars ks)) shared) c.as_slice-3.ensures c.in_ok-shared.ensures)
    c.new.ensures (c.in_ok-found.ensures ∙ ap (λ (vars : List ℕ). map (λ v. Var v) vars) c.as_slice-5.ensures.value)
    (c.in_ok-given.ensures ∙ ap (λ (vars : List ℕ). map (λ v. Var v) vars) c.as_slice-6.ensures.value)
    (c.in_ok-happened.ensures ∙ ap (λ (ks : List Cond). map (λ v. Var v) (vars_of ks)) c.as_slice-7.ensures))

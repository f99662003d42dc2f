use Rattle.std.proofs.Common.{◌≡◌, List, ◌<◌, ◌∙◌, map, sym, ap, subst}
use Rattle.std.specs.List.{AllByRecursion, flat_map, list_any}
use Rattle.lps_terms.specs.declared.cond.Cond.{Cond}
use Rattle.lps_terms.specs.declared.term.Term.TheVariants.{Var}
use Rattle.lps_model.specs.VariableLists.{cond_vars}
use Rattle.lps_precond.specs.Cut.{asks_derived, touch_of}
use Rattle.lps_precond.specs.Stages.{AreStarts, vars_of, vars_with}
use Rattle.lps_precond.proofs.Stages.{stages_are}
use Rattle.lps_precond.proofs.Starts.{firsts_are}
use Rattle.lps_precond.proofs.denial.Denial.of_conds.Goals as goal

pub invariant_of-result : goal.invariant_of-result
invariant_of-result c =
    let n = c.in_ok-variables.variables in
    let touches = c.in_ok-touches.touches.items in
    let below = λ (conds all : List Cond) (same : conds ≡ all) (h : AllByRecursion (λ v. v < n) (flat_map cond_vars conds)). subst (λ (ks : List Cond). AllByRecursion (λ v. v < n) (flat_map cond_vars ks)) same h in (
      stages_are c.args.happen c.args.front c.args.back n _ _ _ _ _ _
          (below _ c.args.happen c.as_slice-7.ensures c.in_ok-variables.ensures.first) (below _ c.args.front c.as_slice-8.ensures c.in_ok-variables.ensures.second)
          (below _ c.args.back c.as_slice-9.ensures c.in_ok-variables.ensures.third)
          c.new.ensures (c.in_ok-happened.ensures ∙ ap (λ (ks : List Cond). map (λ v. Var v) (vars_of ks)) c.as_slice-10.ensures)
          (c.in_ok-given.ensures ∙ ap (λ (ks : List Cond). map (λ v. Var v) (vars_of ks)) c.as_slice-11.ensures)
          (c.in_ok-found.ensures ∙ (λ i. map (λ v. Var v) (vars_with (vars_of (c.as_slice-12.ensures i)) (c.as_slice-13.ensures i))))
          (c.in_ok-shared.ensures ∙ (λ i. map (λ v. Var v) (vars_with (vars_of (c.as_slice-14.ensures i)) (c.as_slice-15.ensures i))))
          c.new-2.ensures,
      subst (λ (ks : List Cond). AreStarts c.args.happen ks c.in_ok-starts.starts.items) c.as_slice.ensures
          (subst (λ (ks : List Cond). AreStarts ks c.as_slice.result.now c.in_ok-starts.starts.items) c.as_slice-2.ensures c.in_ok-starts.ensures),
      subst (λ (ks : List Cond). AreStarts c.args.happen ks touches) (sym (firsts_are touches c.as_slice-4.result.now c.in_ok-touches.ensures.firsts))
          (subst (λ (ks : List Cond). AreStarts ks c.as_slice-4.result.now touches) c.as_slice-5.ensures c.in_ok-touches.ensures),
    )

pub returns : goal.returns
returns c =
    let text = c.args.text.now in
    let touches = firsts_are c.in_ok-touches.touches.items c.as_slice-4.result.now c.in_ok-touches.ensures.firsts ∙ c.as_slice-4.ensures ∙ c.in_ok-touched.ensures ∙ ap (flat_map (touch_of text)) c.as_slice-3.ensures in
    let derived = c.ask_derived-is_derived.ensures ∙ ap (λ (ks : List Cond). list_any (asks_derived text) ks) c.as_slice-6.ensures in
    λ i. record { happen = c.args.happen; front = c.args.front; back = c.args.back; touches = touches i; is_derived = derived i }

use Rattle.std.proofs.Common.{◌∙◌, sym, ap, subst, arith, List}
use Rattle.std.proofs.lemmas.Result.{IfOk-weaker}
use Rattle.lps_terms.specs.declared.term.Term.{Term}
use Rattle.lps_terms.specs.declared.term.Term.TheVariants.{App, Var}
use Rattle.lps_terms.specs.Put.{put}
use Rattle.lps_unify.specs.Unified.{IsStep, IsStepOfAll}
use Rattle.lps_unify.proofs.Steps.{count_clash, item_binds, item_clash, items_all, items_more, named_same, pair_same, step_bound, step_bound_right, step_of_args, step_swap}
use Rattle.lps_unify.specs.declared.step.Step.TheVariants.{Same, Clash, Bind}
use Rattle.lps_unify.proofs.settle.+step.Goals as goal

pub next_step-returns-then-len-clause-step : goal.next_step-returns-then-len-clause-step
next_step-returns-then-len-clause-step t c = λ s solves e.
    count_clash c.args.bindings.now c.in-App-App.n c.in-App-App.m c.in-App-App.xs c.in-App-App.ys
    (λ same. c.if-len.true (c.len.ensures ∙ same ∙ sym c.len-in-App-App.ensures)) s solves
    (ap (put s) (sym c.in-App-App.is-0) ∙ e ∙ ap (put s) c.in-App-App.is-1)

pub next_step-returns-in-Int-Var-clause-step : goal.next_step-returns-in-Int-Var-clause-step
next_step-returns-in-Int-Var-clause-step t c =
    let b = c.args.bindings.now in
    IfOk-weaker c.step_of_variable-in-Int-Var.result (λ step. IsStep b (Var c.in-Int-Var.w) c.args.a.now step) (λ step. IsStep b c.args.a.now c.args.b.now step)
    (λ step h. subst (λ (y : Term). IsStep b c.args.a.now y step) (sym c.in-Int-Var.is-1) (step_swap b (Var c.in-Int-Var.w) c.args.a.now step h))
    c.step_of_variable-in-Int-Var.ensures.step

pub next_step-returns-in-Sym-Var-clause-step : goal.next_step-returns-in-Sym-Var-clause-step
next_step-returns-in-Sym-Var-clause-step t c =
    let b = c.args.bindings.now in
    IfOk-weaker c.step_of_variable-in-Sym-Var.result (λ step. IsStep b (Var c.in-Sym-Var.w) c.args.a.now step) (λ step. IsStep b c.args.a.now c.args.b.now step)
    (λ step h. subst (λ (y : Term). IsStep b c.args.a.now y step) (sym c.in-Sym-Var.is-1) (step_swap b (Var c.in-Sym-Var.w) c.args.a.now step h))
    c.step_of_variable-in-Sym-Var.ensures.step

pub next_step-returns-in-App-Var-clause-step : goal.next_step-returns-in-App-Var-clause-step
next_step-returns-in-App-Var-clause-step t c =
    let b = c.args.bindings.now in
    IfOk-weaker c.step_of_variable-in-App-Var.result (λ step. IsStep b (Var c.in-App-Var.w) c.args.a.now step) (λ step. IsStep b c.args.a.now c.args.b.now step)
    (λ step h. subst (λ (y : Term). IsStep b c.args.a.now y step) (sym c.in-App-Var.is-1) (step_swap b (Var c.in-App-Var.w) c.args.a.now step h))
    c.step_of_variable-in-App-Var.ensures.step

pub next_step-returns-else-len-clause-step : goal.next_step-returns-else-len-clause-step
next_step-returns-else-len-clause-step t c =
    let b = c.args.bindings.now in
    let n = c.in-App-App.n in
    let m = c.in-App-App.m in
    let xs = c.in-App-App.xs in
    let ys = c.in-App-App.ys in
    IfOk-weaker c.step_of_all.result (λ step. IsStepOfAll b c.as_slice.result.now c.as_slice-in-App-App.result.now step) (λ step. IsStep b c.args.a.now c.args.b.now step)
    (λ step h.
    let all = subst (λ (zs : List Term). IsStepOfAll b xs zs step) c.as_slice-in-App-App.ensures
    (subst (λ (zs : List Term). IsStepOfAll b zs c.as_slice-in-App-App.result.now step) c.as_slice.ensures h) in
    subst (λ (y : Term). IsStep b c.args.a.now y step) (sym c.in-App-App.is-1)
    (subst (λ (x : Term). IsStep b x (App m ys) step) (sym c.in-App-App.is-0) (step_of_args b n m xs ys step (named_same n m c.if-ne.ensures) all)))
    c.step_of_all.ensures.step

pub step_of_all-returns-in-Clash-clause-step : goal.step_of_all-returns-in-Clash-clause-step
step_of_all-returns-in-Clash-clause-step t c =
    item_clash c.args.bindings.now c.args.xs.now c.args.ys.now c.loop-i.i c.index-xs-i.result c.index-ys-i.result (omega arith) c.requires.count c.index-xs-i.is
    c.index-ys-i.is (subst (IsStep c.args.bindings.now c.index-xs-i.result c.index-ys-i.result) c.in-Clash.is c.in_ok-next_step.ensures.step)

pub step_of_all-returns-in-Bind-clause-step : goal.step_of_all-returns-in-Bind-clause-step
step_of_all-returns-in-Bind-clause-step t c =
    item_binds c.args.bindings.now c.args.xs.now c.args.ys.now c.loop-i.i c.index-xs-i.result c.index-ys-i.result (omega arith) c.requires.count c.index-xs-i.is
    c.index-ys-i.is c.in-Bind.variable c.in-Bind.term
    (subst (IsStep c.args.bindings.now c.index-xs-i.result c.index-ys-i.result) c.in-Bind.is c.in_ok-next_step.ensures.step)

pub step_of_all-loop-i-preserved : goal.step_of_all-loop-i-preserved
step_of_all-loop-i-preserved t c = record {
  so_far = items_more c.args.bindings.now c.args.xs.now c.args.ys.now c.loop-i.i c.index-xs-i.result c.index-ys-i.result (omega arith) c.requires.count
      c.index-xs-i.is c.index-ys-i.is c.loop-i.invariant.so_far
      (subst (IsStep c.args.bindings.now c.index-xs-i.result c.index-ys-i.result) c.in-Same.is c.in_ok-next_step.ensures.step);
  same = c.in_ok-next_step.ensures.same;
}

pub step_of_all-returns-clause-step : goal.step_of_all-returns-clause-step
step_of_all-returns-clause-step t c =
    items_all c.args.bindings.now c.args.xs.now c.args.ys.now c.loop-i.i (omega arith) c.requires.count c.loop-i.invariant.so_far

pub step_of_bound-returns-then-contains-clause-step : goal.step_of_bound-returns-then-contains-clause-step
step_of_bound-returns-then-contains-clause-step t c = c.requires.same c.args.v c.args.b (sym c.contains.ensures ∙ c.if-contains.true)

pub step_of_bound-returns-in_ok-insert-in-Same-clause-step : goal.step_of_bound-returns-in_ok-insert-in-Same-clause-step
step_of_bound-returns-in_ok-insert-in-Same-clause-step t c =
    let b = c.args.bindings.now in
    step_bound b c.args.v c.args.term.now c.args.b.now Same c.requires.bound (subst (IsStep b c.args.term.now c.args.b.now) c.in-Same.is c.in_ok-next_step.ensures.step)

pub step_of_bound-returns-in_ok-insert-in-Same-clause-same : goal.step_of_bound-returns-in_ok-insert-in-Same-clause-same
step_of_bound-returns-in_ok-insert-in-Same-clause-same t c =
    let b = c.args.bindings.now in
    pair_same b c.args.v c.args.b c.next_step.new.same c.insert.new.self c.in_ok-next_step.ensures.same c.in_ok-insert-in-Same.ensures.updates.0
    (step_bound b c.args.v c.args.term.now c.args.b.now Same c.requires.bound (subst (IsStep b c.args.term.now c.args.b.now) c.in-Same.is c.in_ok-next_step.ensures.step))

pub step_of_bound-returns-in-Clash-clause-step : goal.step_of_bound-returns-in-Clash-clause-step
step_of_bound-returns-in-Clash-clause-step t c =
    let b = c.args.bindings.now in
    step_bound b c.args.v c.args.term.now c.args.b.now Clash c.requires.bound (subst (IsStep b c.args.term.now c.args.b.now) c.in-Clash.is c.in_ok-next_step.ensures.step)

pub step_of_bound-returns-in-Bind-clause-step : goal.step_of_bound-returns-in-Bind-clause-step
step_of_bound-returns-in-Bind-clause-step t c =
    let b = c.args.bindings.now in
    step_bound b c.args.v c.args.term.now c.args.b.now (Bind c.in-Bind.variable c.in-Bind.other) c.requires.bound
    (subst (IsStep b c.args.term.now c.args.b.now) c.in-Bind.is c.in_ok-next_step.ensures.step)

pub step_of_free-returns-in-Some-clause-step : goal.step_of_free-returns-in-Some-clause-step
step_of_free-returns-in-Some-clause-step t c =
    let b = c.args.bindings.now in
    IfOk-weaker c.next_step.result (λ step. IsStep b c.args.a.now c.in-Some.term.now step) (λ step. IsStep b (Var c.args.v) c.args.b.now step)
    (λ step h.
    let from = subst (λ (x : Term). IsStep b x c.in-Some.term.now step) c.requires.variable h in
    subst (λ (y : Term). IsStep b (Var c.args.v) y step) (sym c.in-Var.is) (step_bound_right b (Var c.args.v) c.in-Var.w c.in-Some.term.now step c.in-Some.ensures from))
    c.next_step.ensures.step

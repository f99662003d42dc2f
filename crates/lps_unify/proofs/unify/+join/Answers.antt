use Rattle.std.proofs.Common.{◌≡◌, ◌∙◌, ℕ, Bool, length, sym, ap, subst, arith, List}
use Rattle.std.proofs.lemmas.Result.{IfOk-weaker}
use Rattle.lps_terms.specs.declared.term.Term.{Term}
use Rattle.lps_terms.specs.declared.term.Term.TheVariants.{App, Var}
use Rattle.lps_terms.specs.Put.{put}
use Rattle.lps_unify.specs.Unified.{JoinsOn, JoinsAllOn, AddsFirst}
use Rattle.lps_unify.proofs.Steps.{count_clash, named_same}
use Rattle.lps_unify.proofs.Lists.{extended_more, first_more, first_fails, first_whole, joins_args, joins_swap}
use Rattle.lps_unify.proofs.unify.+join.Goals as goal

pub join-returns-then-len-clause-answer : goal.join-returns-then-len-clause-answer
join-returns-then-len-clause-answer t c = λ s solves e.
    count_clash c.args.bindings.now c.in-App-App.n c.in-App-App.m c.in-App-App.xs c.in-App-App.ys
    (λ same. c.if-len.true (c.len.ensures ∙ same ∙ sym c.len-in-App-App.ensures)) s solves
    (ap (put s) (sym c.in-App-App.is-0) ∙ e ∙ ap (put s) c.in-App-App.is-1)

pub join-returns-else-len-clause-answer : goal.join-returns-else-len-clause-answer
join-returns-else-len-clause-answer t c =
    let old = c.args.bindings.now in
    let new = c.join_all.new.bindings in
    let n = c.in-App-App.n in
    let m = c.in-App-App.m in
    let xs = c.in-App-App.xs in
    let ys = c.in-App-App.ys in
    IfOk-weaker c.join_all.result (λ found. JoinsAllOn found old new c.as_slice.result.now c.as_slice-in-App-App.result.now) (λ found. JoinsOn found old new c.args.a.now c.args.b.now)
    (λ found h.
    let all = subst (λ (zs : List Term). JoinsAllOn found old new xs zs) c.as_slice-in-App-App.ensures
    (subst (λ (zs : List Term). JoinsAllOn found old new zs c.as_slice-in-App-App.result.now) c.as_slice.ensures h) in
    subst (λ (y : Term). JoinsOn found old new c.args.a.now y) (sym c.in-App-App.is-1)
    (subst (λ (x : Term). JoinsOn found old new x (App m ys)) (sym c.in-App-App.is-0) (joins_args found old new n m xs ys (named_same n m c.if-ne.ensures) all)))
    c.join_all.ensures.answer

pub join-returns-in-App-Var-clause-answer : goal.join-returns-in-App-Var-clause-answer
join-returns-in-App-Var-clause-answer t c =
    let old = c.args.bindings.now in
    let new = c.join_variable.new.bindings in
    IfOk-weaker c.join_variable.result (λ found. JoinsOn found old new (Var c.in-App-Var.w) c.args.a.now) (λ found. JoinsOn found old new c.args.a.now c.args.b.now)
    (λ found h. subst (λ (y : Term). JoinsOn found old new c.args.a.now y) (sym c.in-App-Var.is-1) (joins_swap found old new (Var c.in-App-Var.w) c.args.a.now h))
    c.join_variable.ensures.answer

pub join-returns-in-Int-Var-clause-answer : goal.join-returns-in-Int-Var-clause-answer
join-returns-in-Int-Var-clause-answer t c =
    let old = c.args.bindings.now in
    let new = c.join_variable-in-Int-Var.new.bindings in
    IfOk-weaker c.join_variable-in-Int-Var.result (λ found. JoinsOn found old new (Var c.in-Int-Var.w) c.args.a.now) (λ found. JoinsOn found old new c.args.a.now c.args.b.now)
    (λ found h. subst (λ (y : Term). JoinsOn found old new c.args.a.now y) (sym c.in-Int-Var.is-1) (joins_swap found old new (Var c.in-Int-Var.w) c.args.a.now h))
    c.join_variable-in-Int-Var.ensures.answer

pub join-returns-in-Sym-Var-clause-answer : goal.join-returns-in-Sym-Var-clause-answer
join-returns-in-Sym-Var-clause-answer t c =
    let old = c.args.bindings.now in
    let new = c.join_variable-in-Sym-Var.new.bindings in
    IfOk-weaker c.join_variable-in-Sym-Var.result (λ found. JoinsOn found old new (Var c.in-Sym-Var.w) c.args.a.now) (λ found. JoinsOn found old new c.args.a.now c.args.b.now)
    (λ found h. subst (λ (y : Term). JoinsOn found old new c.args.a.now y) (sym c.in-Sym-Var.is-1) (joins_swap found old new (Var c.in-Sym-Var.w) c.args.a.now h))
    c.join_variable-in-Sym-Var.ensures.answer

pub join_all-returns-then-not-found-clause-answer : goal.join_all-returns-then-not-found-clause-answer
join_all-returns-then-not-found-clause-answer t c =
    let mid = c.loop-i.bindings in
    let new = c.join.new.bindings in
    first_fails c.args.bindings.now mid new c.args.xs.now c.args.ys.now c.loop-i.i c.index-xs-i.result c.index-ys-i.result c.requires.count (omega arith)
    c.index-xs-i.is c.index-ys-i.is c.loop-i.invariant.adds
    (subst (λ (found : Bool). JoinsOn found mid new c.index-xs-i.result c.index-ys-i.result) c.if-not-found.true c.in_ok-found.ensures.answer)

pub join_all-loop-i-preserved : goal.join_all-loop-i-preserved
join_all-loop-i-preserved t c =
    let mid = c.loop-i.bindings in
    let new = c.join.new.bindings in
    record {
      extended = extended_more c.args.bindings.now mid new c.loop-i.invariant.extended c.in_ok-found.ensures.extended;
      adds = first_more c.args.bindings.now mid new c.args.xs.now c.args.ys.now c.loop-i.i c.index-xs-i.result c.index-ys-i.result c.requires.count (omega arith)
          c.index-xs-i.is c.index-ys-i.is c.loop-i.invariant.adds
          (subst (λ (found : Bool). JoinsOn found mid new c.index-xs-i.result c.index-ys-i.result) c.if-not-found.false c.in_ok-found.ensures.answer);
    }

pub join_all-returns-clause-answer : goal.join_all-returns-clause-answer
join_all-returns-clause-answer t c =
    let all : c.loop-i.i ≡ length c.args.xs.now = omega arith in
    first_whole c.args.bindings.now c.loop-i.bindings c.args.xs.now c.args.ys.now c.requires.count
    (subst (λ (k : ℕ). AddsFirst k c.args.bindings.now c.loop-i.bindings c.args.xs.now c.args.ys.now) all c.loop-i.invariant.adds)

use Rattle.std.proofs.Common.{ℕ, sym, subst}
use Rattle.lps_unify.specs.Weights.{IsWithin}
use Rattle.lps_unify.specs.Unified.{Binds, IsStep}
use Rattle.lps_unify.proofs.Joins.{extended_refl, extended_bind, solves_bind, fewer_free, adds}
use Rattle.lps_unify.proofs.settle.settle.Goals as goal

pub loop-variable-init : goal.loop-variable-init
loop-variable-init c = record { extended = extended_refl c.args.bindings.now; follows = λ s solves e. solves }

pub first_step-requires-clause-left : goal.first_step-requires-clause-left
first_step-requires-clause-left c = subst (λ (n : ℕ). IsWithin n c.args.a.now) (sym c.loop-variable.invariant.extended.count) c.requires.left

pub first_step-requires-clause-right : goal.first_step-requires-clause-right
first_step-requires-clause-right c = subst (λ (n : ℕ). IsWithin n c.args.b.now) (sym c.loop-variable.invariant.extended.count) c.requires.right

pub returns-in-Same-clause-answer : goal.returns-in-Same-clause-answer
returns-in-Same-clause-answer c =
    adds c.args.bindings.now c.loop-variable.bindings c.args.a.now c.args.b.now c.loop-variable.invariant.extended c.loop-variable.invariant.follows
    (subst (IsStep c.loop-variable.bindings c.args.a.now c.args.b.now) c.in-Same.is c.in_ok-first_step.ensures)

pub returns-in-Clash-clause-answer : goal.returns-in-Clash-clause-answer
returns-in-Clash-clause-answer c = λ s solves e.
    subst (IsStep c.loop-variable.bindings c.args.a.now c.args.b.now) c.in-Clash.is c.in_ok-first_step.ensures s (c.loop-variable.invariant.follows s solves e) e

pub loop-variable-smaller : goal.loop-variable-smaller
loop-variable-smaller c =
    let here : Binds c.loop-variable.bindings c.args.a.now c.args.b.now c.in-Bind.variable c.in-Bind.term =
    subst (IsStep c.loop-variable.bindings c.args.a.now c.args.b.now) c.in-Bind.is c.in_ok-first_step.ensures in
    fewer_free c.loop-variable.bindings c.bind.new.self c.in-Bind.variable c.in-Bind.term c.in_ok-bind-in-Bind.ensures here.bindable

pub loop-variable-preserved : goal.loop-variable-preserved
loop-variable-preserved c =
    let old = c.args.bindings.now in
    let b = c.loop-variable.bindings in
    let v = c.in-Bind.variable in
    let u = c.in-Bind.term in
    let here : Binds b c.args.a.now c.args.b.now v u = subst (IsStep b c.args.a.now c.args.b.now) c.in-Bind.is c.in_ok-first_step.ensures in
    record {
      extended = extended_bind old b c.bind.new.self v u c.in_ok-bind-in-Bind.ensures c.loop-variable.invariant.extended;
      follows = λ s solves e.
          let before = c.loop-variable.invariant.follows s solves e in
          solves_bind b c.bind.new.self v u c.in_ok-bind-in-Bind.ensures s before (here.follows s before e);
    }

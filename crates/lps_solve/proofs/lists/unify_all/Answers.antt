use Rattle.std.proofs.Common.{◌≡◌, ℕ, Bool, length, sym, subst, arith}
use Rattle.lps_unify.specs.Unified.{AddsFirst, JoinsOn}
use Rattle.lps_unify.specs.Weights.{IsWithin}
use Rattle.lps_unify.proofs.Lists.{extended_more, first_start, first_more, first_fails, first_whole}
use Rattle.lps_unify.proofs.Joins.{extended_refl}
use Rattle.lps_solve.proofs.Entering.{within_at, extends_on, joins_on}
use Rattle.lps_solve.proofs.lists.unify_all.Goals as goal

pub loop-i-init : goal.loop-i-init
loop-i-init c = record {
  extended = extended_refl c.args.bindings.now;
  adds = first_start c.args.bindings.now c.args.xs.now c.args.ys.now;
}

pub unify-requires-clause-left : goal.unify-requires-clause-left
unify-requires-clause-left c =
    subst (λ n. IsWithin n c.index-xs-i.result) (sym c.loop-i.invariant.extended.count)
    (within_at _ c.args.xs.now c.loop-i.i c.index-xs-i.result (omega arith) c.index-xs-i.is c.requires.left)

pub unify-requires-clause-right : goal.unify-requires-clause-right
unify-requires-clause-right c =
    subst (λ n. IsWithin n c.index-ys-i.result) (sym c.loop-i.invariant.extended.count)
    (within_at _ c.args.ys.now c.loop-i.i c.index-ys-i.result (omega (arith, c.requires.count)) c.index-ys-i.is c.requires.right)

pub returns-then-not-branch-clause-answer : goal.returns-then-not-branch-clause-answer
returns-then-not-branch-clause-answer c =
    let mid = c.loop-i.bindings in
    let new = c.unify.new.self in
    first_fails c.args.bindings.now mid new c.args.xs.now c.args.ys.now c.loop-i.i c.index-xs-i.result c.index-ys-i.result c.requires.count (omega arith)
    c.index-xs-i.is c.index-ys-i.is c.loop-i.invariant.adds
    (subst (λ (found : Bool). JoinsOn found mid new c.index-xs-i.result c.index-ys-i.result) c.if-not-branch.true
    (joins_on c.in_ok-unify.field-0 mid new c.index-xs-i.result c.index-ys-i.result c.in_ok-unify.ensures.answer))

pub loop-i-preserved : goal.loop-i-preserved
loop-i-preserved c =
    let mid = c.loop-i.bindings in
    let new = c.unify.new.self in
    record {
      extended = extended_more c.args.bindings.now mid new c.loop-i.invariant.extended
          (extends_on c.in_ok-unify.field-0 mid new c.index-xs-i.result c.index-ys-i.result c.in_ok-unify.ensures.answer);
      adds = first_more c.args.bindings.now mid new c.args.xs.now c.args.ys.now c.loop-i.i c.index-xs-i.result c.index-ys-i.result c.requires.count (omega arith)
          c.index-xs-i.is c.index-ys-i.is c.loop-i.invariant.adds
          (subst (λ (found : Bool). JoinsOn found mid new c.index-xs-i.result c.index-ys-i.result) c.if-not-branch.false
          (joins_on c.in_ok-unify.field-0 mid new c.index-xs-i.result c.index-ys-i.result c.in_ok-unify.ensures.answer));
    }

pub returns-clause-answer : goal.returns-clause-answer
returns-clause-answer c =
    let all : c.loop-i.i ≡ length c.args.xs.now = omega arith in
    first_whole c.args.bindings.now c.loop-i.bindings c.args.xs.now c.args.ys.now c.requires.count
    (subst (λ (k : ℕ). AddsFirst k c.args.bindings.now c.loop-i.bindings c.args.xs.now c.args.ys.now) all c.loop-i.invariant.adds)

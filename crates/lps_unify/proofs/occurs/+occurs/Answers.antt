use Rattle.std.proofs.Common.{◌∙◌, ◌+◌, ◌≤◌, sym, ap, arith, ℕ, sum_by, subst, Bool}
use Rattle.lps_terms.specs.declared.term.Term.{Term}
use Rattle.lps_unify.specs.Weights.{occurrences}
use Rattle.lps_unify.specs.Bindings.{standing, resolved}
use Rattle.lps_unify.specs.Unified.{OccursOn}
use Rattle.lps_unify.proofs.Arguments.{within_arg, smaller_arg, sum_more, sum_part, take_whole, occurs_whole}
use Rattle.lps_unify.proofs.occurs.+occurs.Goals as goal

pub occurs_in-occurs_in-requires : goal.occurs_in-occurs_in-requires
occurs_in-occurs_in-requires t c =
    let st = standing c.args.bindings.now in
    let items = c.as_slice-arg-items.result.now in
    let less = smaller_arg c.args.term.now c.in-App.field-0 c.in-App.args items c.in-App.is c.as_slice-arg-items.ensures c.loop-arg.arg-index c.arg-item.result
    c.loop-arg-test.true c.arg-item.is st.rank in (
      omega (arith, less, c.decreases),
      (
        c.requires.free,
        (
          within_arg c.args.term.now c.in-App.field-0 c.in-App.args items c.in-App.is c.as_slice-arg-items.ensures c.loop-arg.arg-index c.arg-item.result c.loop-arg-test.true
              c.arg-item.is st.count c.requires.within,
          c.loop-arg.invariant.seen,
        ),
      ),
    )

pub occurs_in-returns-then-branch-clause-found : goal.occurs_in-returns-then-branch-clause-found
occurs_in-returns-then-branch-clause-found t c =
    let st = standing c.args.bindings.now in
    let items = c.as_slice-arg-items.result.now in
    let f : Term → ℕ = λ x. occurrences c.args.variable (resolved c.args.bindings.now x) in
    let whole = occurs_whole c.args.term.now c.in-App.field-0 c.in-App.args items c.in-App.is c.as_slice-arg-items.ensures c.args.variable st.value in
    let more = sum_more f c.loop-arg.arg-index items c.arg-item.result c.loop-arg-test.true c.arg-item.is in
    let part = sum_part f (c.loop-arg.arg-index + 1) items in
    let here : 1 ≤ f c.arg-item.result =
    subst (λ (found : Bool). OccursOn found c.args.bindings.now c.args.variable c.arg-item.result) c.if-branch.true c.in_ok-occurs_in-in-App.ensures.found in
    omega (arith, whole, more, part, here)

pub occurs_in-returns-after-loop-arg-clause-found : goal.occurs_in-returns-after-loop-arg-clause-found
occurs_in-returns-after-loop-arg-clause-found t c =
    let st = standing c.args.bindings.now in
    let items = c.as_slice-arg-items.result.now in
    let f : Term → ℕ = λ x. occurrences c.args.variable (resolved c.args.bindings.now x) in
    let whole = occurs_whole c.args.term.now c.in-App.field-0 c.in-App.args items c.in-App.is c.as_slice-arg-items.ensures c.args.variable st.value in
    whole ∙ ap (sum_by f) (sym (take_whole c.loop-arg.arg-index items c.loop-arg-test.false)) ∙ c.loop-arg.invariant.absent

use Rattle.std.proofs.Common.{◌∙◌, ◌++◌, ◌∷◌, [], map, sym, ap, arith}
use Rattle.lps_terms.specs.declared.term.Term.TheVariants.{App}
use Rattle.lps_unify.specs.Bindings.{standing, resolved}
use Rattle.lps_unify.proofs.Arguments.{within_arg, smaller_arg, map_more, take_whole, put_whole}
use Rattle.lps_unify.proofs.resolve.+resolve.Goals as goal

pub resolve_term-resolve_term-requires : goal.resolve_term-resolve_term-requires
resolve_term-resolve_term-requires t c =
    let st = standing c.args.bindings.now in
    let items = c.as_slice-arg-items.result.now in
    let less = smaller_arg c.args.term.now c.in-App.name c.in-App.args items c.in-App.is c.as_slice-arg-items.ensures c.loop-arg.arg-index c.arg-item.result
    c.loop-arg-test.true c.arg-item.is st.rank in (
      omega (arith, less, c.decreases),
      within_arg c.args.term.now c.in-App.name c.in-App.args items c.in-App.is c.as_slice-arg-items.ensures c.loop-arg.arg-index c.arg-item.result c.loop-arg-test.true
          c.arg-item.is st.count c.requires,
    )

pub resolve_term-loop-arg-preserved : goal.resolve_term-loop-arg-preserved
resolve_term-loop-arg-preserved t c =
    c.in_ok-push-in-App.ensures.items
    ∙ (λ i. c.loop-arg.invariant i ++ c.in_ok-resolve_term-in-App.ensures i ∷ [])
    ∙ sym (map_more (resolved c.args.bindings.now) c.loop-arg.arg-index c.as_slice-arg-items.result.now c.arg-item.result c.loop-arg-test.true c.arg-item.is)

pub resolve_term-returns-after-loop-arg : goal.resolve_term-returns-after-loop-arg
resolve_term-returns-after-loop-arg t c =
    let st = standing c.args.bindings.now in
    let items = c.as_slice-arg-items.result.now in
    let copies = c.from_vec.ensures ∙ c.loop-arg.invariant ∙ ap (map (resolved c.args.bindings.now)) (take_whole c.loop-arg.arg-index items c.loop-arg-test.false) in
    (λ i. App (c.in_ok-name-in-App.ensures i) (copies i))
    ∙ sym (put_whole c.args.term.now c.in-App.name c.in-App.args items c.in-App.is c.as_slice-arg-items.ensures st.value)

use Rattle.std.proofs.Common.{◌≡◌, ◌∙◌, sym, ap, arith}
use Rattle.std.specs.declared.cmp.Ordering.TheVariants.{Equal}
use Rattle.lps_terms.specs.Order.{args_of, args_of-App, head_cmp, term_cmp}
use Rattle.lps_terms.specs.OrderLaws.{term_cmp-tied}
use Rattle.lps_terms.proofs.Ends.{index_one, slice_cmp-ends}
use Rattle.lps_terms.proofs.compare.+order.Goals as goal

pub order-returns-then-eq : goal.order-returns-then-eq
order-returns-then-eq t c =
    let tied : head_cmp c.args.a.now c.args.b.now ≡ Equal = sym c.order_heads-heads.ensures ∙ index_one _ c.if-eq.ensures in
    let xs : args_of c.args.a.now ≡ c.in-App-App.xs = ap args_of c.in-App-App.is-0 ∙ args_of-App c.in-App-App.field-0-0 _ in
    let ys : args_of c.args.b.now ≡ c.in-App-App.ys = ap args_of c.in-App-App.is-1 ∙ args_of-App c.in-App-App.field-0-1 _ in
    rw (term_cmp-tied _ _ tied, xs, ys) (rw (sym c.as_slice.ensures, sym c.as_slice-then-eq.ensures) c.order_all.ensures)

pub order_all-returns : goal.order_all-returns
order_all-returns t c =
    c.cmp.ensures
    ∙ sym (slice_cmp-ends term_cmp c.loop-i.i c.args.xs.now c.args.ys.now (omega arith) (omega arith) (omega arith))
    ∙ c.loop-i.invariant

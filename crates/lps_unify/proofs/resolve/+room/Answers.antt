use Rattle.std.proofs.Common.{◌≡◌, ◌+◌, ◌<◌, ap, arith, ℕ, take, sum_by}
use Rattle.lps_terms.specs.declared.term.Term.{Term}
use Rattle.lps_terms.specs.Symbols.{symbols_of}
use Rattle.lps_unify.specs.Bindings.{standing, resolved}
use Rattle.lps_unify.proofs.Arguments.{within_arg, smaller_arg, sum_more, sum_part, take_whole, symbols_whole}
use Rattle.lps_unify.proofs.resolve.+room.Goals as goal

pub room_after-room_after-requires : goal.room_after-room_after-requires
room_after-room_after-requires t c =
    let st = standing c.args.bindings.now in
    let items = c.as_slice-arg-items.result.now in
    let less = smaller_arg c.args.term.now c.in-App.field-0 c.in-App.args items c.in-App.is c.as_slice-arg-items.ensures c.loop-arg.arg-index c.arg-item.result
    c.loop-arg-test.true c.arg-item.is st.rank in (
      omega (arith, less, c.decreases),
      within_arg c.args.term.now c.in-App.field-0 c.in-App.args items c.in-App.is c.as_slice-arg-items.ensures c.loop-arg.arg-index c.arg-item.result c.loop-arg-test.true
          c.arg-item.is st.count c.requires,
    )

pub room_after-returns-in_err-left-in-App-2 : goal.room_after-returns-in_err-left-in-App-2
room_after-returns-in_err-left-in-App-2 t c =
    let st = standing c.args.bindings.now in
    let items = c.as_slice-arg-items.result.now in
    let f : Term → ℕ = λ x. symbols_of (resolved c.args.bindings.now x) in
    let whole = symbols_whole c.args.term.now c.in-App.field-0 c.in-App.args items c.in-App.is c.as_slice-arg-items.ensures st.value in
    let more = sum_more f c.loop-arg.arg-index items c.arg-item.result c.loop-arg-test.true c.arg-item.is in
    let part = sum_part f (c.loop-arg.arg-index + 1) items in
    let so_far : 1 + (c.loop-arg.left + sum_by f (take c.loop-arg.arg-index items)) ≡ c.args.room = c.loop-arg.invariant in
    let over : c.loop-arg.left < f c.arg-item.result = c.in_err-left-in-App-2.ensures in
    rw c.from_residual-in_err-left-in-App-2.ensures (omega (arith, whole, more, part, so_far, over))

pub room_after-loop-arg-preserved : goal.room_after-loop-arg-preserved
room_after-loop-arg-preserved t c =
    let items = c.as_slice-arg-items.result.now in
    let f : Term → ℕ = λ x. symbols_of (resolved c.args.bindings.now x) in
    let more = sum_more f c.loop-arg.arg-index items c.arg-item.result c.loop-arg-test.true c.arg-item.is in
    let so_far : 1 + (c.loop-arg.left + sum_by f (take c.loop-arg.arg-index items)) ≡ c.args.room = c.loop-arg.invariant in
    let here : c.in_ok-left-in-App-2.left + f c.arg-item.result ≡ c.loop-arg.left = c.in_ok-left-in-App-2.ensures in
    omega (arith, more, so_far, here)

pub room_after-returns-after-loop-arg : goal.room_after-returns-after-loop-arg
room_after-returns-after-loop-arg t c =
    let st = standing c.args.bindings.now in
    let items = c.as_slice-arg-items.result.now in
    let f : Term → ℕ = λ x. symbols_of (resolved c.args.bindings.now x) in
    let whole = symbols_whole c.args.term.now c.in-App.field-0 c.in-App.args items c.in-App.is c.as_slice-arg-items.ensures st.value in
    let all = ap (sum_by f) (take_whole c.loop-arg.arg-index items c.loop-arg-test.false) in
    let so_far : 1 + (c.loop-arg.left + sum_by f (take c.loop-arg.arg-index items)) ≡ c.args.room = c.loop-arg.invariant in
    omega (arith, whole, all, so_far)

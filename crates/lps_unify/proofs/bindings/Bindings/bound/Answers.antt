use Rattle.std.proofs.Common.{◌∙◌, sym, subst, length, ◌<◌, None, Some, arith}
use Rattle.lps_unify.specs.Slots.{IsBound, IsKept}
use Rattle.lps_unify.proofs.Keeping.{looked_up, is_free, slot_same, trailed}
use Rattle.lps_unify.proofs.bindings.Bindings.bound.Goals as goal

pub returns-in_err-entry : goal.returns-in_err-entry
returns-in_err-entry c =
    let slots = c.self.inside.slots.items in
    let kept = subst (IsKept slots) c.self.view_is c.self.invariant in
    let each = kept.each in
    let lt : c.args.variable < length slots = omega (arith, c.requires) in
    let at = slot_same slots c.args.variable c.index.result.now None lt c.index.ensures c.in_err-entry.was in
    rw c.from_residual.ensures (is_free c.args.self.now slots c.args.variable kept lt at)

pub returns-in-Bind : goal.returns-in-Bind
returns-in-Bind c =
    let slots = c.self.inside.slots.items in
    let kept = subst (IsKept slots) c.self.view_is c.self.invariant in
    let each = kept.each in
    let lt : c.args.variable < length slots = omega (arith, c.requires) in
    let at = slot_same slots c.args.variable c.index.result.now (Some c.in_ok-entry.entry) lt c.index.ensures c.in_ok-entry.was in
    subst (λ b. IsBound b c.args.variable c.in-Bind.term) c.self.view_is
    (looked_up (trailed c.self.inside.first c.self.inside.added.items) slots c.args.variable c.in_ok-entry.entry c.in-Bind.field-0 c.in-Bind.term c.index-2.result.now
    c.self.invariant lt at (sym c.index-2.ensures ∙ c.in-Bind.is))

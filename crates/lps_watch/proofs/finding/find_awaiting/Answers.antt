use Rattle.std.proofs.Common.{◌≡◌, ◌∙◌, Contains, List, Some, subst, sym}
use Rattle.std.specs.List.{filter}
use Rattle.lps_residual.specs.declared.waking.Wake.{Wake}
use Rattle.lps_watch.proofs.Along.{Awaits, at_least, is_from, same_wake}
use Rattle.lps_watch.proofs.Members.{true_not_false}
use Rattle.lps_watch.proofs.Walks.{MayStop, Walked, all_found, nothing, one_found}
use Rattle.lps_watch.proofs.finding.find_awaiting.Goals as goal

pub loop-wake-init : goal.loop-wake-init
loop-wake-init c =
    let whole = c.args.wakes.now.keys in
    let before = c.args.found.now.keys in
    let left : c.into_iter-wake-iterator.result ≡ filter (is_from (Some c.args.awaited)) whole = c.into_iter-wake-iterator.ensures.into_iter_gives ∙ c.range-wake-items.ensures.between tt in
    subst (λ (ws : List Wake). Walked (λ w. w) (Awaits (Some c.args.awaited)) whole before ws before × MayStop (Awaits (Some c.args.awaited)) ws) (sym left)
    (at_least (Some c.args.awaited) whole before c.range-wake-items.ensures.ordered)

pub returns-then-not-are_same : goal.returns-then-not-are_same
returns-then-not-are_same c =
    let P = Awaits (Some c.args.awaited) in
    let wake : Wake = c.in-Some.wake.now in
    let stop = subst (MayStop P) c.in-Some.ensures.steps c.loop-wake.invariant.1 in
    let other : P wake → ⊥ = λ same. true_not_false (sym (c.are_same.ensures.1 same) ∙ c.if-not-are_same.true) in
    all_found (λ w. w) P c.args.wakes.now.keys c.args.found.now.keys c.loop-wake.wake-iterator c.loop-wake.found.keys c.loop-wake.invariant.0
    (subst (λ (ws : List Wake). (q : Wake) → Contains ws q → P q → ⊥) (sym c.in-Some.ensures.steps) (stop.0 other))

pub loop-wake-preserved : goal.loop-wake-preserved
loop-wake-preserved c =
    let P = Awaits (Some c.args.awaited) in
    let whole = c.args.wakes.now.keys in
    let before = c.args.found.now.keys in
    let wake : Wake = c.in-Some.wake.now in (
      one_found (λ w. w) P whole before wake c.next.new.self c.loop-wake.found.keys c.add_wake.new.wakes.keys c.in_ok-copy_wake.field-0
          (subst (λ (ws : List Wake). Walked (λ w. w) P whole before ws c.loop-wake.found.keys) c.in-Some.ensures.steps c.loop-wake.invariant.0)
          (c.are_same.ensures.0 c.if-not-are_same.false)
          (same_wake wake c.in_ok-copy_wake.field-0 c.in_ok-copy_wake.ensures) c.in_ok-add_wake.ensures.added,
      (subst (MayStop P) c.in-Some.ensures.steps c.loop-wake.invariant.1).1,
    )

pub returns : goal.returns
returns c =
    let P = Awaits (Some c.args.awaited) in
    all_found (λ w. w) P c.args.wakes.now.keys c.args.found.now.keys c.loop-wake.wake-iterator c.loop-wake.found.keys c.loop-wake.invariant.0
    (λ q there holds. nothing q (subst (λ (ws : List Wake). Contains ws q) c.in-None.ensures.steps.0 there))

use Rattle.std.proofs.Common.{Contains, List, arith, subst, sym}
use Rattle.lps_residual.specs.declared.waking.Wake.{Wake}
use Rattle.lps_watch.specs.Watches.{due_of}
use Rattle.lps_watch.specs.declared.due.Due.{Due}
use Rattle.lps_watch.proofs.Along.{IsDue, from_first, same_due}
use Rattle.lps_watch.proofs.Walks.{MayStop, Walked, all_found, nothing, one_found}
use Rattle.lps_watch.proofs.finding.find_due.Goals as goal

pub loop-due-init : goal.loop-due-init
loop-due-init c =
    let P = IsDue c.args.time in
    let whole = c.args.dues.now.keys in
    let before = c.args.found.now.keys in
    let gives = c.into_iter-due-iterator.ensures.into_iter_gives in
    subst (λ (ds : List Due). Walked due_of P whole before ds before × MayStop P ds) (sym gives.0) (from_first c.args.time whole before gives.4)

pub returns-then-due-time : goal.returns-then-due-time
returns-then-due-time c =
    let P = IsDue c.args.time in
    let due : Due = c.in-Some.due.now in
    let stop = subst (MayStop P) c.in-Some.ensures.steps c.loop-due.invariant.1 in
    let other : P due → ⊥ = λ past. omega (arith, past, c.if-due-time.true) in
    all_found due_of P c.args.dues.now.keys c.args.found.now.keys c.loop-due.due-iterator c.loop-due.found.keys c.loop-due.invariant.0
    (subst (λ (ds : List Due). (q : Due) → Contains ds q → P q → ⊥) (sym c.in-Some.ensures.steps) (stop.0 other))

pub loop-due-preserved : goal.loop-due-preserved
loop-due-preserved c =
    let P = IsDue c.args.time in
    let whole = c.args.dues.now.keys in
    let before = c.args.found.now.keys in
    let due : Due = c.in-Some.due.now in
    let wake : Wake = record { awaited = c.in_ok-awaited.awaited; due = due.time } in (
      one_found due_of P whole before due c.next.new.self c.loop-due.found.keys c.add_wake.new.wakes.keys wake
          (subst (λ (ds : List Due). Walked due_of P whole before ds c.loop-due.found.keys) c.in-Some.ensures.steps c.loop-due.invariant.0)
          (omega (arith, c.if-due-time.false))
          (same_due due c.in_ok-awaited.awaited c.in_ok-awaited.ensures) c.in_ok-add_wake.ensures.added,
      (subst (MayStop P) c.in-Some.ensures.steps c.loop-due.invariant.1).1,
    )

pub returns : goal.returns
returns c =
    let P = IsDue c.args.time in
    all_found due_of P c.args.dues.now.keys c.args.found.now.keys c.loop-due.due-iterator c.loop-due.found.keys c.loop-due.invariant.0
    (λ q there holds. nothing q (subst (λ (ds : List Due). Contains ds q) c.in-None.ensures.steps.0 there))

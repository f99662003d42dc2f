use Rattle.std.proofs.Common.{rules, ◌+◌, refl, arith, subst, sym}
use Rattle.lps_windows.specs.Conditions.{BeginsAt}
use Rattle.lps_residual.proofs.Waits.{begins_first, stands_first}
use Rattle.lps_residual.proofs.waiting.first_begin.Goals as goal

pub returns-in-At : goal.returns-in-At
returns-in-At c =
    let first = stands_first c.args.node.now.rest c.in_ok-time.field-0.now (search rules) in
    begins_first c.args.unknowns c.args.now c.args.node.now _ c.in_ok-time.field-0.now first.0 first.1
    (subst (λ item. BeginsAt item c.in-At.time c.args.now (c.args.now + 1)) (sym c.in-At.is) (refl, omega arith)) c.requires.timed

pub returns-in-Span : goal.returns-in-Span
returns-in-Span c =
    let first = stands_first c.args.node.now.rest c.in_ok-time.field-0.now (search rules) in
    begins_first c.args.unknowns c.args.now c.args.node.now _ c.in_ok-time.field-0.now first.0 first.1
    (subst (λ item. BeginsAt item c.in-Span.from c.args.now c.args.now) (sym c.in-Span.is) (refl, refl)) c.requires.timed

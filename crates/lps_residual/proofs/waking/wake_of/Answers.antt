use Rattle.std.proofs.Common.{rules}
use Rattle.lps_residual.proofs.Sleeping.{at_is_woken, span_is_woken}
use Rattle.lps_residual.proofs.Waits.{stands_first}
use Rattle.lps_residual.proofs.waking.wake_of.Goals as goal

pub returns-in_ok-window-in-At : goal.returns-in_ok-window-in-At
returns-in_ok-window-in-At c =
    let first = stands_first c.args.node.now.rest c.in-Some.first.now (search rules) in
    at_is_woken c.window_law.ensures.decide c.window_law.ensures.none c.args.text.now c.args.node.now _ first.0 first.1 c.in-At.field-0 c.in-At.time c.in-At.is c.in_ok-window-in-At.window
    c.in_ok-window-in-At.ensures c.first_of.result c.first_of.ensures

pub returns-in_ok-awaited-in-Span : goal.returns-in_ok-awaited-in-Span
returns-in_ok-awaited-in-Span c =
    let first = stands_first c.args.node.now.rest c.in-Some.first.now (search rules) in
    span_is_woken c.window_law.ensures.decide c.window_law.ensures.none c.args.text.now c.args.node.now _ first.0 first.1 c.in-Span.atom c.in-Span.from c.in-Span.field-2 c.in-Span.is
    c.in_ok-window-in-Span.window c.in_ok-window-in-Span.ensures c.past.result c.past.ensures c.in_ok-awaited-in-Span.awaited c.in_ok-awaited-in-Span.ensures

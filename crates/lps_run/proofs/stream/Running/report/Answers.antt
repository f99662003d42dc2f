use Rattle.std.proofs.Common.{ℕ, ◌∙◌, ◌≤◌, ◌+◌, ◌^◌, [], length, arith, subst, None, MatchResult}
use Rattle.std.proofs.lemmas.Result.{err_from_is_err_and, IfErr-at_err}
use Rattle.lps_terms.specs.declared.text.Text.{Text}
use Rattle.lps_meaning.specs.declared.goal.Counts.{Counts}
use Rattle.lps_model.specs.Run.{first_trace}
use Rattle.lps_run.specs.Stopping.{CountedAt, Reported, Stopped, StopsAtLine}
use Rattle.lps_run.proofs.Steps.{counted_behind}
use Rattle.lps_run.proofs.Pieces.{keeps_line}
use Rattle.lps_run.proofs.stream.Running.report.Goals as goal

pub take_stream-requires-clause-run : goal.take_stream-requires-clause-run
take_stream-requires-clause-run g c = ([], first_trace c.args.self.now.engine.facts, c.requires.stands)

pub returns-in_err-begin-clause-told : goal.returns-in_err-begin-clause-told
returns-in_err-begin-clause-told g c = λ before start known told.
    let p = err_from_is_err_and c.from_residual.result c.from_residual.ensures.1 in
    rw (p.1, p.2) (c.in_err-begin.ensures.told before.left start _ told)

pub returns-in_err-take_stream-clause-limit : goal.returns-in_err-take_stream-clause-limit
returns-in_err-take_stream-clause-limit g c = λ before known.
    let p = err_from_is_err_and c.from_residual-in_err-take_stream.result c.from_residual-in_err-take_stream.ensures.1 in
    let k = c.in_err-take_stream.ensures.limit before known in
    rw (p.1, p.2) (record { after = k.after; known = k.known; limit = k.limit })

pub returns-in_err-take_stream-clause-told : goal.returns-in_err-take_stream-clause-told
returns-in_err-take_stream-clause-told g c = λ before start known told.
    let p = err_from_is_err_and c.from_residual-in_err-take_stream.result c.from_residual-in_err-take_stream.ensures.1 in
    let stopped = c.in_err-take_stream.ensures.told before start known (c.in_ok-begin.ensures.told before.left start None told) in
    rw (p.1, p.2) stopped

pub returns-in_err-take_stream-clause-counted : goal.returns-in_err-take_stream-clause-counted
returns-in_err-take_stream-clause-counted g c =
    let p = err_from_is_err_and c.from_residual-in_err-take_stream.result c.from_residual-in_err-take_stream.ensures.1 in
    let faults = g.E.Source.faults c.take_stream.new.events in
    rw (p.1, p.2) (subst (λ (prints : ℕ). CountedAt c.in_err-take_stream.field-0.0 (g.E.Source.faults c.args.events.now) faults prints (g.D.Desk.print_faults c.take_stream.new.desk)) c.in_ok-begin.ensures.counted.1 c.in_err-take_stream.ensures.counted)

pub returns-clause-counted : goal.returns-clause-counted
returns-clause-counted g c =
    counted_behind c.end.result _ _ _ _ _ c.in_ok-take_stream.ensures.counted.0 (c.in_ok-take_stream.ensures.counted.1 ∙ c.in_ok-begin.ensures.counted.1) c.end.ensures.kind c.end.ensures.counted

pub returns-clause-limit : goal.returns-clause-limit
returns-clause-limit g c = λ before known.
    let k = c.in_ok-take_stream.ensures.limit before known in
    let kept : length before.left ≤ 2 ^ 36 + length k.after.left = omega (arith, k.limit) in
    keeps_line before k.after c.end.result _ k.known (λ stop e. IfErr-at_err StopsAtLine e c.end.ensures.kind) kept

pub returns-clause-told : goal.returns-clause-told
returns-clause-told g c = λ before start known told.
    let done = c.in_ok-take_stream.ensures.told before start known (c.in_ok-begin.ensures.told before.left start None told) in
    let ended = c.in_ok-take_stream.ensures.ended before known in
    let now = g.D.Desk.printed c.end.new.desk in
    let source = g.E.Source.stream c.take_stream.new.events in
    subst (λ (t : Text). MatchResult c.end.result (λ (counts : Counts). Reported t before.left start now source counts) (λ stop. Stopped t before.left start now source stop)) c.take_stream.ensures.text
    (c.end.ensures.told before.left start source ended.0 ended.1 ended.2 done)

use Rattle.std.proofs.Common.{◌≡◌, ◌∙◌, ap, length, subst, MatchResult}
use Rattle.std.proofs.lemmas.Result.{err_from_is_err_and}
use Rattle.lps_terms.specs.declared.text.Text.{Text}
use Rattle.lps_run.specs.declared.stream.Running.{Running}
use Rattle.lps_run.specs.Stopping.{Reported, Stopped}
use Rattle.lps_run.proofs.Steps.{not_begun, not_begun_counted, not_begun_limit}
use Rattle.lps_run.proofs.stream.run.Goals as goal

pub returns-in_err-running-clause-limit : goal.returns-in_err-running-clause-limit
returns-in_err-running-clause-limit g c = λ before known.
    let p = err_from_is_err_and c.from_residual.result c.from_residual.ensures.1 in
    let stop = c.in_err-running.field-0.0 in
    rw (p.1, p.2) (record { after = before; known = known; limit = not_begun_limit c.args.text stop (length before.left) c.in_err-running.ensures.ended })

pub returns-in_err-running-clause-told : goal.returns-in_err-running-clause-told
returns-in_err-running-clause-told g c = λ before start known told.
    let p = err_from_is_err_and c.from_residual.result c.from_residual.ensures.1 in
    rw (p.1, p.2) (not_begun c.args.text before.left start _ _ c.in_err-running.field-0.0 c.in_err-running.ensures.ended told)

pub returns-in_err-running-clause-counted : goal.returns-in_err-running-clause-counted
returns-in_err-running-clause-counted g c =
    let p = err_from_is_err_and c.from_residual.result c.from_residual.ensures.1 in
    rw (p.1, p.2) (not_begun_counted c.args.text c.in_err-running.field-0.0 _ _ c.in_err-running.ensures.ended)

pub returns-clause-told : goal.returns-clause-told
returns-clause-told g c = λ before start known told.
    let same : c.deref_mut.result.now.engine.text ≡ c.args.text = ap (λ (running : Running). running.engine.text) c.deref_mut.ensures.value ∙ c.in_ok-running.ensures.text in
    subst
    (λ (t : Text). MatchResult c.report.result (λ counts. Reported t before.left start (g.D.Desk.printed c.report.new.desk) (g.E.Source.stream c.report.new.events) counts)
    (λ stop. Stopped t before.left start (g.D.Desk.printed c.report.new.desk) (g.E.Source.stream c.report.new.events) stop))
    same (c.report.ensures.told before start known told)

use Rattle.std.proofs.Common.{◌∙◌, ap, sym, subst}
use Rattle.std.proofs.lemmas.Result.{err_from_is_err_and}
use Rattle.lps_meaning.specs.declared.goal.Counts.{Counts}
use Rattle.lps_meaning.specs.Reports.{last_line}
use Rattle.lps_run.specs.Stopping.{Reported}
use Rattle.lps_run.proofs.Steps.{last_part, last_whole, unended_front}
use Rattle.lps_run.proofs.stream.Running.end.Goals as goal

pub returns-in_err-last-clause-told : goal.returns-in_err-last-clause-told
returns-in_err-last-clause-told g c = λ stream start source last known none done.
    let p = err_from_is_err_and c.from_residual.result c.from_residual.ensures.1 in
    rw (p.1, p.2) (unended_front done)

pub returns-in_err-print-clause-told : goal.returns-in_err-print-clause-told
returns-in_err-print-clause-told g c = λ stream start source last known none done.
    let p = err_from_is_err_and c.from_residual-in_err-print.result c.from_residual-in_err-print.ensures.1 in
    let spelled = c.as_slice.ensures.value ∙ c.in_ok-last.ensures ∙ ap last_line c.counts-counts.ensures in
    rw (p.1, p.2, c.in_err-print.ensures.cause.0) (last_part done c.as_slice.result.now _ spelled c.in_err-print.ensures.front)

pub returns-clause-told : goal.returns-clause-told
returns-clause-told g c = λ stream start source last known none done.
    let spelled = c.as_slice.ensures.value ∙ c.in_ok-last.ensures ∙ ap last_line c.counts-counts.ensures in
    subst (λ (n : Counts). Reported c.args.self.now.engine.text stream start (g.D.Desk.printed c.print.new.desk) source n) (sym c.counts-counts.ensures)
    (last_whole done c.as_slice.result.now _ source last known none spelled c.in_ok-print.ensures.all)

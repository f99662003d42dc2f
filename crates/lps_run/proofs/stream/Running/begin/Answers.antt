use Rattle.std.proofs.Common.{◌∙◌, [], Some, ap, sym, refl, inl}
use Rattle.std.proofs.lemmas.List.{append-nil}
use Rattle.std.proofs.lemmas.Result.{err_from_is_err_and}
use Rattle.lps_run.specs.Judged.{ended}
use Rattle.lps_run.proofs.Steps.{begun, block_printed, last_counted}
use Rattle.lps_run.proofs.stream.Running.begin.Goals as goal

pub returns-in_err-block-clause-told : goal.returns-in_err-block-clause-told
returns-in_err-block-clause-told g c = λ stream start source told.
    let p = err_from_is_err_and c.from_residual.result c.from_residual.ensures.1 in
    rw (p.1, p.2) (inl told)

pub returns-in_err-block-clause-kind : goal.returns-in_err-block-clause-kind
returns-in_err-block-clause-kind g c =
    let p = err_from_is_err_and c.from_residual.result c.from_residual.ensures.1 in
    rw (p.1, p.2) tt

pub returns-in_err-block-clause-counted : goal.returns-in_err-block-clause-counted
returns-in_err-block-clause-counted g c =
    let p = err_from_is_err_and c.from_residual.result c.from_residual.ensures.1 in
    rw (p.1, p.2) (refl, refl)

pub returns-clause-counted : goal.returns-clause-counted
returns-clause-counted g c = last_counted _ _ _ _ _ c.print.result refl refl c.print.ensures.cause

pub returns-clause-told : goal.returns-clause-told
returns-clause-told g c = λ stream start source told.
    let running = c.args.self.now in
    let block = c.in_ok-block.block.items in
    let made = begun running stream block c.none.result c.requires.empty c.requires.oldest c.requires.keeps c.requires.stands c.none.ensures c.in_ok-block.ensures in
    block_printed running.engine.text running stream (ended stream) [] block c.as_slice.result.now start (g.D.Desk.printed c.args.desk.now) (g.D.Desk.printed c.print.new.desk) source
    _ _ c.print.result made refl c.as_slice.ensures.value (told ∙ ap Some (sym (append-nil start))) c.print.ensures.all c.print.ensures.front c.print.ensures.cause

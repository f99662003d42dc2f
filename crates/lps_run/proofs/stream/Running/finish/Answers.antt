use Rattle.std.proofs.Common.{[]}
use Rattle.std.proofs.lemmas.Result.{err_from_is_err_and}
use Rattle.lps_run.specs.declared.stream.Running.{Running}
use Rattle.lps_run.proofs.Steps.{finish_bad, finish_due, finish_taken, none_left, standing_front}
use Rattle.lps_run.proofs.stream.Running.finish.Goals as goal

pub returns-in_err-finish-clause-told : goal.returns-in_err-finish-clause-told
returns-in_err-finish-clause-told g c = λ stream start source s part. let p = err_from_is_err_and c.from_residual.result c.from_residual.ensures.1 in rw (p.1, p.2) (standing_front s)

pub returns-in-None-clause-told : goal.returns-in-None-clause-told
returns-in-None-clause-told g c = λ stream start source s part.
    let none = rw c.in-None.is at c.in_ok-finish.ensures.answer in
    none_left c.args.self.now.engine c.args.self.now.reader c.finish.new.self s none

pub returns-in-Some-Err-clause-told : goal.returns-in-Some-Err-clause-told
returns-in-Some-Err-clause-told g c = λ stream start source s part.
    let bad = rw (c.in-Some-Err.is, c.in-Some-Err.field-0-is) at c.in_ok-finish.ensures.answer in
    finish_bad c.args.self.now.engine c.args.self.now.reader c.finish.new.self s part c.in-Some-Err.bad bad

pub returns-in-Some-Ok-clause-told : goal.returns-in-Some-Ok-clause-told
returns-in-Some-Ok-clause-told g c = λ stream start source s part.
    let taken = rw (c.in-Some-Ok.is, c.in-Some-Ok.field-0-is) at c.in_ok-finish.ensures.answer in
    let due = finish_due c.args.self.now.engine c.args.self.now.reader c.finish.new.self s part c.in-Some-Ok.batch taken in
    let before : Running = record { engine = c.args.self.now.engine; reader = c.finish.new.self } in
    finish_taken c.args.self.now.engine.text before c.take_batch.new.self stream start _ source c.take_batch.result due.1 c.take_batch.ensures.reader (c.take_batch.ensures.told stream [] start source due.0)

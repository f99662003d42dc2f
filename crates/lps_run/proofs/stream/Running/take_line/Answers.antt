use Rattle.std.proofs.lemmas.Result.{err_from_is_err_and}
use Rattle.lps_run.proofs.Steps.{bad_met, batch_due, nothing_more, standing_front}
use Rattle.lps_run.proofs.stream.Running.take_line.Goals as goal

pub returns-in_err-next-clause-told : goal.returns-in_err-next-clause-told
returns-in_err-next-clause-told g c = λ stream rest start source s. let p = err_from_is_err_and c.from_residual.result c.from_residual.ensures.1 in rw (p.1, p.2) (standing_front s)

pub returns-in-None-clause-told : goal.returns-in-None-clause-told
returns-in-None-clause-told g c = λ stream rest start source s.
    let none = rw c.in-None.is at c.in_ok-next.ensures.answer in
    (nothing_more c.args.self.now.engine c.args.self.now.reader c.next.new.self s none, λ e. none.part)

pub returns-in-Some-Err-clause-told : goal.returns-in-Some-Err-clause-told
returns-in-Some-Err-clause-told g c = λ stream rest start source s.
    let bad = rw (c.in-Some-Err.is, c.in-Some-Err.field-0-is) at c.in_ok-next.ensures.answer in
    bad_met c.args.self.now.engine c.args.self.now.reader c.next.new.self s c.in-Some-Err.bad bad

pub returns-in_err-take_batch-in-Some-Ok-clause-told : goal.returns-in_err-take_batch-in-Some-Ok-clause-told
returns-in_err-take_batch-in-Some-Ok-clause-told g c = λ stream rest start source s.
    let p = err_from_is_err_and c.from_residual-in_err-take_batch-in-Some-Ok.result c.from_residual-in_err-take_batch-in-Some-Ok.ensures.1 in
    let taken = rw (c.in-Some-Ok.is, c.in-Some-Ok.field-0-is) at c.in_ok-next.ensures.answer in
    rw (p.1, p.2) (c.in_err-take_batch-in-Some-Ok.ensures.told stream rest start source (batch_due c.args.self.now.engine c.args.self.now.reader c.next.new.self s c.in-Some-Ok.batch taken))

pub returns-in_ok-take_batch-in-Some-Ok-clause-told : goal.returns-in_ok-take_batch-in-Some-Ok-clause-told
returns-in_ok-take_batch-in-Some-Ok-clause-told g c = λ stream rest start source s.
    let taken = rw (c.in-Some-Ok.is, c.in-Some-Ok.field-0-is) at c.in_ok-next.ensures.answer in
    (c.in_ok-take_batch-in-Some-Ok.ensures.told stream rest start source (batch_due c.args.self.now.engine c.args.self.now.reader c.next.new.self s c.in-Some-Ok.batch taken), λ e. absurd cc)

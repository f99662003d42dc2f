use Rattle.std.proofs.Common.{◌∙◌, ◌≡◌, ◌+◌, ℕ, None, refl, sym, ap, arith}
use Rattle.std.proofs.lemmas.Result.{err_from_is_err_and}
use Rattle.lps_terms.specs.declared.text.Text.{Text}
use Rattle.lps_run.specs.declared.stream.Running.{Running}
use Rattle.lps_run.specs.Judged.{batch_fault}
use Rattle.lps_batches.proofs.Few.{batch_few}
use Rattle.lps_run.proofs.Judging.{batch_may_come}
use Rattle.lps_run.proofs.Steps.{due_front, due_refused, due_limit, due_made, due_stopped, block_printed, run_more}
use Rattle.lps_run.proofs.stream.Running.take_batch.Goals as goal

pub returns-in-Some-clause-told : goal.returns-in-Some-clause-told
returns-in-Some-clause-told g c = λ stream rest start source due.
    let number : ℕ = c.cycles-number.result + 1 in
    due_refused due number c.lines-line.result c.in-Some.kind (ap (λ n. n + 1) c.cycles-number.ensures.count) c.lines-line.ensures
    (ap (λ (t : Text). batch_fault t number c.args.batch) (sym c.text.ensures) ∙ sym c.batch_fault.ensures ∙ c.in-Some.is)

pub returns-then-cycles-ge-MOST_CYCLES-clause-told : goal.returns-then-cycles-ge-MOST_CYCLES-clause-told
returns-then-cycles-ge-MOST_CYCLES-clause-told g c = λ stream rest start source due.
    let number : ℕ = c.cycles-number.result + 1 in
    due_limit due number (ap (λ n. n + 1) c.cycles-number.ensures.count)
    (ap (λ (t : Text). batch_fault t number c.args.batch) (sym c.text.ensures) ∙ sym c.batch_fault.ensures ∙ c.in_default.is)
    (omega (arith, c.if-cycles-ge-MOST_CYCLES.true, c.cycles.ensures.count, c.cycles.ensures.few))

pub cycle-requires-clause-few : goal.cycle-requires-clause-few
cycle-requires-clause-few g c = batch_few c.requires.read.0 c.args.batch c.requires.read.1.read

pub cycle-requires-clause-events : goal.cycle-requires-clause-events
cycle-requires-clause-events g c =
    let number : ℕ = c.cycles-number.result + 1 in
    let fine : batch_fault c.args.self.now.engine.text number c.args.batch ≡ None = ap (λ (t : Text). batch_fault t number c.args.batch) (sym c.text.ensures) ∙ sym c.batch_fault.ensures ∙ c.in_default.is in
    batch_may_come c.args.self.now.engine.text number c.args.batch fine (c.read_events_are_ground.ensures c.requires.read.0 c.args.batch c.requires.read.1)

pub returns-in_err-cycle-clause-told : goal.returns-in_err-cycle-clause-told
returns-in_err-cycle-clause-told g c = λ stream rest start source due.
    let number : ℕ = c.cycles-number.result + 1 in
    let fine : batch_fault c.args.self.now.engine.text number c.args.batch ≡ None = ap (λ (t : Text). batch_fault t number c.args.batch) (sym c.text.ensures) ∙ sym c.batch_fault.ensures ∙ c.in_default.is in
    let p = err_from_is_err_and c.from_residual.result c.from_residual.ensures.1 in
    rw (p.1, p.2) (due_stopped due number c.in_err-cycle.field-0.0 source (ap (λ n. n + 1) c.cycles-number.ensures.count) fine c.in_err-cycle.ensures.full)

pub returns-in_err-block-clause-run : goal.returns-in_err-block-clause-run
returns-in_err-block-clause-run g c = run_more _ c.cycle.new.self c.args.batch.events c.in_ok-cycle.cycle c.in_ok-cycle.ensures.stands c.requires.run

pub returns-clause-run : goal.returns-clause-run
returns-clause-run g c = run_more _ c.cycle.new.self c.args.batch.events c.in_ok-cycle.cycle c.in_ok-cycle.ensures.stands c.requires.run

pub returns-in_err-block-clause-told : goal.returns-in_err-block-clause-told
returns-in_err-block-clause-told g c = λ stream rest start source due. let p = err_from_is_err_and c.from_residual-in_err-block.result c.from_residual-in_err-block.ensures.1 in rw (p.1, p.2) (due_front due)

pub returns-clause-told : goal.returns-clause-told
returns-clause-told g c = λ stream rest start source due.
    let old = c.args.self.now in
    let new : Running = record { engine = c.cycle.new.self; reader = old.reader } in
    let number : ℕ = c.cycles-number.result + 1 in
    let cycle = c.in_ok-cycle.cycle in
    let block = c.in_ok-block.block.items in
    let fine : batch_fault old.engine.text number c.args.batch ≡ None = ap (λ (t : Text). batch_fault t number c.args.batch) (sym c.text.ensures) ∙ sym c.batch_fault.ensures ∙ c.in_default.is in
    let made = due_made due c.report_law.ensures.blocks_stay new number cycle block (ap (λ n. n + 1) c.cycles-number.ensures.count) fine c.cycle.ensures.text c.cycle.ensures.prefer c.cycle.ensures.keep refl c.in_ok-cycle.ensures.count c.in_ok-cycle.ensures.stands c.in_ok-block.ensures in
    block_printed old.engine.text new stream rest due.blocks block c.as_slice.result.now start (g.D.Desk.printed c.args.desk.now) (g.D.Desk.printed c.print.new.desk) source
    _ _ c.print.result made c.cycle.ensures.text c.as_slice.ensures.value due.told c.print.ensures.all c.print.ensures.front c.print.ensures.cause

use Rattle.std.proofs.Common.{◌≡◌, ◌∙◌, ◌+◌, length, refl, ap, subst, arith, length-append, None}
use Rattle.std.proofs.lemmas.Result.{err_from_is_err_and}
use Rattle.lps_terms.specs.declared.text.Text.{Text}
use Rattle.lps_batches.specs.Stream.{Reader}
use Rattle.lps_run.specs.declared.stream.Running.{Running}
use Rattle.lps_run.specs.Stopping.{Stopped}
use Rattle.lps_run.proofs.Steps.{piece_fed, standing_front}
use Rattle.lps_run.proofs.stream.Running.take_piece.Goals as goal

pub returns-in_err-feed-clause-told : goal.returns-in_err-feed-clause-told
returns-in_err-feed-clause-told g c = λ stream rest start source s. let p = err_from_is_err_and c.from_residual.result c.from_residual.ensures.1 in rw (p.1, p.2) (standing_front s)

pub returns-in_err-take_line-clause-told : goal.returns-in_err-take_line-clause-told
returns-in_err-take_line-clause-told g c = λ stream rest start source s.
    let p = err_from_is_err_and c.from_residual-in_err-take_line.result c.from_residual-in_err-take_line.ensures.1 in
    let stopped = c.in_err-take_line.ensures.told stream rest start source (c.loop.invariant.told stream rest start s) in
    rw (p.1, p.2) (subst (λ (t : Text). Stopped t stream start (g.D.Desk.printed c.take_line.new.desk) source c.in_err-take_line.field-0.0) c.loop.invariant.text stopped)

pub loop-init : goal.loop-init
loop-init g c =
    let old = c.args.self.now in
    let new : Running = record { engine = old.engine; reader = c.feed.new.self } in
    record {
      text = refl;
      run = c.requires.run;
      room =
          let lines : c.feed.new.self.lines ≡ old.reader.lines = ap (λ (r : Reader). r.lines) c.in_ok-feed.ensures.ok in
          let left : length c.feed.new.self.left ≡ length old.reader.left + length c.args.piece.now = ap (λ (r : Reader). length r.left) c.in_ok-feed.ensures.ok ∙ length-append old.reader.left c.args.piece.now in
          omega (arith, lines, left);
      told = λ stream rest start s. piece_fed old new stream c.args.piece.now rest start (g.D.Desk.printed c.args.desk.now) s refl c.in_ok-feed.ensures.ok;
      counted = refl;
    }

pub loop-preserved : goal.loop-preserved
loop-preserved g c = record {
  text = c.take_line.ensures.text ∙ c.loop.invariant.text;
  run = c.take_line.ensures.run;
  room = omega (arith, c.take_line.ensures.room, c.loop.invariant.room);
  told = λ stream rest start s. (c.in_ok-take_line.ensures.told stream rest start None (c.loop.invariant.told stream rest start s)).0;
  counted = c.in_ok-take_line.ensures.counted.1 ∙ c.loop.invariant.counted;
}

pub returns-clause-told : goal.returns-clause-told
returns-clause-told g c = λ stream rest start source s.
    let p = c.in_ok-take_line.ensures.told stream rest start source (c.loop.invariant.told stream rest start s) in
    (p.0, p.1 c.if-branch.false)

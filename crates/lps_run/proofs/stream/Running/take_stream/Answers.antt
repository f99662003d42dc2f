use Rattle.std.proofs.Common.{◌≡◌, ◌∙◌, ◌≤◌, ◌+◌, ◌^◌, ℕ, List, [], ◌∷◌, length, arith, subst, sym, refl, ap, MatchResult}
use Rattle.std.proofs.lemmas.List.{nil_from_length}
use Rattle.std.proofs.lemmas.Result.{err_from_is_err_and, IfErr-at_err}
use Rattle.lps_terms.specs.declared.text.Text.{Text}
use Rattle.lps_outside.specs.Bytes.{Stream}
use Rattle.lps_batches.specs.Stream.{Reader}
use Rattle.lps_batches.specs.LinesAhead.{IsLine}
use Rattle.lps_run.specs.Judged.{ended}
use Rattle.lps_run.specs.Running.{Standing, Finished}
use Rattle.lps_run.specs.Stopping.{Stopped, StopsAtLine}
use Rattle.lps_run.proofs.Pieces.{keeps_stopped, keeps_line, in_any}
use Rattle.lps_run.proofs.stream.Running.take_stream.Goals as goal

pub returns-in_err-count-clause-limit : goal.returns-in_err-count-clause-limit
returns-in_err-count-clause-limit g c = λ before known.
    let p = err_from_is_err_and c.from_residual.result c.from_residual.ensures.1 in
    let b = c.loop-turn.invariant.bytes before known in
    rw (p.1, p.2) (keeps_stopped c.loop-turn.taken before b.0 c.in_err-count.field-0.0 _ b.2 (c.in_err-count.ensures.bytes b.0 b.1))

pub returns-in_err-count-clause-told : goal.returns-in_err-count-clause-told
returns-in_err-count-clause-told g c = λ before start known s.
    let p = err_from_is_err_and c.from_residual.result c.from_residual.ensures.1 in
    let stopped = c.in_err-count.ensures.told before.left start (c.loop-turn.invariant.told before start known s) in
    rw (p.1, p.2) (subst (λ (t : Text). Stopped t before.left start (g.D.Desk.printed c.take_next.new.desk) (g.E.Source.stream c.take_next.new.events) c.in_err-count.field-0.0) c.loop-turn.invariant.text stopped)

pub returns-then-count-eq0-clause-limit : goal.returns-then-count-eq0-clause-limit
returns-then-count-eq0-clause-limit g c = λ before known.
    let b = c.loop-turn.invariant.bytes before known in
    let t = c.in_ok-count.ensures.bytes b.0 b.1 in
    let kept : length before.left ≤ 2 ^ 36 + length t.after.left = omega (arith, b.2, t.limit) in
    keeps_line before t.after c.finish.result _ t.known (λ stop e. IfErr-at_err StopsAtLine e c.finish.ensures.kind) kept

pub returns-then-count-eq0-clause-ended : goal.returns-then-count-eq0-clause-ended
returns-then-count-eq0-clause-ended g c = in_any c.finish.result (λ before known.
    let b = c.loop-turn.invariant.bytes before known in
    let t = c.in_ok-count.ensures.bytes b.0 b.1 in
    (t.after, t.known, nil_from_length t.after.left (t.count.1 c.if-count-eq0.true)))

pub returns-then-count-eq0-clause-told : goal.returns-then-count-eq0-clause-told
returns-then-count-eq0-clause-told g c = λ before start known s.
    let b = c.loop-turn.invariant.bytes before known in
    let t = c.in_ok-count.ensures.bytes b.0 b.1 in
    let next = c.in_ok-count.ensures.told before.left start (c.loop-turn.invariant.told before start known s) in
    let same : next.last ≡ t.after = cc (next.known, t.known) in
    let none : ended next.last.left ≡ 10 ∷ [] = ap ended (ap (λ (x : Stream). x.left) same ∙ nil_from_length t.after.left (t.count.1 c.if-count-eq0.true)) in
    let at_end = subst (λ (bs : List ℕ). Standing c.take_next.new.self before.left bs start (g.D.Desk.printed c.take_next.new.desk)) none next.standing in
    subst (λ (t : Text). MatchResult c.finish.result (λ _. Finished c.finish.new.self before.left start (g.D.Desk.printed c.finish.new.desk)) (λ stop. Stopped t before.left start (g.D.Desk.printed c.finish.new.desk) (g.E.Source.stream c.take_next.new.events) stop))
    (c.take_next.ensures.text ∙ c.loop-turn.invariant.text) (c.finish.ensures.told before.left start (g.E.Source.stream c.take_next.new.events) at_end next.part)

pub loop-turn-preserved : goal.loop-turn-preserved
loop-turn-preserved g c = record {
  text = c.take_next.ensures.text ∙ c.loop-turn.invariant.text;
  run = c.take_next.ensures.run;
  room = c.in_ok-count.ensures.room;
  told = λ before start known s. c.in_ok-count.ensures.told before.left start (c.loop-turn.invariant.told before start known s);
  bytes = λ before known.
      let b = c.loop-turn.invariant.bytes before known in
      let t = c.in_ok-count.ensures.bytes b.0 b.1 in
      (t.after, t.known, omega (arith, b.2, t.count.0));
  turns = omega arith;
  limit = omega (arith, c.in_ok-count.ensures.within);
  reads = c.in_ok-count.ensures.counted.0 ∙ c.loop-turn.invariant.reads;
  prints = c.in_ok-count.ensures.counted.1 ∙ c.loop-turn.invariant.prints;
}

pub loop-turn-init : goal.loop-turn-init
loop-turn-init g c = record {
  text = refl;
  run = c.requires.run;
  room = let none = ap (λ (r : Reader). r.lines + length r.left) c.requires.empty in omega (arith, none);
  told = λ before start known s. record {
    last = before;
    known = known;
    standing = s;
    part = subst IsLine (sym (ap (λ (r : Reader). r.left) c.requires.empty)) (record { no_feed = refl; short = omega arith });
  };
  bytes = λ before known. (before, known, omega arith);
  turns = omega arith;
  limit = omega arith;
  reads = refl;
  prints = refl;
}

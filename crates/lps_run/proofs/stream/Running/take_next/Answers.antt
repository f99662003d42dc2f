use Rattle.std.proofs.Common.{◌≤◌, length, arith, None}
use Rattle.std.proofs.lemmas.Result.{err_from_is_err_and}
use Rattle.lps_run.specs.Judged.{ended}
use Rattle.lps_run.proofs.Pieces.{read_failed, limit_passed, piece_read, within_passed, within_line, within_read}
use Rattle.lps_run.proofs.stream.Running.take_next.Goals as goal

pub returns-in_err-count-clause-told : goal.returns-in_err-count-clause-told
returns-in_err-count-clause-told g c = λ stream start r.
    let p = err_from_is_err_and c.from_residual.result c.from_residual.ensures.1 in
    rw (p.1, p.2, c.in_err-count.ensures.cause.0) (read_failed c.args.self.now stream start _ _ _ r c.in_err-count.ensures.none)

pub returns-then-count-taken-clause-bytes : goal.returns-then-count-taken-clause-bytes
returns-then-count-taken-clause-bytes g c = λ before known.
    let within : c.in_ok-count.count ≤ length c.read_piece.new.buffer = omega (arith, c.in_ok-count.ensures.within) in
    within_passed c.args.taken c.in_ok-count.count _ before c.read_piece.new.buffer _ within (c.in_ok-count.ensures.bytes before known) c.if-count-taken.true

pub returns-then-count-taken-clause-told : goal.returns-then-count-taken-clause-told
returns-then-count-taken-clause-told g c = λ stream start r.
    let within : c.in_ok-count.count ≤ length c.read_piece.new.buffer = omega (arith, c.in_ok-count.ensures.within) in
    limit_passed c.args.self.now c.in_ok-count.count _ stream start c.read_piece.new.buffer _ _ _ r within c.in_ok-count.ensures.bytes

pub returns-in_err-take_piece-clause-bytes : goal.returns-in_err-take_piece-clause-bytes
returns-in_err-take_piece-clause-bytes g c = λ before known.
    let within : c.in_ok-count.count ≤ length c.read_piece.new.buffer = omega (arith, c.in_ok-count.ensures.within) in
    let p = err_from_is_err_and c.from_residual-in_err-take_piece.result c.from_residual-in_err-take_piece.ensures.1 in
    rw (p.1, p.2) (within_line c.args.taken c.in_ok-count.count _ before c.read_piece.new.buffer _ c.in_err-take_piece.field-0.0 within (c.in_ok-count.ensures.bytes before known) c.requires.taken c.if-count-taken.false c.in_err-take_piece.ensures.kind)

pub returns-in_err-take_piece-clause-told : goal.returns-in_err-take_piece-clause-told
returns-in_err-take_piece-clause-told g c = λ stream start r.
    let p = err_from_is_err_and c.from_residual-in_err-take_piece.result c.from_residual-in_err-take_piece.ensures.1 in
    let a = piece_read c.args.self.now c.in_ok-count.count _ stream start c.read_piece.new.buffer c.split_at.result.0.now _ _ _ r c.in_ok-count.ensures.bytes c.split_at.ensures.front in
    rw (p.1, p.2) (c.in_err-take_piece.ensures.told stream (ended a.0) start _ a.2)

pub returns-clause-bytes : goal.returns-clause-bytes
returns-clause-bytes g c = λ before known.
    let within : c.in_ok-count.count ≤ length c.read_piece.new.buffer = omega (arith, c.in_ok-count.ensures.within) in
    within_read c.args.taken c.in_ok-count.count _ before c.read_piece.new.buffer _ within (c.in_ok-count.ensures.bytes before known) c.requires.taken c.if-count-taken.false (omega arith)

pub returns-clause-told : goal.returns-clause-told
returns-clause-told g c = λ stream start r.
    let a = piece_read c.args.self.now c.in_ok-count.count _ stream start c.read_piece.new.buffer c.split_at.result.0.now _ _ _ r c.in_ok-count.ensures.bytes c.split_at.ensures.front in
    let taken = c.in_ok-take_piece.ensures.told stream (ended a.0) start None a.2 in
    record { last = record { left = a.0; took = c.in_ok-count.count }; known = a.1; standing = taken.0; part = taken.1 }

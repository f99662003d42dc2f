use Rattle.std.proofs.Common.{◌∙◌, ap, arith}
use Rattle.lps_lex.specs.Piece.{piece_of}
use Rattle.lps_lex.proofs.Pieces.{fits_at, suffix}
use Rattle.lps_lex.proofs.piece.piece_at.Goals as goal

pub returns-clause-same : goal.returns-clause-same
returns-clause-same c = c.piece_of-piece.ensures ∙ ap (piece_of c.args.line) (suffix c.args.at c.args.bytes.now)

pub returns-clause-fits : goal.returns-clause-fits
returns-clause-fits c =
    fits_at c.args.at c.args.bytes.now c.args.line c.piece_of-piece.result (omega arith) (c.piece_of-piece.ensures ∙ ap (piece_of c.args.line) (suffix c.args.at c.args.bytes.now))

-- The tokens of bytes up to the first fault.
use Rattle.std.specs.Prelude.{ℕ, zero, suc, ◌+◌, ◌-◌, List, [], ◌∷◌, ◌++◌, Option, Some, None, Result, Ok, Err}
use Rattle.lps_terms.specs.declared.lex_refused.LexRefused.{LexRefused}
use Rattle.lps_lex.specs.Piece.{piece_of}
use Rattle.lps_lex.specs.declared.piece.Piece.{Piece}
use Rattle.lps_lex.specs.declared.piece.Piece.TheVariants as piece
use Rattle.lps_lex.specs.declared.token.Token.{Token}

-- the tokens before the first fault, and the fault if there is one
pub record Lexing : Type 0 where
  pub tokens : List Token
  pub fault : Option LexRefused

-- with one token more at the front
abbrev pub led_by : Token → Lexing → Lexing
led_by token lexing = record { tokens = token ∷ lexing.tokens; fault = lexing.fault }

-- with these tokens more at the front
abbrev pub after : List Token → Lexing → Lexing
after tokens lexing = record { tokens = tokens ++ lexing.tokens; fault = lexing.fault }

-- the piece at a place and what follows it, which is given by how many of its bytes are still to skip, and its line
abbrev pub with_piece : Result Piece LexRefused → ℕ → ℕ → (ℕ → ℕ → Lexing) → Lexing
with_piece (Ok piece.LineFeed) line at next = next 0 (suc line)
with_piece (Ok (piece.Blanks length)) line at next = next (length - 1) line
with_piece (Ok (piece.Token kind length)) line at next = led_by (record { kind = kind; start = at; end = at + length; line = line }) (next (length - 1) line)
with_piece (Err refused) line at next = record { tokens = []; fault = Some refused }

-- from a place in a line on, where this many bytes are still to skip
abbrev pub lexed_from : List ℕ → ℕ → ℕ → ℕ → Lexing
lexed_from [] skip line at = record { tokens = []; fault = None }
lexed_from (byte ∷ bytes) (suc skip) line at = lexed_from bytes skip line (suc at)
lexed_from (byte ∷ bytes) zero line at = with_piece (piece_of line (byte ∷ bytes)) line at (λ skip next. lexed_from bytes skip next (suc at))

-- of the bytes of a text, whose lines count from 1
abbrev pub lexed : List ℕ → Lexing
lexed bytes = lexed_from bytes 0 1 0

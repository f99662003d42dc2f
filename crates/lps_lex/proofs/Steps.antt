-- How the tokens from a place on follow from the piece there.
use Rattle.std.specs.Prelude.{ℕ, zero, suc, ◌≡◌, ◌+◌, ◌<◌, ◌≤◌, List, [], ◌∷◌, ◌++◌, length, drop, Some, Ok, Err, refl}
use Rattle.std.proofs.Common.{◌∙◌, sym, ap, arith, append_assoc, append-nil}
use Rattle.lps_terms.specs.declared.lex_refused.LexRefused.{LexRefused}
use Rattle.lps_lex.specs.declared.token_kind.TokenKind.{TokenKind}
use Rattle.lps_lex.specs.declared.token.Token.{Token}
use Rattle.lps_lex.specs.declared.piece.Piece.TheVariants as piece
use Rattle.lps_lex.specs.Piece.{piece_of}
use Rattle.lps_lex.specs.Lexing.{after, led_by, lexed_from, Lexing, with_piece}

-- to skip bytes is to begin behind them
pub lexed_from-skip : (skip : ℕ) (bytes : List ℕ) (line at : ℕ) → lexed_from bytes skip line at ≡ lexed_from (drop skip bytes) 0 line (at + skip)
lexed_from-skip zero bytes line at = ap (lexed_from bytes 0 line) (omega arith)
lexed_from-skip (suc skip) [] line at = refl
lexed_from-skip (suc skip) (byte ∷ bytes) line at = lexed_from-skip skip bytes line (suc at) ∙ ap (lexed_from (drop skip bytes) 0 line) (omega arith)

pub lexed_from-feed : (bytes : List ℕ) (line at : ℕ) → 0 < length bytes → piece_of line bytes ≡ Ok piece.LineFeed →
    lexed_from bytes 0 line at ≡ lexed_from (drop 1 bytes) 0 (line + 1) (at + 1)
lexed_from-feed [] line at some e = absurd (omega arith)
lexed_from-feed (byte ∷ bytes) line at some e =
    ap (λ found. with_piece found line at (λ skip next. lexed_from bytes skip next (suc at))) e
    ∙ ap (λ next. lexed_from bytes 0 next (suc at)) (omega arith) ∙ ap (lexed_from bytes 0 (line + 1)) (omega arith)

pub lexed_from-blanks : (bytes : List ℕ) (count line at : ℕ) → 0 < length bytes → 0 < count → piece_of line bytes ≡ Ok (piece.Blanks count) →
    lexed_from bytes 0 line at ≡ lexed_from (drop count bytes) 0 line (at + count)
lexed_from-blanks [] count line at some counts e = absurd (omega arith)
lexed_from-blanks (byte ∷ bytes) zero line at some counts e = absurd (omega arith)
lexed_from-blanks (byte ∷ bytes) (suc count) line at some counts e =
    ap (λ found. with_piece found line at (λ skip next. lexed_from bytes skip next (suc at))) e
    ∙ ap (λ skip. lexed_from bytes skip line (suc at)) (omega arith) ∙ lexed_from-skip count bytes line (suc at) ∙ ap (lexed_from (drop count bytes) 0 line) (omega arith)

pub lexed_from-token : (bytes : List ℕ) (kind : TokenKind) (count line at : ℕ) → 0 < length bytes → 0 < count → piece_of line bytes ≡ Ok (piece.Token kind count) →
    lexed_from bytes 0 line at ≡ led_by (record { kind = kind; start = at; end = at + count; line = line }) (lexed_from (drop count bytes) 0 line (at + count))
lexed_from-token [] kind count line at some counts e = absurd (omega arith)
lexed_from-token (byte ∷ bytes) kind zero line at some counts e = absurd (omega arith)
lexed_from-token (byte ∷ bytes) kind (suc count) line at some counts e =
    let token : Token = record { kind = kind; start = at; end = at + suc count; line = line } in
    ap (λ found. with_piece found line at (λ skip next. lexed_from bytes skip next (suc at))) e
    ∙ ap (λ skip. led_by token (lexed_from bytes skip line (suc at))) (omega arith)
    ∙ ap (led_by token) (lexed_from-skip count bytes line (suc at)) ∙ ap (λ next. led_by token (lexed_from (drop count bytes) 0 line next)) (omega arith)

pub lexed_from-fault : (bytes : List ℕ) (refused : LexRefused) (line at : ℕ) → 0 < length bytes → piece_of line bytes ≡ Err refused →
    lexed_from bytes 0 line at ≡ record { tokens = []; fault = Some refused }
lexed_from-fault [] refused line at some e = absurd (omega arith)
lexed_from-fault (byte ∷ bytes) refused line at some e = ap (λ found. with_piece found line at (λ skip next. lexed_from bytes skip next (suc at))) e

-- the tokens so far, with one token more
pub after-led_by : (tokens : List Token) (token : Token) (lexing : Lexing) → after tokens (led_by token lexing) ≡ after (tokens ++ token ∷ []) lexing
after-led_by tokens token lexing = ap (λ all. record { tokens = all; fault = lexing.fault }) (sym (append_assoc tokens (token ∷ []) lexing.tokens))

-- at the end and at a fault the tokens so far are all
pub tokens_so_far : (all lexing : Lexing) (tokens : List Token) → all ≡ after tokens lexing → lexing.tokens ≡ [] → all.tokens ≡ tokens
tokens_so_far all lexing tokens e none = ap (λ (found : Lexing). found.tokens) e ∙ ap (λ more. tokens ++ more) none ∙ append-nil tokens

nothing_left : (at : ℕ) (bytes : List ℕ) → length bytes ≤ at → drop at bytes ≡ []
nothing_left zero [] over = refl
nothing_left (suc at) [] over = refl
nothing_left zero (byte ∷ bytes) over = absurd (omega arith)
nothing_left (suc at) (byte ∷ bytes) over = nothing_left at bytes (omega arith)

pub end_tokens : (at line : ℕ) (bytes : List ℕ) → length bytes ≤ at → (lexed_from (drop at bytes) 0 line at).tokens ≡ []
end_tokens at line bytes over = ap (λ left. (lexed_from left 0 line at).tokens) (nothing_left at bytes over)

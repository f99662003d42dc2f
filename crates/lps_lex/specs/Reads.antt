-- How bytes are read from the front on: as line feeds, blanks, comments and tokens, up to the end or the first fault.
use Rattle.std.specs.Prelude.{ℕ, suc, ◌+◌, ◌≡◌, true, List, [], ◌∷◌, ◌++◌, length, Option, Some, None}
use Rattle.lps_terms.specs.declared.lex_refused.LexRefused.{LexRefused}
use Rattle.lps_lex.specs.declared.token_kind.TokenKind.{TokenKind}
use Rattle.lps_lex.specs.declared.token.Token.{Token}
use Rattle.lps_lex.specs.Piece.{is_blank}
use Rattle.lps_lex.specs.Forms.{IsComment, IsFault, IsToken}

-- from this place and line on, these bytes hold these tokens before their first fault, and this fault if there is one
pub data Reads : ℕ → ℕ → List ℕ → List Token → Option LexRefused → Type 0 where
  ends : {at line : ℕ} → Reads at line [] [] None
  line_feed : {at line : ℕ} {rest : List ℕ} {tokens : List Token} {fault : Option LexRefused} →
      Reads (suc at) (suc line) rest tokens fault → Reads at line (10 ∷ rest) tokens fault
  blank : {at line : ℕ} {rest : List ℕ} {tokens : List Token} {fault : Option LexRefused} (byte : ℕ) → is_blank byte ≡ true →
      Reads (suc at) line rest tokens fault → Reads at line (byte ∷ rest) tokens fault
  comment : {at line : ℕ} {rest : List ℕ} {tokens : List Token} {fault : Option LexRefused} (text : List ℕ) → IsComment text rest →
      Reads (at + length text) line rest tokens fault → Reads at line (text ++ rest) tokens fault
  token : {at line : ℕ} {rest : List ℕ} {tokens : List Token} {fault : Option LexRefused} (kind : TokenKind) (text : List ℕ) → IsToken kind text rest →
      Reads (at + length text) line rest tokens fault →
      Reads at line (text ++ rest) (record { kind = kind; start = at; end = at + length text; line = line } ∷ tokens) fault
  fault : {at line : ℕ} {rest : List ℕ} (refused : LexRefused) → IsFault refused line rest → Reads at line rest [] (Some refused)

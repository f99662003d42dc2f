-- Where tokens stand: each in its span and line, one after the other, with only blanks and comments between.
use Rattle.std.specs.Prelude.{ℕ, ◌+◌, ◌≡◌, ◌<◌, ◌≤◌, true, List, [], ◌∷◌, ◌++◌, length, take, drop, slice_range, ◌==◌, ◌||◌, if◌then◌else◌}
use Rattle.lps_lex.specs.declared.token.Token.{Token}
use Rattle.lps_lex.specs.Piece.{is_blank}
use Rattle.lps_lex.specs.Forms.{IsComment, IsToken}

-- how many line feeds there are
abbrev pub line_feeds : List ℕ → ℕ
line_feeds [] = 0
line_feeds (byte ∷ bytes) = (if byte == 10 then 1 else 0) + line_feeds bytes

-- the token is one of these bytes: its span lies in them, its text is of its kind's form there, and its line is right
pub record IsTokenOf (bytes : List ℕ) (token : Token) : Type 0 where
  pub some : token.start < token.end
  pub within : token.end ≤ length bytes
  pub is : IsToken token.kind (slice_range bytes token.start token.end) (drop token.end bytes)
  pub line : token.line ≡ 1 + line_feeds (take token.start bytes)

-- line feeds, blanks and comments
pub data IsGap : List ℕ → Type 0 where
  none : IsGap []
  blank : {rest : List ℕ} (byte : ℕ) → (is_blank byte || (byte == 10)) ≡ true → IsGap rest → IsGap (byte ∷ rest)
  comment : {rest : List ℕ} (text : List ℕ) → IsComment text rest → IsGap rest → IsGap (text ++ rest)

-- from this place on, each token begins at or after the end of the one before, with a gap between
abbrev pub AreApart : List ℕ → ℕ → List Token → Type 0
AreApart bytes at [] = Unit {0}
AreApart bytes at (token ∷ tokens) = (at ≤ token.start) × IsGap (slice_range bytes at token.start) × AreApart bytes token.end tokens

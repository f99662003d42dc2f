-- Bytes that show words and nothing else: with blanks and line feeds between, each word read whole.
use Rattle.std.specs.Prelude.{ℕ, suc, ◌≤◌, ◌^◌, List, [], ◌∷◌, ◌++◌, length}
use Rattle.lps_grammar.specs.declared.tok.Tok.{Tok}
use Rattle.lps_grammar.specs.declared.tok.Tok.TheVariants as k
use Rattle.lps_lex.specs.declared.token_kind.TokenKind.{TokenKind}
use Rattle.lps_lex.specs.Forms.{IsName, IsTime, IsToken, IsVariable}
use Rattle.lps_numbering.specs.declared.names.Names.{Names}
use Rattle.lps_printer.specs.Terms.{written}
use Rattle.lps_roundtrip.specs.Words.{Word}

-- from this line on, the bytes show these words
pub data Shown : ℕ → List ℕ → List Word → Type 0 where
  nothing : {line : ℕ} → Shown line [] []
  space : {line : ℕ} {bytes : List ℕ} {words : List Word} → Shown line bytes words → Shown line (32 ∷ bytes) words
  feed : {line : ℕ} {bytes : List ℕ} {words : List Word} → Shown (suc line) bytes words → Shown line (10 ∷ bytes) words
  word : {line : ℕ} {bytes : List ℕ} {words : List Word} (kind : TokenKind) (text : List ℕ) → IsToken kind text bytes → Shown line bytes words →
      Shown line (text ++ bytes) (record { kind = kind; text = text; line = line } ∷ words)

-- what is written for the token, under these names of its statement, is a token of the language
abbrev pub IsFine : Names → Tok → Type 0
IsFine names (k.Name n) = IsName n × (length n ≤ 64)
IsFine names (k.Variable n) = IsVariable (written names.names n) × (length (written names.names n) ≤ 64)
IsFine names (k.Time n) = IsTime (written names.times n) × (length (written names.times n) ≤ 64)
IsFine names (k.Number n) = n ≤ 2 ^ 63
IsFine names t = Unit {0}

-- the same of all these tokens
abbrev pub AreFine : Names → List Tok → Type 0
AreFine names [] = Unit {0}
AreFine names (tok ∷ toks) = IsFine names tok × AreFine names toks

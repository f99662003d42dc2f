-- What is judged of tokens, as texts and as lines of events.
use Rattle.std.specs.Prelude.{◌≡◌, ◌++◌, ◌+◌, ◌<◌, ◌≤◌, List, [], All, length, take}
use Rattle.lps_grammar.specs.declared.tok.Tok.{Tok}
use Rattle.lps_grammar.specs.Statements.{Text, spell_text, IsText, BeginsText}
use Rattle.lps_grammar.specs.Lines.{Line, spell_line, IsLine, BeginsLine}
use Rattle.lps_grammar.specs.Sizes.{symbols_text, symbols_line, begun_line}
use Rattle.lps_syntax.specs.declared.text_verdict.TextVerdict.{TextVerdict}
use Rattle.lps_syntax.specs.declared.text_verdict.TextVerdict.TheVariants as t
use Rattle.lps_syntax.specs.declared.line_verdict.LineVerdict.{LineVerdict}
use Rattle.lps_syntax.specs.declared.line_verdict.LineVerdict.TheVariants as l

-- in no text that begins with these tokens one of them is symbol 1,025 of its atom, side or expression
abbrev pub IsSmallText : List Tok → Type 0
IsSmallText ts = (x : Text) (more : List Tok) → ts ++ more ≡ spell_text x [] → All (λ n. n ≤ 1024) (take (length ts) (symbols_text x []))

-- Bad at the first token with which they begin no text, TooLarge at the first that is a symbol too many
abbrev pub IsTextVerdict : TextVerdict → List Tok → Type 0
IsTextVerdict t.Accepted ts = IsText ts × IsSmallText ts
IsTextVerdict t.Incomplete ts = BeginsText ts × (IsText ts → ⊥) × IsSmallText ts
IsTextVerdict (t.Bad i) ts = (i < length ts) × BeginsText (take i ts) × IsSmallText (take i ts) × (BeginsText (take (i + 1) ts) → ⊥)
IsTextVerdict (t.TooLarge i) ts = (i < length ts) × BeginsText (take (i + 1) ts) × IsSmallText (take i ts) × (IsSmallText (take (i + 1) ts) → ⊥)

-- in no line that begins with these tokens one of them is symbol 1,025 of its atom
abbrev pub IsSmallLine : List Tok → Type 0
IsSmallLine ts = (x : Line) (more : List Tok) → ts ++ more ≡ spell_line x [] → All (λ n. n ≤ 1024) (take (length ts) (symbols_line x []))

-- in no line that begins with these tokens one of them belongs to event 1,001
abbrev pub HasFewEvents : List Tok → Type 0
HasFewEvents ts = (x : Line) (more : List Tok) → ts ++ more ≡ spell_line x [] → All (λ n. n ≤ 1000) (take (length ts) (begun_line x))

-- these tokens keep both limits of lines
abbrev pub KeepsLimits : List Tok → Type 0
KeepsLimits ts = HasFewEvents ts × IsSmallLine ts

-- Bad at the first token with which they begin no line, TooManyEvents at the first token of event 1,001, TooLarge at the
-- first that is a symbol too many
abbrev pub IsLineVerdict : LineVerdict → List Tok → Type 0
IsLineVerdict l.Accepted ts = IsLine ts × KeepsLimits ts
IsLineVerdict l.Incomplete ts = BeginsLine ts × (IsLine ts → ⊥) × KeepsLimits ts
IsLineVerdict (l.Bad i) ts = (i < length ts) × BeginsLine (take i ts) × KeepsLimits (take i ts) × (BeginsLine (take (i + 1) ts) → ⊥)
IsLineVerdict (l.TooManyEvents i) ts = (i < length ts) × BeginsLine (take (i + 1) ts) × KeepsLimits (take i ts) × (HasFewEvents (take (i + 1) ts) → ⊥)
IsLineVerdict (l.TooLarge i) ts =
    (i < length ts) × BeginsLine (take (i + 1) ts) × KeepsLimits (take i ts) × HasFewEvents (take (i + 1) ts) × (IsSmallLine (take (i + 1) ts) → ⊥)

-- The first token that refuses a text: bad syntax, then too many variables, then a term too large, at one token in this
-- order; or else the end, where the tokens begin a text and are none.
use Rattle.std.specs.Prelude.{ℕ, ◌+◌, ◌≡◌, ◌<◌, ◌≤◌, ◌⊎◌, List, length, take, slice_get, Option, Some, None}
use Rattle.lps_terms.specs.declared.read_refused.ReadRefused.{ReadRefused}
use Rattle.lps_terms.specs.declared.read_refused.ReadRefused.TheVariants as refused
use Rattle.lps_lex.specs.declared.token.Token.{Token}
use Rattle.lps_grammar.specs.declared.tok.Tok.{Tok}
use Rattle.lps_grammar.specs.Statements.{BeginsText, IsText}
use Rattle.lps_syntax.specs.Judging.{IsSmallText}

-- the line of a token that is there
abbrev pub line_in : Option Token → ℕ
line_in None = 0
line_in (Some token) = token.line

-- the line of the token at a place
abbrev pub line_at : List Token → ℕ → ℕ
line_at tokens at = line_in (slice_get tokens at)

-- no token before this place refuses: they begin a text, no part is too large, and no variable too many stands there
abbrev pub IsFineBefore : ℕ → Option ℕ → List Tok → Type 0
IsFineBefore at crowded toks = BeginsText (take at toks) × IsSmallText (take at toks) × ((k : ℕ) → crowded ≡ Some k → at ≤ k)

-- with the token at this place no text begins any more
abbrev pub IsBadAt : ℕ → Option ℕ → List Tok → Type 0
IsBadAt at crowded toks = (at < length toks) × IsFineBefore at crowded toks × (BeginsText (take (at + 1) toks) → ⊥)

-- no token refuses, the one at this place is the last, and they are no text
abbrev pub EndsEarlyAt : ℕ → Option ℕ → List Tok → Type 0
EndsEarlyAt at crowded toks = (at + 1 ≡ length toks) × IsFineBefore (length toks) crowded toks × (IsText toks → ⊥)

-- the token at this place fits, and is a variable or a time too many
abbrev pub IsCrowdedAt : ℕ → Option ℕ → List Tok → Type 0
IsCrowdedAt at crowded toks = (crowded ≡ Some at) × IsFineBefore at crowded toks × BeginsText (take (at + 1) toks)

-- the token at this place fits, is no variable too many, and is a symbol too many of its part
abbrev pub IsTooLargeAt : ℕ → Option ℕ → List Tok → Type 0
IsTooLargeAt at crowded toks =
    (at < length toks) × IsFineBefore at crowded toks × BeginsText (take (at + 1) toks)
    × (crowded ≡ Some at → ⊥) × (IsSmallText (take (at + 1) toks) → ⊥)

-- the first refusal, in the line of its token, or none
abbrev pub IsFirstRefusal : Option ReadRefused → Option ℕ → List Token → List Tok → Type 0
IsFirstRefusal None crowded tokens toks = IsText toks × IsSmallText toks × (crowded ≡ None)
IsFirstRefusal (Some (refused.BadSyntax line)) crowded tokens toks = (at : ℕ) × (line ≡ line_at tokens at) × (IsBadAt at crowded toks ⊎ EndsEarlyAt at crowded toks)
IsFirstRefusal (Some (refused.TooManyVars line)) crowded tokens toks = (at : ℕ) × (line ≡ line_at tokens at) × IsCrowdedAt at crowded toks
IsFirstRefusal (Some (refused.TermTooLarge line)) crowded tokens toks = (at : ℕ) × (line ≡ line_at tokens at) × IsTooLargeAt at crowded toks
IsFirstRefusal (Some other) crowded tokens toks = ⊥

-- so many tokens were judged: all, or enough to know of the variable too many
abbrev pub IsJudged : ℕ → Option ℕ → List Tok → Type 0
IsJudged count None toks = count ≡ length toks
IsJudged count (Some at) toks = (at < count) × (count ≤ length toks)

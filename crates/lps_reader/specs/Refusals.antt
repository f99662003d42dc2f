-- Which bytes are a text within its limits, and how others are refused: for their number, then for their tokens, then for
-- the first token that refuses.
use Rattle.std.specs.Prelude.{ℕ, ◌≡◌, ◌<◌, ◌≤◌, List, All, length, Option, Some, None, Result, Ok, Err}
use Rattle.lps_terms.specs.declared.read_refused.ReadRefused.{ReadRefused}
use Rattle.lps_terms.specs.declared.read_refused.ReadRefused.TheVariants as refused
use Rattle.lps_lex.specs.declared.token.Token.{Token}
use Rattle.lps_lex.specs.Lexing.{lexed}
use Rattle.lps_lex.specs.Spans.{IsTokenOf}
use Rattle.lps_numbering.specs.Numbers.{crowded_of, statements_of, toks_of}
use Rattle.lps_reader.specs.declared.judged_text.NumberedText.{NumberedText}
use Rattle.lps_reader.specs.Refusing.{IsFirstRefusal}

-- the tokens before the first fault
abbrev pub tokens_in : List ℕ → List Token
tokens_in bytes = (lexed bytes).tokens

-- there are no more bytes than a text may have
abbrev pub IsShort : List ℕ → Type 0
IsShort bytes = length bytes ≤ 1048576

-- this is the first refusal of the bytes, or none, where they are few enough and have no fault
abbrev pub IsRefusedAs : List ℕ → Option ReadRefused → Type 0
IsRefusedAs bytes refusal = IsShort bytes × ((lexed bytes).fault ≡ None) × IsFirstRefusal refusal (crowded_of bytes (tokens_in bytes)) (tokens_in bytes) (toks_of bytes (tokens_in bytes))

-- this is the first refusal of the bytes
abbrev pub IsRefusal : List ℕ → ReadRefused → Type 0
IsRefusal bytes refused.TextTooLong = 1048576 < length bytes
IsRefusal bytes (refused.Lex fault) = IsShort bytes × ((lexed bytes).fault ≡ Some fault)
IsRefusal bytes other = IsRefusedAs bytes (Some other)

-- the bytes are a text within its limits, and these are its tokens and the names of its statements
pub record IsNumberedText (bytes : List ℕ) (found : NumberedText) : Type 0 where
  pub accepted : IsRefusedAs bytes None
  pub tokens : found.tokens.items ≡ tokens_in bytes
  pub spans : All (IsTokenOf bytes) found.tokens.items
  pub toks : found.numbered.toks.items ≡ toks_of bytes (tokens_in bytes)
  pub statements : found.numbered.statements.items ≡ statements_of bytes (tokens_in bytes)

-- what is made of bytes: the tokens of a text, or the first refusal
abbrev pub IsReading : List ℕ → Result NumberedText ReadRefused → Type 0
IsReading bytes (Ok found) = IsNumberedText bytes found
IsReading bytes (Err refusal) = IsRefusal bytes refusal

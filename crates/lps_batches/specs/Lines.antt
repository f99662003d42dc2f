-- What a line of a stream is read as: a batch, or why it is none. A line stands without its line feed.
use Rattle.std.specs.Prelude.{ℕ, ◌≡◌, ◌<◌, ◌≤◌, ◌⊎◌, true, false, List, [], length, Some, None, Result, Ok, Err}
use Rattle.std.specs.List.{list_all}
use Rattle.lps_terms.specs.declared.batch_kind.BatchKind.{BatchKind}
use Rattle.lps_terms.specs.declared.batch_kind.BatchKind.TheVariants as kind
use Rattle.lps_terms.specs.declared.lex_refused.LexRefused.{LexRefused}
use Rattle.lps_model.specs.declared.batch.Batch.{Batch}
use Rattle.lps_lex.specs.Lexing.{lexed}
use Rattle.lps_batches.specs.LookAhead.{is_no_feed, is_skipped}
use Rattle.lps_batches.specs.LinesAhead.{IsLine}
use Rattle.lps_numbering.specs.Plain.{plain_toks}
use Rattle.lps_grammar.specs.declared.tok.Tok.{Tok}
use Rattle.lps_grammar.specs.Lines as gl
use Rattle.lps_syntax.specs.Judging.{IsLineVerdict}
use Rattle.lps_syntax.specs.declared.line_verdict.LineVerdict.TheVariants as verdict
use Rattle.lps_build.specs.Meaning.{line_of}

-- ---- one line

-- the tokens of a line for the grammar, up to its first fault
abbrev pub line_toks : List ℕ → List Tok
line_toks line = plain_toks line (lexed line).tokens

-- there are no more bytes than a line may have
abbrev pub IsShort : List ℕ → Type 0
IsShort line = length line ≤ 65536

-- a line without a fault that spells this batch, within its limits
pub record SpellsBatch (line : List ℕ) (batch : Batch) : Type 0 where
  pub short : IsShort line
  pub faultless : (lexed line).fault ≡ None
  pub accepted : IsLineVerdict verdict.Accepted (line_toks line)
  pub tree : gl.Line
  pub spells : line_toks line ≡ gl.spell_line tree []
  pub means : (batch.number, batch.events) ≡ line_of tree

-- a fault stands behind all tokens, which are a line
abbrev pub EndsInFault : List ℕ → Type 0
EndsInFault line = IsLineVerdict verdict.Accepted (line_toks line) × ((fault : LexRefused) × ((lexed line).fault ≡ Some fault))

-- with some token these begin no line any more, or they stop short, or a fault stands behind them
abbrev pub IsOutside : List ℕ → Type 0
IsOutside line = ((i : ℕ) × IsLineVerdict (verdict.Bad i) (line_toks line)) ⊎ (IsLineVerdict verdict.Incomplete (line_toks line) ⊎ EndsInFault line)

-- a line is read as a batch, or refused as too long, and else for its first token that refuses
abbrev pub IsLineRead : List ℕ → Result Batch BatchKind → Type 0
IsLineRead line (Ok batch) = SpellsBatch line batch
IsLineRead line (Err kind.LineTooLong) = 65536 < length line
IsLineRead line (Err kind.BadLine) = IsShort line × IsOutside line
IsLineRead line (Err kind.TooManyEvents) = IsShort line × ((i : ℕ) × IsLineVerdict (verdict.TooManyEvents i) (line_toks line))
IsLineRead line (Err kind.TermTooLarge) = IsShort line × ((i : ℕ) × IsLineVerdict (verdict.TooLarge i) (line_toks line))
IsLineRead line (Err other) = ⊥

-- ---- one line of a stream

-- a line that is passed over
pub record IsPassed (line : List ℕ) : Type 0 where
  pub is : IsLine line
  pub skipped : is_skipped line ≡ true

-- a line that is read as this batch
pub record IsBatchLine (line : List ℕ) (batch : Batch) : Type 0 where
  pub is : IsLine line
  pub kept : is_skipped line ≡ false
  pub read : IsLineRead line (Ok batch)

-- a line that is refused: one that is passed over may be too long, but is else not read
pub record IsBadLine (line : List ℕ) (kind : BatchKind) : Type 0 where
  pub no_feed : list_all is_no_feed line ≡ true
  pub kept : IsShort line → is_skipped line ≡ false
  pub read : IsLineRead line (Err kind)

-- What the bytes of a text are read as.
use Rattle.std.specs.Prelude.{ℕ, ◌≡◌, List, [], length, None, Result, Ok, Err}
use Rattle.lps_terms.specs.declared.text.Text.{Text}
use Rattle.lps_grammar.specs.Statements.{spell_text}
use Rattle.lps_grammar.specs.Statements as gs
use Rattle.lps_numbering.specs.Numbers.{statements_of, toks_of}
use Rattle.lps_build.specs.Meaning.{bodies_of}
use Rattle.lps_reader.specs.Refusing.{line_at}
use Rattle.lps_reader.specs.Refusals.{IsRefusal, IsRefusedAs, tokens_in}
use Rattle.lps_reader.specs.Made.{statements_made}
use Rattle.lps_reader.specs.declared.read_error.ReadError.{ReadError}
use Rattle.lps_reader.specs.declared.read_error.ReadError.TheVariants.{NoMemory, Refused}

-- The bytes are a text within its limits, and it is this one: the tokens are those of a tree, and its statements are what
-- the tree means, each in the line of its first token, under the names of its variables and times by number.
pub record IsTextOf (bytes : List ℕ) (text : Text) : Type 0 where
  pub accepted : IsRefusedAs bytes None
  pub tree : gs.Text
  pub spelled : toks_of bytes (tokens_in bytes) ≡ spell_text tree []
  pub statements : text.statements ≡ statements_made (line_at (tokens_in bytes)) (bodies_of (length (toks_of bytes (tokens_in bytes))) tree) (statements_of bytes (tokens_in bytes))

-- the answer is the text that the bytes are, or the first reason why they are none, unless memory ran out
abbrev pub IsReadOf : List ℕ → Result Text ReadError → Type 0
IsReadOf bytes (Ok text) = IsTextOf bytes text
IsReadOf bytes (Err (Refused refusal)) = IsRefusal bytes refusal
IsReadOf bytes (Err NoMemory) = Unit {0}

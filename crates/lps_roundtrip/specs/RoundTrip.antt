-- The same text with its statements in other lines, and what reading it back gives.
use Rattle.std.specs.Prelude.{ℕ, suc, ◌≡◌, List, [], ◌∷◌, Result, Ok, Err}
use Rattle.lps_terms.specs.declared.statement.Statement.{Statement}
use Rattle.lps_terms.specs.declared.text.Text.{Text}
use Rattle.lps_reader.specs.declared.read_error.ReadError.{ReadError}
use Rattle.lps_reader.specs.declared.read_error.ReadError.TheVariants.{NoMemory, Refused}

-- the statements, each in a line of its own from this one on
abbrev pub statements_in_lines : ℕ → List Statement → List Statement
statements_in_lines line [] = []
statements_in_lines line (statement ∷ statements) =
    record { line = line; names = statement.names; times = statement.times; body = statement.body } ∷ statements_in_lines (suc line) statements

-- the text, with its statements each in a line of its own from this one on
abbrev pub in_lines : ℕ → Text → Text
in_lines line text = record { statements = statements_in_lines line text.statements }

-- the answer of the reader is this text, unless memory ran out
abbrev pub IsReadAs : Text → Result Text ReadError → Type 0
IsReadAs text (Ok other) = other ≡ text
IsReadAs text (Err (Refused refusal)) = ⊥
IsReadAs text (Err NoMemory) = Unit {0}

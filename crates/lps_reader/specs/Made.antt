-- The statements of a text, made of what they say and of their names.
use Rattle.std.specs.Prelude.{ℕ, List, [], ◌∷◌, slice_get, Option, Some, None}
use Rattle.lps_terms.specs.declared.body.Body.{Body}
use Rattle.lps_terms.specs.declared.statement.Statement.{Statement}
use Rattle.lps_numbering.specs.declared.names.Names.{Names}

-- the line that is there
abbrev pub line_there : Option ℕ → ℕ
line_there None = 0
line_there (Some line) = line

-- of the lines of tokens, that of the token at a place
abbrev pub line_of : List ℕ → ℕ → ℕ
line_of lines at = line_there (slice_get lines at)

-- a statement with the names of its variables and times, in the line of its first token, where each place has this line
abbrev pub statement_made : (ℕ → ℕ) → ℕ × Body → Names → Statement
statement_made line placed names = record { line = line placed.0; names = names.names; times = names.times; body = placed.1 }

-- the statements of what they say, each with the place of its first token, and of their names
abbrev pub statements_made : (ℕ → ℕ) → List (ℕ × Body) → List Names → List Statement
statements_made line [] names = []
statements_made line (body ∷ bodies) [] = []
statements_made line (body ∷ bodies) (first ∷ names) = statement_made line body first ∷ statements_made line bodies names

-- The lines of events: their trees, and the tokens of each. How many events a line may have is no part of the grammar.
use Rattle.std.specs.Prelude.{ℕ, ◌≡◌, ◌++◌, false, List, [], ◌∷◌}
use Rattle.lps_grammar.specs.declared.tok.Tok.{Tok}
use Rattle.lps_grammar.specs.declared.tok.Tok.TheVariants as k
use Rattle.lps_grammar.specs.Terms.{Atom, spell_atom}

-- { "," atom }
pub data MoreEvents : Type 0 where
  no_event : MoreEvents
  also_event : Atom false → MoreEvents → MoreEvents

-- [ atom { "," atom } ], the atoms without variables
pub data Events : Type 0 where
  none : Events
  events : Atom false → MoreEvents → Events

-- line = number ":" [ atom { "," atom } ] "."
pub data Line : Type 0 where
  line : ℕ → Events → Line

-- the tokens of the events after a first one, and then `rest`
abbrev pub spell_more_events : MoreEvents → List Tok → List Tok
spell_more_events no_event rest = rest
spell_more_events (also_event a xs) rest = k.Comma ∷ spell_atom a (spell_more_events xs rest)

-- the tokens of the events of a line
abbrev pub spell_events : Events → List Tok → List Tok
spell_events none rest = rest
spell_events (events a xs) rest = spell_atom a (spell_more_events xs rest)

-- the tokens of a line
abbrev pub spell_line : Line → List Tok → List Tok
spell_line (line n xs) rest = k.Number n ∷ k.Colon ∷ spell_events xs (k.Dot ∷ rest)

-- these tokens are a line
abbrev pub IsLine : List Tok → Type 0
IsLine ts = (x : Line) × (ts ≡ spell_line x [])

-- with some tokens after them these make a line
abbrev pub BeginsLine : List Tok → Type 0
BeginsLine ts = (more : List Tok) × IsLine (ts ++ more)

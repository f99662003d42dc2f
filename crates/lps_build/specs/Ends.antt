-- The tokens that may follow parts of a statement.
use Rattle.std.specs.Prelude.{List, ◌∷◌}
use Rattle.lps_grammar.specs.declared.tok.Tok.{Tok}
use Rattle.lps_grammar.specs.declared.tok.Tok.TheVariants as k

-- what follows the last part of several
pub data End : List Tok → Type 0 where
  end_dot : (ts : List Tok) → End (k.Dot ∷ ts)
  end_then : (ts : List Tok) → End (k.Then ∷ ts)
  end_or : (ts : List Tok) → End (k.Or ∷ ts)
  end_close : (ts : List Tok) → End (k.Close ∷ ts)

-- what follows a part
pub data Stop : List Tok → Type 0 where
  comma : (ts : List Tok) → Stop (k.Comma ∷ ts)
  dot : (ts : List Tok) → Stop (k.Dot ∷ ts)
  before_then : (ts : List Tok) → Stop (k.Then ∷ ts)
  before_or : (ts : List Tok) → Stop (k.Or ∷ ts)
  before_close : (ts : List Tok) → Stop (k.Close ∷ ts)

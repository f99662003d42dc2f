-- The line of events at the front of tokens, and the tokens after it. A number bounds how many tokens are left.
use Rattle.std.specs.Prelude.{ℕ, List, [], ◌∷◌, Option, Some, None}
use Rattle.lps_terms.specs.declared.atom.Atom.{Atom}
use Rattle.lps_grammar.specs.declared.tok.Tok.{Tok}
use Rattle.lps_grammar.specs.declared.tok.Tok.TheVariants as k
use Rattle.lps_build.specs.ReadTerms.{atom_in, then_in}
use Rattle.lps_build.specs.ReadItems.{parts_in}

-- the number before a colon
abbrev pub colon_in : ℕ → List Tok → Option (ℕ × List Tok)
colon_in n (k.Colon ∷ ts) = Some (n, ts)
colon_in n ts = None

-- the number of a line
abbrev pub cycle_in : List Tok → Option (ℕ × List Tok)
cycle_in (k.Number n ∷ ts) = colon_in n ts
cycle_in ts = None

-- the events, if there are any
abbrev pub events_in : ℕ → List Tok → Option (List Atom × List Tok)
events_in d (k.Dot ∷ ts) = Some ([], k.Dot ∷ ts)
events_in d ts = parts_in atom_in d ts

-- the number and the events before a full stop
abbrev pub line_end : ℕ → List Atom → List Tok → Option ((ℕ × List Atom) × List Tok)
line_end n xs (k.Dot ∷ ts) = Some ((n, xs), ts)
line_end n xs ts = None

-- a line
abbrev pub line_in : ℕ → List Tok → Option ((ℕ × List Atom) × List Tok)
line_in d ts = then_in (cycle_in ts) (λ n us. then_in (events_in d us) (λ xs vs. line_end n xs vs))

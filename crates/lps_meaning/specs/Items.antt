-- Items with terms put in for their variables, and which of them are small.
use Rattle.std.specs.Prelude.{ℕ}
use Rattle.lps_terms.specs.declared.item.Item.{Item}
use Rattle.lps_terms.specs.declared.item.Item.TheVariants as i
use Rattle.lps_terms.specs.declared.term.Term.{Term}
use Rattle.lps_terms.specs.Put.{put_atom}
use Rattle.lps_terms.specs.Symbols.{atom_symbols_of}
use Rattle.lps_derivation.specs.Instances.{put_lit, put_built, IsSmall, IsSmallBuilt}

-- an item with s of each data variable in its place; times stay
abbrev pub put_item : (ℕ → Term) → Item → Item
put_item s (i.At l time) = i.At (put_lit s l) time
put_item s (i.Bare l) = i.Bare (put_lit s l)
put_item s (i.Built built) = i.Built (put_built s built)
put_item s (i.Span a from to) = i.Span (put_atom s a) from to
put_item s (i.Con con) = i.Con con

-- its atom, or each side of its built-in, has at most 1,024 symbols
abbrev pub IsSmallItem : Item → Type 0
IsSmallItem (i.At l time) = IsSmall (atom_symbols_of l.atom)
IsSmallItem (i.Bare l) = IsSmall (atom_symbols_of l.atom)
IsSmallItem (i.Built built) = IsSmallBuilt built
IsSmallItem (i.Span a from to) = IsSmall (atom_symbols_of a)
IsSmallItem (i.Con con) = Unit {0}

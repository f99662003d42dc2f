-- The kinds of signs and words that stand between the parts of a text.
use Rattle.std.specs.Prelude.{Bool, true, false}
use Rattle.lps_grammar.specs.declared.tok.Tok.{Tok}
use Rattle.lps_grammar.specs.declared.tok.Tok.TheVariants as k

-- the operators of products
abbrev pub is_mul : Tok → Bool
is_mul k.Star = true
is_mul k.Div = true
is_mul k.Mod = true
is_mul t = false

-- the operators of sums
abbrev pub is_add : Tok → Bool
is_add k.Plus = true
is_add k.Minus = true
is_add t = false

-- the relations between two expressions
abbrev pub is_rel : Tok → Bool
is_rel k.Less = true
is_rel k.AtMost = true
is_rel k.Greater = true
is_rel k.AtLeast = true
is_rel t = false

-- the relations between two times
abbrev pub is_time_rel : Tok → Bool
is_time_rel k.Less = true
is_time_rel k.AtMost = true
is_time_rel k.Equal = true
is_time_rel k.Greater = true
is_time_rel k.AtLeast = true
is_time_rel t = false

-- the kinds that are declared with an arity
abbrev pub is_kind : Tok → Bool
is_kind k.Fluent = true
is_kind k.Event = true
is_kind k.Action = true
is_kind t = false

-- the kinds that are declared with modes
abbrev pub is_moded_kind : Tok → Bool
is_moded_kind k.Timeless = true
is_moded_kind k.Derived = true
is_moded_kind k.Macro = true
is_moded_kind t = false

-- what a law says of its fluent
abbrev pub is_effect : Tok → Bool
is_effect k.Initiates = true
is_effect k.Terminates = true
is_effect t = false

-- the operators of expressions
abbrev pub is_op : Tok → Bool
is_op k.Plus = true
is_op k.Minus = true
is_op k.Star = true
is_op k.Div = true
is_op k.Mod = true
is_op t = false

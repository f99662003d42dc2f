-- Tokens that are left out of a canonical text: parentheses, signs and numbers, which name nothing and end no statement.
use Rattle.std.specs.Prelude.{◌≡◌, Bool, true, false, List, [], ◌∷◌}
use Rattle.lps_grammar.specs.declared.tok.Tok.{Tok}
use Rattle.lps_grammar.specs.declared.tok.Tok.TheVariants as k

-- a token that may be left out
abbrev pub is_light : Tok → Bool
is_light k.Open = true
is_light k.Close = true
is_light k.Plus = true
is_light k.Minus = true
is_light (k.Number n) = true
is_light t = false

-- the second tokens are the first, with some light ones left out
pub data Thinner : List Tok → List Tok → Type 0 where
  none : Thinner [] []
  keep : {ts us : List Tok} (t : Tok) → Thinner ts us → Thinner (t ∷ ts) (t ∷ us)
  leave : {ts us : List Tok} (t : Tok) → is_light t ≡ true → Thinner ts us → Thinner (t ∷ ts) us

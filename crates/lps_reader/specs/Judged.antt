-- What was made of the tokens of bytes, as `number` of `lps_numbering` gives it.
use Rattle.std.specs.Prelude.{ℕ, ◌≡◌, List}
use Rattle.lps_lex.specs.declared.token.Token.{Token}
use Rattle.lps_numbering.specs.declared.numbered.Numbered.{Numbered}
use Rattle.lps_numbering.specs.Numbers.{crowded_of, toks_of, up_to}

-- the place of a variable too many, and the tokens for the grammar up to it, are those of these tokens
pub record IsNumberingOf (bytes : List ℕ) (tokens : List Token) (numbered : Numbered) : Type 0 where
  pub crowded : numbered.crowded ≡ crowded_of bytes tokens
  pub toks : numbered.toks.items ≡ toks_of bytes (up_to numbered.crowded tokens)

-- The table of tokens: the form of each kind, its greatest size, and that a token is the longest that fits.
use Rattle.std.specs.Prelude.{ℕ, ◌≡◌, ◌<◌, ◌≤◌, ◌^◌, Bool, true, false, List, [], ◌∷◌, ◌++◌, length, nat_le, not, ◌==◌, ◌&&◌, ◌||◌, Contains, codes}
use Rattle.std.specs.List.{list_all}
use Rattle.std.specs.Char.{is_ascii_digit}
use Rattle.lps_terms.specs.Names.{is_lower_byte, is_word_byte, reserved}
use Rattle.lps_terms.specs.declared.lex_refused.LexRefused.{LexRefused}
use Rattle.lps_terms.specs.declared.lex_refused.LexRefused.TheVariants as refused
use Rattle.lps_lex.specs.declared.token_kind.TokenKind.{TokenKind}
use Rattle.lps_lex.specs.declared.token_kind.TokenKind.TheVariants as kind
use Rattle.lps_lex.specs.Piece.{is_blank, value_of}

-- the signs of the language
abbrev pub signs : List (List ℕ)
signs = codes "(" ∷ codes ")" ∷ codes "," ∷ codes "." ∷ codes "/" ∷ codes "+" ∷ codes "-" ∷ codes "*" ∷ codes "=" ∷ codes "\\=" ∷ codes "<" ∷ codes "=<" ∷ codes ">" ∷ codes ">=" ∷ codes ":" ∷ []

-- an upper-case letter or `_`
abbrev pub begins_variable : ℕ → Bool
begins_variable byte = (nat_le 65 byte && nat_le byte 90) || (byte == 95)

-- a letter or `_`
abbrev pub begins_word : ℕ → Bool
begins_word byte = is_word_byte byte && not (is_ascii_digit byte)

-- a byte that passes the first test, and then only bytes that pass the second
abbrev pub IsSpelled : (ℕ → Bool) → (ℕ → Bool) → List ℕ → Type 0
IsSpelled begins follows [] = ⊥
IsSpelled begins follows (first ∷ rest) = (begins first ≡ true) × (list_all follows rest ≡ true)

-- a lower-case letter, then letters, digits and `_`; not reserved
abbrev pub IsName : List ℕ → Type 0
IsName text = IsSpelled is_lower_byte is_word_byte text × (Contains reserved text → ⊥)

-- `T`, or `T` followed by digits only
abbrev pub IsTime : List ℕ → Type 0
IsTime text = IsSpelled (λ byte. byte == 84) is_ascii_digit text

-- an upper-case letter or `_`, then letters, digits and `_`; not a time
abbrev pub IsVariable : List ℕ → Type 0
IsVariable text = IsSpelled begins_variable is_word_byte text × (IsTime text → ⊥)

-- digits
abbrev pub IsNumber : List ℕ → Type 0
IsNumber text = IsSpelled is_ascii_digit is_ascii_digit text

-- the form of a kind of token
abbrev pub HasForm : TokenKind → List ℕ → Type 0
HasForm kind.Name text = IsName text
HasForm kind.Reserved text = Contains reserved text
HasForm kind.Time text = IsTime text
HasForm kind.Variable text = IsVariable text
HasForm kind.Number text = IsNumber text
HasForm kind.Sign text = Contains signs text

-- words have at most 64 bytes, and numbers a value of at most 2 ^ 63
abbrev pub IsWithinLimit : TokenKind → List ℕ → Type 0
IsWithinLimit kind.Number text = value_of text ≤ 2 ^ 63
IsWithinLimit kind.Sign text = Unit {0}
IsWithinLimit word text = length text ≤ 64

-- what follows does not go on with a byte that passes the test
abbrev pub Stops : (ℕ → Bool) → List ℕ → Type 0
Stops test [] = Unit {0}
Stops test (next ∷ rest) = test next ≡ false

-- the token could not be longer, with what follows it
abbrev pub IsLongest : TokenKind → List ℕ → List ℕ → Type 0
IsLongest kind.Number text rest = Stops is_ascii_digit rest
IsLongest kind.Sign text rest = (sign after : List ℕ) → Contains signs sign → text ++ rest ≡ sign ++ after → length sign ≤ length text
IsLongest word text rest = Stops is_word_byte rest

-- a token of this kind and text stands before these bytes
pub record IsToken (kind : TokenKind) (text rest : List ℕ) : Type 0 where
  pub form : HasForm kind text
  pub limit : IsWithinLimit kind text
  pub longest : IsLongest kind text rest

-- a comment, which ends before the next line feed
pub record IsComment (text rest : List ℕ) : Type 0 where
  pub form : IsSpelled (λ byte. byte == 37) (λ byte. not (byte == 10)) text
  pub longest : Stops (λ byte. not (byte == 10)) rest

-- a word that is too long stands at the front
pub record BeginsLongWord (bytes : List ℕ) : Type 0 where
  pub word : List ℕ
  pub rest : List ℕ
  pub split : bytes ≡ word ++ rest
  pub form : IsSpelled begins_word is_word_byte word
  pub longest : Stops is_word_byte rest
  pub long : 64 < length word

-- a number that is too large stands at the front
pub record BeginsLargeNumber (bytes : List ℕ) : Type 0 where
  pub digits : List ℕ
  pub rest : List ℕ
  pub split : bytes ≡ digits ++ rest
  pub form : IsNumber digits
  pub longest : Stops is_ascii_digit rest
  pub large : 2 ^ 63 < value_of digits

-- a byte stands at the front that separates no tokens, begins no comment, and with which no token begins
pub record BeginsNothing (bytes : List ℕ) : Type 0 where
  pub first : ℕ
  pub rest : List ℕ
  pub split : bytes ≡ first ∷ rest
  pub no_blank : is_blank first ≡ false
  pub no_feed : (first == 10) ≡ false
  pub no_comment : (first == 37) ≡ false
  pub no_token : (kind : TokenKind) (text after : List ℕ) → bytes ≡ text ++ after → HasForm kind text → ⊥

-- the fault stands at the front of these bytes, in this line
abbrev pub IsFault : LexRefused → ℕ → List ℕ → Type 0
IsFault (refused.BadByte place) line bytes = (place ≡ line) × BeginsNothing bytes
IsFault (refused.NameTooLong place) line bytes = (place ≡ line) × BeginsLongWord bytes
IsFault (refused.NumberTooLarge place) line bytes = (place ≡ line) × BeginsLargeNumber bytes

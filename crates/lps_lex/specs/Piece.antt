-- What stands at the front of bytes: a line feed, blanks, a token, or a fault.
use Rattle.std.specs.Prelude.{ℕ, ◌+◌, ◌*◌, ◌-◌, ◌^◌, Bool, false, List, [], ◌∷◌, length, nat_le, nat_eq, ◌==◌, ◌&&◌, ◌||◌, not, if◌then◌else◌, Result, Ok, Err, codes, ◌<◌, ◌≤◌}
use Rattle.std.specs.List.{take_while, list_all, list_any}
use Rattle.std.specs.Char.{is_ascii_digit}
use Rattle.lps_terms.specs.Names.{begins_low, is_proper_name, is_word_byte}
use Rattle.lps_terms.specs.declared.lex_refused.LexRefused.{LexRefused}
use Rattle.lps_terms.specs.declared.lex_refused.LexRefused.TheVariants as refused
use Rattle.lps_lex.specs.declared.token_kind.TokenKind.{TokenKind}
use Rattle.lps_lex.specs.declared.token_kind.TokenKind.TheVariants as kind
use Rattle.lps_lex.specs.declared.piece.Piece.{Piece}
use Rattle.lps_lex.specs.declared.piece.Piece.TheVariants as piece

-- how many bytes from the front on pass the test
abbrev pub run_length : (ℕ → Bool) → List ℕ → ℕ
run_length test bytes = length (take_while test bytes)

-- space, tab or carriage return
abbrev pub is_blank : ℕ → Bool
is_blank byte = (byte == 32) || (byte == 9) || (byte == 13)

-- any byte but a line feed
abbrev pub is_no_feed : ℕ → Bool
is_no_feed byte = not (byte == 10)

-- how many bytes stand before the next line feed
abbrev pub comment_length : List ℕ → ℕ
comment_length bytes = run_length is_no_feed bytes

-- the value of digits, after digits of this value
abbrev pub value_onto : ℕ → List ℕ → ℕ
value_onto value [] = value
value_onto value (digit ∷ digits) = value_onto (10 * value + (digit - 48)) digits

-- the value of digits
abbrev pub value_of : List ℕ → ℕ
value_of digits = value_onto 0 digits

-- a number of these digits, unless its value is too large
abbrev pub number_piece : ℕ → List ℕ → Result Piece LexRefused
number_piece line digits = if nat_le (value_of digits) (2 ^ 63) then Ok (piece.Token kind.Number (length digits)) else Err (refused.NumberTooLarge line)

-- `T` and then digits only
abbrev pub is_time : List ℕ → Bool
is_time [] = false
is_time (first ∷ rest) = (first == 84) && list_all is_ascii_digit rest

-- the kind of a word that is not too long
abbrev pub word_kind : List ℕ → TokenKind
word_kind word = if is_proper_name word then kind.Name else (if begins_low word then kind.Reserved else (if is_time word then kind.Time else kind.Variable))

-- a word, unless it is too long
abbrev pub word_piece : ℕ → List ℕ → Result Piece LexRefused
word_piece line word = if nat_le (length word) 64 then Ok (piece.Token (word_kind word) (length word)) else Err (refused.NameTooLong line)

-- `\=`, `=<` or `>=` stands at the front
abbrev pub begins_long_sign : List ℕ → Bool
begins_long_sign (first ∷ second ∷ rest) = ((first == 92) && (second == 61)) || ((first == 61) && (second == 60)) || ((first == 62) && (second == 61))
begins_long_sign (first ∷ []) = false
begins_long_sign [] = false

-- a sign of one byte stands at the front
abbrev pub begins_short_sign : List ℕ → Bool
begins_short_sign [] = false
begins_short_sign (first ∷ rest) = list_any (λ sign. nat_eq sign first) (codes "(),./+-*=<>:")

-- the longest sign, or a byte that begins no token
abbrev pub sign_piece : ℕ → List ℕ → Result Piece LexRefused
sign_piece line bytes = if begins_long_sign bytes then Ok (piece.Token kind.Sign 2) else (if begins_short_sign bytes then Ok (piece.Token kind.Sign 1) else Err (refused.BadByte line))

-- what stands at the front, in this line
abbrev pub piece_of : ℕ → List ℕ → Result Piece LexRefused
piece_of line [] = Err (refused.BadByte line)
piece_of line (first ∷ rest) =
    if first == 10 then Ok piece.LineFeed else (
    if is_blank first then Ok (piece.Blanks 1) else (
    if first == 37 then Ok (piece.Blanks (comment_length (first ∷ rest))) else (
    if is_ascii_digit first then number_piece line (take_while is_ascii_digit (first ∷ rest)) else (
    if is_word_byte first then word_piece line (take_while is_word_byte (first ∷ rest)) else sign_piece line (first ∷ rest)))))

-- the piece has a byte at least, and no more than there are
abbrev pub FitsIn : ℕ → Piece → Type 0
FitsIn count piece.LineFeed = 0 < count
FitsIn count (piece.Blanks length) = (0 < length) × (length ≤ count)
FitsIn count (piece.Token kind length) = (0 < length) × (length ≤ count)

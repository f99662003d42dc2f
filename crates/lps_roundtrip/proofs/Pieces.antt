-- What is written for a token is read whole before bytes with which it does not go on.
use Rattle.std.specs.Prelude.{ℕ, ◌≡◌, ◌<◌, ◌≤◌, ◌^◌, Bool, true, false, List, [], ◌∷◌, ◌++◌, length, nat_eq, nat_le, not, ◌==◌, ◌&&◌, ◌||◌, Contains, codes, refl}
use Rattle.std.specs.List.{list_all, list_any}
use Rattle.std.specs.Char.{is_ascii_digit}
use Rattle.std.specs.Fmt.{decimal}
use Rattle.std.proofs.Common.{◌∙◌, sym, ap, subst, arith}
use Rattle.std.proofs.lemmas.Bool.{eqb-true, leb-true, le-leb, not-true}
use Rattle.std.proofs.lemmas.Fmt.{decimal_nonempty, digits_decimal, digits_value-decimal}
use Rattle.std.proofs.lemmas.Str.Parse.{FoldsDigits, IsDigitsTest, IsNumeralModel, numerals_by_fold}
use Rattle.lps_terms.specs.Names.{is_word_byte, reserved}
use Rattle.lps_grammar.specs.declared.tok.Tok.{Tok}
use Rattle.lps_grammar.specs.declared.tok.Tok.TheVariants as k
use Rattle.lps_lex.specs.declared.token_kind.TokenKind.TheVariants as kind
use Rattle.lps_lex.specs.Piece.{begins_long_sign, value_of, value_onto}
use Rattle.lps_lex.specs.Forms.{IsNumber, IsToken, signs, Stops}
use Rattle.lps_lex.proofs.Bytes.{both}
use Rattle.lps_lex.proofs.Signs.{short_longest, sign_size}
use Rattle.lps_lex.proofs.Words.{contained, reserved_form}
use Rattle.lps_numbering.specs.declared.names.Names.{Names}
use Rattle.lps_roundtrip.specs.Words.{kind_of, Word, words_of, written_as}
use Rattle.lps_roundtrip.specs.Shown.{AreFine, IsFine, Shown}
use Rattle.lps_roundtrip.specs.Shown as shown

-- ---- what may follow

-- the bytes with which no token goes on
abbrev pub end_bytes : List ℕ
end_bytes = codes " (),./\n"

-- the byte is one of them
abbrev pub is_end : ℕ → Bool
is_end byte = list_any (nat_eq byte) end_bytes

-- no token before these bytes goes on with them
abbrev pub Ends : List ℕ → Type 0
Ends [] = Unit {0}
Ends (next ∷ rest) = is_end next ≡ true

-- what all of some bytes pass, each of them passes
passes_among : (test : ℕ → Bool) (byte : ℕ) (bytes : List ℕ) → list_all test bytes ≡ true → list_any (nat_eq byte) bytes ≡ true → test byte ≡ true
passes_among test byte [] all found = absurd cc
passes_among test byte (first ∷ bytes) all found =
    let parts = both _ _ all in passes_if (nat_eq byte first) refl parts.0 (λ later. passes_among test byte bytes parts.1 later)
  where
    passes_if : (here : Bool) → nat_eq byte first ≡ here → test first ≡ true → (list_any (nat_eq byte) bytes ≡ true → test byte ≡ true) → test byte ≡ true
    passes_if true e passes later = subst (λ x. test x ≡ true) (sym (eqb-true byte first e)) passes
    passes_if false e passes later = later (sym (ap (λ x. x || list_any (nat_eq byte) bytes) e) ∙ found)

-- what none of these bytes passes does not go on before them
ends_stop : (test : ℕ → Bool) (rest : List ℕ) → list_all (λ byte. not (test byte)) end_bytes ≡ true → Ends rest → Stops test rest
ends_stop test [] none ends = tt
ends_stop test (next ∷ rest) none ends = not-true _ (passes_among (λ byte. not (test byte)) next end_bytes none ends)

-- ---- signs

and_false : (x : Bool) → (x && false) ≡ false
and_false true = refl
and_false false = refl

ends_short : (first : ℕ) (rest : List ℕ) → Ends rest → begins_long_sign (first ∷ rest) ≡ false
ends_short first [] ends = refl
ends_short first (second ∷ rest) ends =
    let equal : (second == 61) ≡ false = not-true _ (passes_among (λ byte. not (byte == 61)) second end_bytes refl ends) in
    let less : (second == 60) ≡ false = not-true _ (passes_among (λ byte. not (byte == 60)) second end_bytes refl ends) in
    ap (λ x. ((first == 92) && x) || ((first == 61) && (second == 60)) || ((first == 62) && x)) equal
    ∙ ap (λ x. ((first == 92) && false) || ((first == 61) && x) || ((first == 62) && false)) less
    ∙ ap (λ x. x || ((first == 61) && false) || ((first == 62) && false)) (and_false (first == 92))
    ∙ ap (λ x. x || ((first == 62) && false)) (and_false (first == 61)) ∙ and_false (first == 62)

-- a sign of one byte, where none of two begins
short_token : (first : ℕ) (rest : List ℕ) → Contains signs (first ∷ []) → begins_long_sign (first ∷ rest) ≡ false → IsToken kind.Sign (first ∷ []) rest
short_token first rest is none = record { form = is; limit = tt; longest = short_longest (first ∷ rest) none }

-- a sign of two bytes
long_token : (first second : ℕ) (rest : List ℕ) → Contains signs (first ∷ second ∷ []) → IsToken kind.Sign (first ∷ second ∷ []) rest
long_token first second rest is = record { form = is; limit = tt; longest = λ sign after in_table split. sign_size sign in_table }

-- with a sign of one byte none of two begins
lone_token : (first : ℕ) (rest : List ℕ) → Contains signs (first ∷ []) → ((second : ℕ) (more : List ℕ) → begins_long_sign (first ∷ second ∷ more) ≡ false) → IsToken kind.Sign (first ∷ []) rest
lone_token first [] is none = short_token first [] is refl
lone_token first (second ∷ rest) is none = short_token first (second ∷ rest) is (none second rest)

-- a sign that never goes on
abbrev pub is_lone : Tok → Bool
is_lone k.Open = true
is_lone k.Close = true
is_lone k.Comma = true
is_lone k.Dot = true
is_lone k.Slash = true
is_lone k.Plus = true
is_lone k.Minus = true
is_lone k.Star = true
is_lone k.Less = true
is_lone k.Colon = true
is_lone t = false

-- such a sign is read before anything
lone_is : (names : Names) (t : Tok) (rest : List ℕ) → is_lone t ≡ true → IsToken (kind_of t) (written_as names t) rest
lone_is names k.Open rest is = lone_token 40 rest (contained signs (codes "(") refl) (λ second more. refl)
lone_is names k.Close rest is = lone_token 41 rest (contained signs (codes ")") refl) (λ second more. refl)
lone_is names k.Comma rest is = lone_token 44 rest (contained signs (codes ",") refl) (λ second more. refl)
lone_is names k.Dot rest is = lone_token 46 rest (contained signs (codes ".") refl) (λ second more. refl)
lone_is names k.Slash rest is = lone_token 47 rest (contained signs (codes "/") refl) (λ second more. refl)
lone_is names k.Plus rest is = lone_token 43 rest (contained signs (codes "+") refl) (λ second more. refl)
lone_is names k.Minus rest is = lone_token 45 rest (contained signs (codes "-") refl) (λ second more. refl)
lone_is names k.Star rest is = lone_token 42 rest (contained signs (codes "*") refl) (λ second more. refl)
lone_is names k.Less rest is = lone_token 60 rest (contained signs (codes "<") refl) (λ second more. refl)
lone_is names k.Colon rest is = lone_token 58 rest (contained signs (codes ":") refl) (λ second more. refl)
lone_is names t rest is = absurd cc

-- ---- words

-- a word of the language
reserved_token : (text rest : List ℕ) → Contains reserved text → Ends rest → IsToken kind.Reserved text rest
reserved_token text rest is ends = record { form = is; limit = (reserved_form text is).1; longest = ends_stop is_word_byte rest refl ends }

-- ---- numbers

digits_told : IsDigitsTest (λ ds. list_all is_ascii_digit ds ≡ true)
digits_told = record {
  empty = refl;
  parts = λ c cs e. let k = both (is_ascii_digit c) (list_all is_ascii_digit cs) e in let m = both (nat_le 48 c) (nat_le c 57) k.0 in ((leb-true 48 c m.0, leb-true c 57 m.1), k.1);
  more = λ c cs k e i. (le-leb 48 c k.0 i && le-leb c 57 k.1 i) && e i;
}

value_folds : FoldsDigits value_onto
value_folds = record { empty = λ n. refl; more = λ n c cs is. ap (λ value. value_onto value cs) (omega arith) }

digits_model : IsNumeralModel (λ ds. list_all is_ascii_digit ds ≡ true) value_of
digits_model = numerals_by_fold _ digits_told value_onto value_folds

-- the digits of a number have its value
pub value_of-decimal : (n : ℕ) → n ≤ 2 ^ 63 → value_of (decimal n) ≡ n
value_of-decimal n small = digits_value-decimal digits_model n (omega (arith, small))

spelled_digits : (ds : List ℕ) → 0 < length ds → list_all is_ascii_digit ds ≡ true → IsNumber ds
spelled_digits [] some all = absurd (omega arith)
spelled_digits (first ∷ ds) some all = both _ _ all

-- a number is written in digits
pub decimal_is : (n : ℕ) → n ≤ 2 ^ 63 → IsNumber (decimal n)
decimal_is n small = spelled_digits (decimal n) (decimal_nonempty n (omega (arith, small))) (digits_decimal digits_model n (omega (arith, small)))

number_token : (n : ℕ) (rest : List ℕ) → n ≤ 2 ^ 63 → Ends rest → IsToken kind.Number (decimal n) rest
number_token n rest small ends =
    record { form = decimal_is n small; limit = subst (λ value. value ≤ 2 ^ 63) (sym (value_of-decimal n small)) small; longest = ends_stop is_ascii_digit rest refl ends }

-- ---- every token

-- what is written for a token is read whole where it ends
pub fine_token : (names : Names) (t : Tok) (rest : List ℕ) → IsFine names t → Ends rest → IsToken (kind_of t) (written_as names t) rest
unfolding reserved
fine_token names (k.Name n) rest fine ends = record { form = fine.0; limit = fine.1; longest = ends_stop is_word_byte rest refl ends }
fine_token names (k.Variable n) rest fine ends = record { form = fine.0; limit = fine.1; longest = ends_stop is_word_byte rest refl ends }
fine_token names (k.Time n) rest fine ends = record { form = fine.0; limit = fine.1; longest = ends_stop is_word_byte rest refl ends }
fine_token names (k.Number n) rest fine ends = number_token n rest fine ends
fine_token names k.If rest fine ends = reserved_token (codes "if") rest (contained reserved (codes "if") refl) ends
fine_token names k.Then rest fine ends = reserved_token (codes "then") rest (contained reserved (codes "then") refl) ends
fine_token names k.Or rest fine ends = reserved_token (codes "or") rest (contained reserved (codes "or") refl) ends
fine_token names k.Not rest fine ends = reserved_token (codes "not") rest (contained reserved (codes "not") refl) ends
fine_token names k.False rest fine ends = reserved_token (codes "false") rest (contained reserved (codes "false") refl) ends
fine_token names k.Fluent rest fine ends = reserved_token (codes "fluent") rest (contained reserved (codes "fluent") refl) ends
fine_token names k.Event rest fine ends = reserved_token (codes "event") rest (contained reserved (codes "event") refl) ends
fine_token names k.Action rest fine ends = reserved_token (codes "action") rest (contained reserved (codes "action") refl) ends
fine_token names k.Timeless rest fine ends = reserved_token (codes "timeless") rest (contained reserved (codes "timeless") refl) ends
fine_token names k.Derived rest fine ends = reserved_token (codes "derived") rest (contained reserved (codes "derived") refl) ends
fine_token names k.Macro rest fine ends = reserved_token (codes "macro") rest (contained reserved (codes "macro") refl) ends
fine_token names k.Initially rest fine ends = reserved_token (codes "initially") rest (contained reserved (codes "initially") refl) ends
fine_token names k.Initiates rest fine ends = reserved_token (codes "initiates") rest (contained reserved (codes "initiates") refl) ends
fine_token names k.Terminates rest fine ends = reserved_token (codes "terminates") rest (contained reserved (codes "terminates") refl) ends
fine_token names k.At rest fine ends = reserved_token (codes "at") rest (contained reserved (codes "at") refl) ends
fine_token names k.From rest fine ends = reserved_token (codes "from") rest (contained reserved (codes "from") refl) ends
fine_token names k.To rest fine ends = reserved_token (codes "to") rest (contained reserved (codes "to") refl) ends
fine_token names k.Is rest fine ends = reserved_token (codes "is") rest (contained reserved (codes "is") refl) ends
fine_token names k.Div rest fine ends = reserved_token (codes "div") rest (contained reserved (codes "div") refl) ends
fine_token names k.Mod rest fine ends = reserved_token (codes "mod") rest (contained reserved (codes "mod") refl) ends
fine_token names k.Open rest fine ends = lone_is names k.Open rest refl
fine_token names k.Close rest fine ends = lone_is names k.Close rest refl
fine_token names k.Comma rest fine ends = lone_is names k.Comma rest refl
fine_token names k.Dot rest fine ends = lone_is names k.Dot rest refl
fine_token names k.Slash rest fine ends = lone_is names k.Slash rest refl
fine_token names k.Plus rest fine ends = lone_is names k.Plus rest refl
fine_token names k.Minus rest fine ends = lone_is names k.Minus rest refl
fine_token names k.Star rest fine ends = lone_is names k.Star rest refl
fine_token names k.Equal rest fine ends = short_token 61 rest (contained signs (codes "=") refl) (ends_short 61 rest ends)
fine_token names k.Differ rest fine ends = long_token 92 61 rest (contained signs (codes "\\=") refl)
fine_token names k.Less rest fine ends = lone_is names k.Less rest refl
fine_token names k.AtMost rest fine ends = long_token 61 60 rest (contained signs (codes "=<") refl)
fine_token names k.Greater rest fine ends = short_token 62 rest (contained signs (codes ">") refl) (ends_short 62 rest ends)
fine_token names k.AtLeast rest fine ends = long_token 62 61 rest (contained signs (codes ">=") refl)
fine_token names k.Colon rest fine ends = lone_is names k.Colon rest refl

-- ---- tokens in a line

-- from this line on, the bytes show what is written for these tokens in it, and then these words
pub record Says (names : Names) (line : ℕ) (words : List Word) (bytes : List ℕ) (toks : List Tok) : Type 0 where
  pub shows : Shown line bytes (words_of names line toks ++ words)

-- a token before bytes with which it does not go on
pub says_token : {names : Names} {line : ℕ} {words : List Word} (t : Tok) {rest : List ℕ} {toks : List Tok} →
    IsFine names t → Ends rest → Says names line words rest toks → Says names line words (written_as names t ++ rest) (t ∷ toks)
says_token {names} t {rest} fine ends more = record { shows = shown.word (kind_of t) (written_as names t) (fine_token names t rest fine ends) more.shows }

-- a sign that never goes on
pub says_sign : {names : Names} {line : ℕ} {words : List Word} (t : Tok) {rest : List ℕ} {toks : List Tok} →
    is_lone t ≡ true → Says names line words rest toks → Says names line words (written_as names t ++ rest) (t ∷ toks)
says_sign {names} t {rest} lone more = record { shows = shown.word (kind_of t) (written_as names t) (lone_is names t rest lone) more.shows }

-- a blank
pub says_space : {names : Names} {line : ℕ} {words : List Word} {rest : List ℕ} {toks : List Tok} →
    Says names line words rest toks → Says names line words (32 ∷ rest) toks
says_space more = record { shows = shown.space more.shows }

-- a token between blanks
pub says_between : {names : Names} {line : ℕ} {words : List Word} (t : Tok) {rest : List ℕ} {toks : List Tok} →
    IsFine names t → Says names line words rest toks → Says names line words (32 ∷ (written_as names t ++ (32 ∷ rest))) (t ∷ toks)
says_between t fine more = says_space (says_token t fine refl (says_space more))

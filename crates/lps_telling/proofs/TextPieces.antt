-- Names and numbers before bytes with which they do not go on: where the bytes are the same, so are the two parts.
use Rattle.std.proofs.Common.{ℕ, ℤ, suc, ◌≡◌, ◌<◌, Bool, true, false, List, [], ◌∷◌, ◌++◌, length, refl, sym, ap, arith}
use Rattle.std.specs.Prelude.{◌^◌, ◌*◌, ◌+◌, ◌-◌, nat_lt, nat_le, ◌==◌, ◌&&◌, ◌||◌, pos, negsuc}
use Rattle.std.specs.Char.{is_ascii_digit}
use Rattle.std.specs.Fmt.{decimal, signed_decimal}
use Rattle.std.specs.List.{list_all}
use Rattle.std.proofs.lemmas.Bool.{leb-true, le-leb, ltb-true}
use Rattle.std.proofs.lemmas.Bool.Decides.{nat_tests}
use Rattle.std.proofs.lemmas.Fmt.{decimal_nonempty, decimal_injective, digits_decimal}
use Rattle.std.proofs.lemmas.Str.Parse.{FoldsDigits, IsDigitsTest, IsNumeralModel, numerals_by_fold}
use Rattle.lps_terms.specs.Names.{begins_low, is_lower_byte, is_proper_name, is_word_byte}
use Rattle.lps_terms.specs.Integers.{is_i64}
use Rattle.lps_meaning.proofs.Lists.{both}

-- ---- lists

abbrev pub head_or : {X : Type 0} → X → List X → X
head_or x [] = x
head_or x (y ∷ ys) = y

abbrev pub tail : {X : Type 0} → List X → List X
tail [] = []
tail (x ∷ xs) = xs

pub cancel_front : (front xs ys : List ℕ) → front ++ xs ≡ front ++ ys → xs ≡ ys
cancel_front [] xs ys e = e
cancel_front (x ∷ front) xs ys e = cancel_front front xs ys (ap tail e)

-- ---- what follows

-- the next byte, if there is one, fails the test
abbrev pub Stops : (ℕ → Bool) → List ℕ → Type 0
Stops test [] = Unit {0}
Stops test (next ∷ rest) = test next ≡ false

-- the first byte is there, and passes the test
abbrev pub Begins : (ℕ → Bool) → List ℕ → Type 0
Begins test [] = ⊥
Begins test (first ∷ rest) = test first ≡ true

fails_not : (test : ℕ → Bool) (x y : ℕ) → test x ≡ true → test y ≡ false → x ≡ y → ⊥
fails_not test x y passes fails e = let same : test x ≡ test y = ap test e in absurd cc

pub not_both : (test : ℕ → Bool) (xs ys : List ℕ) → Begins test xs → Stops test ys → xs ≡ ys → ⊥
not_both test [] ys begins stops e = absurd begins
not_both test (x ∷ xs) [] begins stops e = let longer : suc (length xs) ≡ 0 = ap length e in absurd (omega (arith, longer))
not_both test (x ∷ xs) (y ∷ ys) begins stops e = fails_not test x y begins stops (ap (head_or 0) e)

pub begins_front : (test : ℕ → Bool) (xs ys : List ℕ) → Begins test xs → Begins test (xs ++ ys)
begins_front test [] ys begins = absurd begins
begins_front test (x ∷ xs) ys begins = begins

-- bytes of one class before bytes that stop it
pub same_run : (test : ℕ → Bool) (xs ys rest after : List ℕ) → list_all test xs ≡ true → list_all test ys ≡ true → Stops test rest → Stops test after →
    xs ++ rest ≡ ys ++ after → (xs ≡ ys) × (rest ≡ after)
same_run test [] [] rest after all every stops ends e = (refl, e)
same_run test [] (y ∷ ys) rest after all every stops ends e = absurd (not_both test (y ∷ ys ++ after) rest (both _ _ every).0 stops (sym e))
same_run test (x ∷ xs) [] rest after all every stops ends e = absurd (not_both test (x ∷ xs ++ rest) after (both _ _ all).0 ends e)
same_run test (x ∷ xs) (y ∷ ys) rest after all every stops ends e =
    let first : x ≡ y = ap (head_or 0) e in
    let later = same_run test xs ys rest after (both _ _ all).1 (both _ _ every).1 stops ends (ap tail e) in
    ((λ i. first i ∷ later.0 i), later.1)

-- ---- numbers

abbrev value_onto : ℕ → List ℕ → ℕ
value_onto value [] = value
value_onto value (digit ∷ digits) = value_onto (value * 10 + (digit - 48)) digits

digits_told : IsDigitsTest (λ ds. list_all is_ascii_digit ds ≡ true)
digits_told = record {
  empty = refl;
  parts = λ c cs e. let k = both (is_ascii_digit c) (list_all is_ascii_digit cs) e in let m = both (nat_le 48 c) (nat_le c 57) k.0 in ((leb-true 48 c m.0, leb-true c 57 m.1), k.1);
  more = λ c cs k e i. (le-leb 48 c k.0 i && le-leb c 57 k.1 i) && e i;
}

value_folds : FoldsDigits value_onto
value_folds = record { empty = λ n. refl; more = λ n c cs is. refl }

digits_model : IsNumeralModel (λ ds. list_all is_ascii_digit ds ≡ true) (value_onto 0)
digits_model = numerals_by_fold _ digits_told value_onto value_folds

all_digits : (n : ℕ) → n < 2 ^ 64 → list_all is_ascii_digit (decimal n) ≡ true
all_digits n small = digits_decimal digits_model n small

begins_all : (test : ℕ → Bool) (xs : List ℕ) → 0 < length xs → list_all test xs ≡ true → Begins test xs
begins_all test [] some all = absurd (omega arith)
begins_all test (x ∷ xs) some all = (both _ _ all).0

digit_first : (n : ℕ) → n < 2 ^ 64 → Begins is_ascii_digit (decimal n)
digit_first n small = begins_all is_ascii_digit (decimal n) (decimal_nonempty n small) (all_digits n small)

-- a number before bytes that go on with no digit
pub same_number : (m n : ℕ) (rest after : List ℕ) → m < 2 ^ 64 → n < 2 ^ 64 → Stops is_ascii_digit rest → Stops is_ascii_digit after →
    decimal m ++ rest ≡ decimal n ++ after → (m ≡ n) × (rest ≡ after)
same_number m n rest after small low stops ends e =
    let parts = same_run is_ascii_digit (decimal m) (decimal n) rest after (all_digits m small) (all_digits n low) stops ends e in
    (decimal_injective m n small low parts.0, parts.1)

-- a digit, or the sign before one
abbrev pub is_sign_byte : ℕ → Bool
is_sign_byte byte = is_ascii_digit byte || (byte == 45)

in_range : (n : ℕ) → nat_lt n (2 ^ 63) ≡ true → suc n < 2 ^ 64
in_range n small = let lt = ltb-true n (2 ^ 63) small in omega (arith, lt)

minus_is_no_digit : (n : ℕ) (rest after : List ℕ) → n < 2 ^ 64 → decimal n ++ rest ≡ 45 ∷ after → ⊥
minus_is_no_digit n rest after small e =
    not_both is_ascii_digit (decimal n ++ rest) (45 ∷ after) (begins_front is_ascii_digit (decimal n) rest (digit_first n small)) refl e

pub same_integer : (y z : ℤ) (rest after : List ℕ) → is_i64 y ≡ true → is_i64 z ≡ true → Stops is_ascii_digit rest → Stops is_ascii_digit after →
    signed_decimal y ++ rest ≡ signed_decimal z ++ after → (y ≡ z) × (rest ≡ after)
same_integer (pos m) (pos n) rest after small low stops ends e =
    let lt = in_range m small in let lt' = in_range n low in
    let parts = same_number m n rest after (omega (arith, lt)) (omega (arith, lt')) stops ends e in (ap pos parts.0, parts.1)
same_integer (pos m) (negsuc n) rest after small low stops ends e = let lt = in_range m small in absurd (minus_is_no_digit m rest _ (omega (arith, lt)) e)
same_integer (negsuc m) (pos n) rest after small low stops ends e = let lt = in_range n low in absurd (minus_is_no_digit n after _ (omega (arith, lt)) (sym e))
same_integer (negsuc m) (negsuc n) rest after small low stops ends e =
    let parts = same_number (suc m) (suc n) rest after (in_range m small) (in_range n low) stops ends (ap tail e) in
    let same : m ≡ n = let s = parts.0 in omega (arith, s) in (ap negsuc same, parts.1)

begins_or : (f g : ℕ → Bool) (xs : List ℕ) → Begins f xs → Begins (λ byte. f byte || g byte) xs
begins_or f g [] begins = absurd begins
begins_or f g (x ∷ xs) begins = ap (λ b. b || g x) begins

pub integer_first : (z : ℤ) → is_i64 z ≡ true → Begins is_sign_byte (signed_decimal z)
integer_first (pos n) small = let lt = in_range n small in begins_or is_ascii_digit (λ byte. byte == 45) (decimal n) (digit_first n (omega (arith, lt)))
integer_first (negsuc n) small = refl

-- ---- names

pub word_bytes : (n : List ℕ) → is_proper_name n ≡ true → list_all is_word_byte n ≡ true
unfolding is_proper_name
word_bytes n h = (both (begins_low n && nat_le (length n) 64) (list_all is_word_byte n) (both _ _ h).0).1

low_begins : (n : List ℕ) → begins_low n ≡ true → Begins is_lower_byte n
low_begins [] h = absurd cc
low_begins (x ∷ n) h = h

pub name_first : (n : List ℕ) → is_proper_name n ≡ true → Begins is_lower_byte n
unfolding is_proper_name
name_first n h = low_begins n (both (begins_low n) (nat_le (length n) 64) (both (begins_low n && nat_le (length n) 64) (list_all is_word_byte n) (both _ _ h).0).0).0

-- a name before bytes that go on with no word
pub same_name : (n m rest after : List ℕ) → is_proper_name n ≡ true → is_proper_name m ≡ true → Stops is_word_byte rest → Stops is_word_byte after →
    n ++ rest ≡ m ++ after → (n ≡ m) × (rest ≡ after)
same_name n m rest after proper good = same_run is_word_byte n m rest after (word_bytes n proper) (word_bytes m good)

low_no_sign : (byte : ℕ) → is_lower_byte byte ≡ true → is_sign_byte byte ≡ false
low_no_sign byte low = grind (arith, nat_tests, low)

stops_no_sign : (xs : List ℕ) → Begins is_lower_byte xs → Stops is_sign_byte xs
stops_no_sign [] begins = absurd begins
stops_no_sign (x ∷ xs) begins = low_no_sign x begins

-- no integer begins as a name
pub integer_is_no_name : (z : ℤ) (n rest after : List ℕ) → is_i64 z ≡ true → is_proper_name n ≡ true → signed_decimal z ++ rest ≡ n ++ after → ⊥
integer_is_no_name z n rest after small proper e =
    not_both is_sign_byte (signed_decimal z ++ rest) (n ++ after) (begins_front is_sign_byte (signed_decimal z) rest (integer_first z small))
    (stops_no_sign (n ++ after) (begins_front is_lower_byte n after (name_first n proper))) e

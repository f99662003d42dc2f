-- Signs: which stand at the front, and that no other could be longer.
use Rattle.std.specs.Prelude.{ℕ, ◌≡◌, ◌≤◌, Bool, true, false, List, [], ◌∷◌, ◌++◌, length, nat_eq, not, ◌==◌, ◌&&◌, ◌||◌, Contains, codes, refl}
use Rattle.std.specs.List.{list_all, list_any}
use Rattle.std.specs.Str.{bytes_eq}
use Rattle.std.specs.Char.{is_ascii_digit}
use Rattle.std.proofs.Common.{◌∙◌, sym, ap, subst, arith}
use Rattle.std.proofs.lemmas.Bool.{eqb-true, both_ways, not-true}
use Rattle.lps_terms.specs.Names.{is_word_byte}
use Rattle.lps_lex.specs.Piece.{begins_long_sign, begins_short_sign, is_blank}
use Rattle.lps_lex.specs.Forms.{signs}
use Rattle.lps_lex.proofs.Bytes.{both}
use Rattle.lps_lex.proofs.Words.{contained, passes_in}

-- a byte that is no part of anything but a sign
pub record IsApart (byte : ℕ) : Type 0 where
  pub no_feed : (byte == 10) ≡ false
  pub no_blank : is_blank byte ≡ false
  pub no_comment : (byte == 37) ≡ false
  pub no_digit : is_ascii_digit byte ≡ false
  pub no_word : is_word_byte byte ≡ false

is_apart : ℕ → Bool
is_apart byte = not (byte == 10) && (not (is_blank byte) && (not (byte == 37) && (not (is_ascii_digit byte) && not (is_word_byte byte))))

apart_is : (byte : ℕ) → is_apart byte ≡ true → IsApart byte
unfolding is_apart
apart_is byte apart =
    let feed = both _ _ apart in
    let blank = both _ _ feed.1 in
    let comment = both _ _ blank.1 in
    let digit = both _ _ comment.1 in
    record { no_feed = not-true _ feed.0; no_blank = not-true _ blank.0; no_comment = not-true _ comment.0; no_digit = not-true _ digit.0; no_word = not-true _ digit.1 }

-- one byte or two, as the code tells them apart
is_sign_shape : List ℕ → Bool
is_sign_shape [] = false
is_sign_shape (first ∷ []) = begins_short_sign (first ∷ []) && is_apart first
is_sign_shape (first ∷ second ∷ []) = begins_long_sign (first ∷ second ∷ []) && is_apart first
is_sign_shape (first ∷ second ∷ third ∷ rest) = false

-- a sign of one byte or of two
pub data IsSign : List ℕ → Type 0 where
  short : (first : ℕ) → begins_short_sign (first ∷ []) ≡ true → IsApart first → IsSign (first ∷ [])
  long : (first second : ℕ) → begins_long_sign (first ∷ second ∷ []) ≡ true → IsApart first → IsSign (first ∷ second ∷ [])

shape_is : (text : List ℕ) → is_sign_shape text ≡ true → IsSign text
unfolding is_sign_shape
shape_is [] shape = absurd cc
shape_is (first ∷ []) shape = let parts = both _ _ shape in short first parts.0 (apart_is first parts.1)
shape_is (first ∷ second ∷ []) shape = let parts = both _ _ shape in long first second parts.0 (apart_is first parts.1)
shape_is (first ∷ second ∷ third ∷ rest) shape = absurd cc

pub sign_is : (text : List ℕ) → Contains signs text → IsSign text
unfolding is_sign_shape is_apart
sign_is text is = shape_is text (passes_in is_sign_shape signs text refl is)

two_of : (first second a b : ℕ) → Contains signs (a ∷ b ∷ []) → ((first == a) && (second == b)) ≡ true → Contains signs (first ∷ second ∷ [])
two_of first second a b is same =
    let parts = both _ _ same in
    subst (λ x. Contains signs (x ∷ second ∷ [])) (sym (eqb-true first a parts.0)) (subst (λ x. Contains signs (a ∷ x ∷ [])) (sym (eqb-true second b parts.1)) is)

one_of_three : (P : Type 0) (a b c : Bool) → ((a || b) || c) ≡ true → (a ≡ true → P) → (b ≡ true → P) → (c ≡ true → P) → P
one_of_three P true b c e f g h = f refl
one_of_three P false true c e f g h = g refl
one_of_three P false false true e f g h = h refl
one_of_three P false false false e f g h = absurd cc

-- two bytes that are told to begin a sign of two are one
pub long_sign : (first second : ℕ) (rest : List ℕ) → begins_long_sign (first ∷ second ∷ rest) ≡ true → Contains signs (first ∷ second ∷ [])
long_sign first second rest begins =
    one_of_three (Contains signs (first ∷ second ∷ [])) _ _ _ begins
    (two_of first second 92 61 (contained signs (92 ∷ 61 ∷ []) refl)) (two_of first second 61 60 (contained signs (61 ∷ 60 ∷ []) refl)) (two_of first second 62 61 (contained signs (62 ∷ 61 ∷ []) refl))

short_in : (first : ℕ) (bytes : List ℕ) → list_all (λ sign. list_any (bytes_eq (sign ∷ [])) signs) bytes ≡ true → list_any (λ sign. nat_eq sign first) bytes ≡ true → Contains signs (first ∷ [])
short_in first [] all found = absurd cc
short_in first (sign ∷ bytes) all found = short_in_if (nat_eq sign first) refl (λ later. short_in first bytes (both _ _ all).1 later) where
  short_in_if : (here : Bool) → nat_eq sign first ≡ here → (list_any (λ sign. nat_eq sign first) bytes ≡ true → Contains signs (first ∷ [])) → Contains signs (first ∷ [])
  short_in_if true e later = subst (λ x. Contains signs (x ∷ [])) (eqb-true sign first e) (contained signs (sign ∷ []) (both _ _ all).0)
  short_in_if false e later = later (sym (ap (λ x. x || list_any (λ sign. nat_eq sign first) bytes) e) ∙ found)

-- a byte that is told to begin a sign of one is one
pub short_sign : (first : ℕ) (rest : List ℕ) → begins_short_sign (first ∷ rest) ≡ true → Contains signs (first ∷ [])
short_sign first rest begins = short_in first (codes "(),./+-*=<>:") refl begins

-- no sign is longer than two bytes
pub sign_size : (sign : List ℕ) → Contains signs sign → length sign ≤ 2
sign_size sign is = size_of sign (sign_is sign is) where
  size_of : (sign : List ℕ) → IsSign sign → length sign ≤ 2
  size_of sign (short first begins apart) = omega arith
  size_of sign (long first second begins apart) = omega arith

-- where no sign of two bytes begins, one that begins has one
pub short_longest : (bytes : List ℕ) → begins_long_sign bytes ≡ false → (sign after : List ℕ) → Contains signs sign → bytes ≡ sign ++ after → length sign ≤ 1
short_longest bytes none sign after is split = size_of sign (sign_is sign is) split where
  size_of : (sign : List ℕ) → IsSign sign → bytes ≡ sign ++ after → length sign ≤ 1
  size_of sign (short first begins apart) split = omega arith
  size_of sign (long first second begins apart) split = absurd (both_ways (begins_long_sign bytes) none (subst (λ x. begins_long_sign x ≡ true) (sym split) begins))

-- where none of two bytes and none of one is told to begin, no sign stands at the front
pub no_sign : (bytes : List ℕ) → begins_long_sign bytes ≡ false → begins_short_sign bytes ≡ false → (sign after : List ℕ) → Contains signs sign → bytes ≡ sign ++ after → ⊥
no_sign bytes no_long no_short sign after is split = none sign (sign_is sign is) split where
  none : (sign : List ℕ) → IsSign sign → bytes ≡ sign ++ after → ⊥
  none sign (short first begins apart) split = both_ways (begins_short_sign bytes) no_short (subst (λ x. begins_short_sign x ≡ true) (sym split) begins)
  none sign (long first second begins apart) split = both_ways (begins_long_sign bytes) no_long (subst (λ x. begins_long_sign x ≡ true) (sym split) begins)

-- Names by number: where one stands, and that names, variables and times are names.
use Rattle.std.specs.Prelude.{ℕ, ◌≡◌, ◌≤◌, Bool, true, false, List, [], ◌∷◌, length, nat_lt, nat_le, not, ◌&&◌, if◌then◌else◌, Some, None, refl}
use Rattle.std.specs.List.{position, position_or_len, list_all}
use Rattle.std.proofs.Common.{◌∙◌, ap, arith}
use Rattle.std.proofs.lemmas.Bool.{le-leb, lt-ltb}
use Rattle.std.proofs.lemmas.Bool.Decides.{nat_tests}
use Rattle.std.proofs.lemmas.List.Sums.{prefix_len-le-length}
use Rattle.lps_terms.specs.Names.{is_name, is_word_byte}
use Rattle.lps_lex.specs.Forms.{IsName, IsTime, IsVariable}
use Rattle.lps_lex.proofs.Bytes.{both}
use Rattle.lps_lex.proofs.Words.{IsWord, name_word, time_word, variable_word}

-- the place after the last, where none passes
pub none_passes : (p : List ℕ → Bool) (xs : List (List ℕ)) → position p xs ≡ None → length xs ≡ position_or_len p xs
none_passes p xs none = by_test (nat_lt (position_or_len p xs) (length xs)) refl none where
  by_test : (test : Bool) → nat_lt (position_or_len p xs) (length xs) ≡ test → (if test then Some (position_or_len p xs) else None) ≡ None → length xs ≡ position_or_len p xs
  by_test true e some = absurd cc
  by_test false e some = let within = prefix_len-le-length (λ x. not (p x)) xs in grind (arith, nat_tests)

-- a word that is not too long is a name
word_name : (text : List ℕ) → IsWord text → length text ≤ 64 → is_name text ≡ true
unfolding is_name
word_name [] word short = absurd word
word_name (first ∷ rest) word short =
    let begins = both (is_word_byte first) _ word.0 in
    ap (λ x. x && nat_le (length (first ∷ rest)) 64 && (is_word_byte first && list_all is_word_byte rest)) (lt-ltb 0 (length (first ∷ rest)) (omega arith))
    ∙ ap (λ x. x && (is_word_byte first && list_all is_word_byte rest)) (le-leb (length (first ∷ rest)) 64 short)
    ∙ ap (λ x. x && list_all is_word_byte rest) begins.0 ∙ word.1

pub time_name : (text : List ℕ) → IsTime text → length text ≤ 64 → is_name text ≡ true
time_name text form short = word_name text (time_word text form) short

pub variable_name : (text : List ℕ) → IsVariable text → length text ≤ 64 → is_name text ≡ true
variable_name text form short = word_name text (variable_word text form) short

pub proper_name : (text : List ℕ) → IsName text → length text ≤ 64 → is_name text ≡ true
proper_name text form short = word_name text (name_word text form) short

-- The piece at the front lies within the bytes.
use Rattle.std.specs.Prelude.{ℕ, zero, suc, ◌≡◌, ◌-◌, ◌^◌, ◌<◌, ◌≤◌, Bool, true, false, List, [], ◌∷◌, length, take, drop, nat_le, ◌==◌, not, if◌then◌else◌, IfOk, Result, refl}
use Rattle.std.specs.List.{take_while}
use Rattle.std.specs.Char.{is_ascii_digit}
use Rattle.std.proofs.Common.{sym, ap, subst, arith, length-drop}
use Rattle.lps_terms.specs.Names.{is_word_byte}
use Rattle.lps_terms.specs.declared.lex_refused.LexRefused.{LexRefused}
use Rattle.lps_lex.specs.declared.piece.Piece.{Piece}
use Rattle.lps_lex.specs.Piece.{begins_long_sign, begins_short_sign, FitsIn, is_blank, is_no_feed, number_piece, piece_of, sign_piece, value_of, word_piece}
use Rattle.lps_lex.proofs.Runs.{run_some, run_within}

-- what stands there, if it is no fault, fits
abbrev Fits : ℕ → Result Piece LexRefused → Type 0
Fits count found = IfOk found (λ piece. FitsIn count piece)

-- a choice fits where each side does, under its case
fits_if : (count : ℕ) (test : Bool) (first otherwise : Result Piece LexRefused) → (test ≡ true → Fits count first) → (test ≡ false → Fits count otherwise) →
    Fits count (if test then first else otherwise)
fits_if count true first otherwise f g = f refl
fits_if count false first otherwise f g = g refl

number_fits : (count line : ℕ) (digits : List ℕ) → 0 < length digits → length digits ≤ count → Fits count (number_piece line digits)
number_fits count line digits some within = fits_if count (nat_le (value_of digits) (2 ^ 63)) _ _ (λ small. (some, within)) (λ large. tt)

word_fits : (count line : ℕ) (word : List ℕ) → 0 < length word → length word ≤ count → Fits count (word_piece line word)
word_fits count line word some within = fits_if count (nat_le (length word) 64) _ _ (λ short. (some, within)) (λ long. tt)

long_sign_fits : (bytes : List ℕ) → begins_long_sign bytes ≡ true → (0 < 2) × (2 ≤ length bytes)
long_sign_fits [] begins = absurd cc
long_sign_fits (first ∷ []) begins = absurd cc
long_sign_fits (first ∷ second ∷ rest) begins = (omega arith, omega arith)

sign_fits : (line first : ℕ) (rest : List ℕ) → Fits (length (first ∷ rest)) (sign_piece line (first ∷ rest))
sign_fits line first rest =
    fits_if _ (begins_long_sign (first ∷ rest)) _ _ (λ long. long_sign_fits (first ∷ rest) long) (λ no.
    fits_if _ (begins_short_sign (first ∷ rest)) _ _ (λ short. (omega arith, omega arith)) (λ none. tt))

pub piece_fits : (line : ℕ) (bytes : List ℕ) → Fits (length bytes) (piece_of line bytes)
piece_fits line [] = tt
piece_fits line (first ∷ rest) =
    fits_if _ (first == 10) _ _ (λ feed. omega arith) (λ no_feed.
    fits_if _ (is_blank first) _ _ (λ blank. (omega arith, omega arith)) (λ no_blank.
    fits_if _ (first == 37) _ _ (λ comment. (run_some is_no_feed first rest (ap not no_feed), run_within is_no_feed (first ∷ rest))) (λ no_comment.
    fits_if _ (is_ascii_digit first) _ _ (λ digit. number_fits _ line (take_while is_ascii_digit (first ∷ rest)) (run_some is_ascii_digit first rest digit) (run_within is_ascii_digit (first ∷ rest))) (λ no_digit.
    fits_if _ (is_word_byte first) _ _ (λ word. word_fits _ line (take_while is_word_byte (first ∷ rest)) (run_some is_word_byte first rest word) (run_within is_word_byte (first ∷ rest))) (λ no_word.
    sign_fits line first rest)))))

take_all : (count : ℕ) (bytes : List ℕ) → length bytes ≡ count → take count bytes ≡ bytes
take_all zero [] e = refl
take_all (suc count) [] e = refl
take_all zero (byte ∷ bytes) e = absurd (omega arith)
take_all (suc count) (byte ∷ bytes) e = ap (λ rest. byte ∷ rest) (take_all count bytes (omega arith))

-- the slice from a place to the end
pub suffix : (at : ℕ) (bytes : List ℕ) → take (length bytes - at) (drop at bytes) ≡ drop at bytes
suffix at bytes = take_all (length bytes - at) (drop at bytes) (length-drop at bytes)

-- the piece at a place lies within the bytes
pub fits_at : (at : ℕ) (bytes : List ℕ) (line : ℕ) (found : Result Piece LexRefused) → at < length bytes → found ≡ piece_of line (drop at bytes) → Fits (length bytes - at) found
fits_at at bytes line found inside e =
    subst (λ x. Fits (length bytes - at) x) (sym e) (subst (λ count. Fits count (piece_of line (drop at bytes))) (length-drop at bytes) (piece_fits line (drop at bytes)))

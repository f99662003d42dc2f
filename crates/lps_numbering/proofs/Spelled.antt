-- The tokens of reserved words and signs are spelled as their texts.
use Rattle.std.specs.Prelude.{ℕ, ◌≡◌, Bool, List, Contains, refl}
use Rattle.std.specs.Str.{bytes_eq}
use Rattle.std.proofs.lemmas.Slice.Eq.{bytes_eq-Decides}
use Rattle.lps_terms.specs.Names.{reserved}
use Rattle.lps_lex.specs.Forms.{signs}
use Rattle.lps_lex.proofs.Words.{passes_in}
use Rattle.lps_numbering.specs.Fixed.{reserved_tok, sign_tok, text_of_fixed}

abbrev is_word_spelled : List ℕ → Bool
is_word_spelled text = bytes_eq (text_of_fixed (reserved_tok text)) text

abbrev is_sign_spelled : List ℕ → Bool
is_sign_spelled text = bytes_eq (text_of_fixed (sign_tok text)) text

pub words_spelled : (text : List ℕ) → Contains reserved text → text_of_fixed (reserved_tok text) ≡ text
unfolding reserved
words_spelled text is = (bytes_eq-Decides (text_of_fixed (reserved_tok text)) text).0 (passes_in is_word_spelled reserved text refl is)

pub signs_spelled : (text : List ℕ) → Contains signs text → text_of_fixed (sign_tok text) ≡ text
signs_spelled text is = (bytes_eq-Decides (text_of_fixed (sign_tok text)) text).0 (passes_in is_sign_spelled signs text refl is)

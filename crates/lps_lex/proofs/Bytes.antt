-- Classes of bytes: what each has in it, and what it leaves out.
use Rattle.std.specs.Prelude.{ℕ, ◌≡◌, Bool, true, false, ◌==◌, ◌&&◌, ◌||◌, refl}
use Rattle.std.specs.Char.{is_ascii_digit}
use Rattle.std.proofs.Common.{◌∙◌, ap, subst, arith}
use Rattle.std.proofs.lemmas.Bool.{eqb-true, both_ways}
use Rattle.std.proofs.lemmas.Bool.Decides.{nat_tests}
use Rattle.lps_terms.specs.Names.{is_lower_byte, is_word_byte}
use Rattle.lps_lex.specs.Piece.{is_blank}
use Rattle.lps_lex.specs.Forms.{begins_variable}

pub both : (left right : Bool) → (left && right) ≡ true → (left ≡ true) × (right ≡ true)
both true true e = (refl, refl)
both true false e = absurd cc
both false true e = absurd cc
both false false e = absurd cc

pub neither : (left right : Bool) → (left || right) ≡ false → (left ≡ false) × (right ≡ false)
neither true right e = absurd cc
neither false right e = (refl, e)

-- a byte that passes is not one that fails
pub differs : (test : ℕ → Bool) (byte other : ℕ) → test byte ≡ true → test other ≡ false → (byte == other) ≡ false
differs test byte other passes fails = differs_by (byte == other) refl where
  differs_by : (same : Bool) → (byte == other) ≡ same → same ≡ false
  differs_by true e = absurd (both_ways (test other) fails (subst (λ x. test x ≡ true) (eqb-true byte other e) passes))
  differs_by false e = refl

-- a byte of a class without blanks is none
pub no_blank : (test : ℕ → Bool) (byte : ℕ) → test byte ≡ true → test 32 ≡ false → test 9 ≡ false → test 13 ≡ false → is_blank byte ≡ false
no_blank test byte passes space tab return =
    ap (λ x. (x || (byte == 9)) || (byte == 13)) (differs test byte 32 passes space)
    ∙ ap (λ x. x || (byte == 13)) (differs test byte 9 passes tab) ∙ differs test byte 13 passes return

pub lower-word : (byte : ℕ) → is_lower_byte byte ≡ true → is_word_byte byte ≡ true
lower-word byte lower = grind (arith, nat_tests)

pub lower-no_digit : (byte : ℕ) → is_lower_byte byte ≡ true → is_ascii_digit byte ≡ false
lower-no_digit byte lower = grind (arith, nat_tests)

pub variable-word : (byte : ℕ) → begins_variable byte ≡ true → is_word_byte byte ≡ true
variable-word byte upper = grind (arith, nat_tests)

pub variable-no_digit : (byte : ℕ) → begins_variable byte ≡ true → is_ascii_digit byte ≡ false
variable-no_digit byte upper = grind (arith, nat_tests)

pub variable-no_lower : (byte : ℕ) → begins_variable byte ≡ true → is_lower_byte byte ≡ false
variable-no_lower byte upper = grind (arith, nat_tests)

pub digit-word : (byte : ℕ) → is_ascii_digit byte ≡ true → is_word_byte byte ≡ true
digit-word byte digit = grind (arith, nat_tests)

-- a byte of a word that is no digit and no lower-case letter begins a variable
pub variable-rest : (byte : ℕ) → is_word_byte byte ≡ true → is_ascii_digit byte ≡ false → is_lower_byte byte ≡ false → begins_variable byte ≡ true
variable-rest byte word no_digit no_lower = grind (arith, nat_tests)

-- What a division leaves, from what rounding toward zero leaves.
use Rattle.std.proofs.Common.{Bool, subst, refl, zero, suc, ◌<◌, ◌≡◌, ◌≢◌, true, false, ℤ, pos, negsuc, ◌+ℤ◌, unsigned_abs, int_rem, FitsSigned, w64, Some, ap, sym, ◌∙◌, arith}
use Rattle.std.proofs.lemmas.Int.{ints, rem_below}
use Rattle.lps_values.specs.Division.{remainder, LiesFromZeroTo, is_opposite}
use Rattle.lps_values.specs.Values.{in_i64, left_over}
use Rattle.lps_values.proofs.Division.{rest_stays, rest_turns}

-- a rest on the other side of 0 lies between 0 and the divisor once that is added
lies_turned : (b r : ℤ) → unsigned_abs r < unsigned_abs b → is_opposite r b ≡ true → LiesFromZeroTo b (r +ℤ b)
lies_turned (pos b) (pos r) h e = absurd (grind (arith, ints))
lies_turned (pos b) (negsuc r) h e = (omega (arith, ints), omega (arith, ints))
lies_turned (negsuc b) (pos r) h e = (grind (arith, ints), grind (arith, ints))
lies_turned (negsuc b) (negsuc r) h e = absurd (grind (arith, ints))

-- and any other rest does as it is
lies_still : (b r : ℤ) → unsigned_abs r < unsigned_abs b → is_opposite r b ≡ false → LiesFromZeroTo b r
lies_still (pos b) (pos r) h e = (omega (arith, ints), omega (arith, ints))
lies_still (pos b) (negsuc r) h e = absurd (grind (arith, ints))
lies_still (negsuc b) (pos r) h e = (omega (arith, ints), grind (arith, ints))
lies_still (negsuc b) (negsuc r) h e = (omega (arith, ints), omega (arith, ints))

in_i64-fits : (z : ℤ) → FitsSigned w64 z → in_i64 z ≡ Some z
in_i64-fits z f = grind (arith, ints)

left_over_is : (a b r : ℤ) → b ≢ pos 0 → FitsSigned w64 r → remainder a b ≡ r → left_over a b ≡ Some r
left_over_is a (pos zero) r n f e = absurd (n refl)
left_over_is a (pos (suc b)) r n f e = ap in_i64 e ∙ in_i64-fits r f
left_over_is a (negsuc b) r n f e = ap in_i64 e ∙ in_i64-fits r f

not_zero : (b : ℤ) → b ≢ pos 0 → 0 < unsigned_abs b
not_zero (pos zero) n = absurd (n refl)
not_zero (pos (suc b)) n = omega arith
not_zero (negsuc b) n = omega arith

-- the sum of two `i64` on different sides of 0 is one
pub opposite_fits : (a b : ℤ) → FitsSigned w64 a → FitsSigned w64 b → is_opposite a b ≡ true → FitsSigned w64 (a +ℤ b)
opposite_fits (pos a) (pos b) f g e = absurd (grind (arith, ints))
opposite_fits (pos a) (negsuc b) f g e = grind (arith, ints)
opposite_fits (negsuc a) (pos b) f g e = grind (arith, ints)
opposite_fits (negsuc a) (negsuc b) f g e = absurd (grind (arith, ints))

pub left_over-turned : (a b r : ℤ) → b ≢ pos 0 → FitsSigned w64 (r +ℤ b) → r ≡ int_rem a b → is_opposite r b ≡ true → left_over a b ≡ Some (r +ℤ b)
left_over-turned a b r n f is e =
    let lies : LiesFromZeroTo b (int_rem a b +ℤ b) = lies_turned b (int_rem a b) (rem_below a b (not_zero b n)) (ap (λ z. is_opposite z b) (sym is) ∙ e) in
    left_over_is a b (r +ℤ b) n f (rest_turns a b lies ∙ ap (λ z. z +ℤ b) (sym is))

pub left_over-stays : (a b r : ℤ) → b ≢ pos 0 → FitsSigned w64 r → r ≡ int_rem a b → is_opposite r b ≡ false → left_over a b ≡ Some r
left_over-stays a b r n f is e =
    let lies : LiesFromZeroTo b (int_rem a b) = lies_still b (int_rem a b) (rem_below a b (not_zero b n)) (ap (λ z. is_opposite z b) (sym is) ∙ e) in
    left_over_is a b r n f (rest_stays a b lies ∙ sym is)

-- what a division leaves lies between 0 and the divisor
pub lies_between : (a b : ℤ) → b ≢ pos 0 → LiesFromZeroTo b (remainder a b)
lies_between a b n = by (is_opposite (int_rem a b) b) refl
  where
    by : (opposite : Bool) → is_opposite (int_rem a b) b ≡ opposite → LiesFromZeroTo b (remainder a b)
    by true e =
        let lies = lies_turned b (int_rem a b) (rem_below a b (not_zero b n)) e in
        subst (LiesFromZeroTo b) (sym (rest_turns a b lies)) lies
    by false e =
        let lies = lies_still b (int_rem a b) (rem_below a b (not_zero b n)) e in
        subst (LiesFromZeroTo b) (sym (rest_stays a b lies)) lies

between_fits : (b r : ℤ) → FitsSigned w64 b → LiesFromZeroTo b r → FitsSigned w64 r
between_fits (pos b) (pos r) f h = grind (arith, ints)
between_fits (pos b) (negsuc r) f h = absurd (omega (arith, ints, h.0))
between_fits (negsuc b) (pos zero) f h = grind (arith, ints)
between_fits (negsuc b) (pos (suc r)) f h = absurd (omega (arith, ints, h.1))
between_fits (negsuc b) (negsuc r) f h = grind (arith, ints)

-- so it is an `i64` where the divisor is one
pub left_over-fits : (a b : ℤ) → b ≢ pos 0 → FitsSigned w64 b → left_over a b ≡ Some (remainder a b)
left_over-fits a b n f = left_over_is a b (remainder a b) n (between_fits b (remainder a b) f (lies_between a b n)) refl

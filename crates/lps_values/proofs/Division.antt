-- The quotient that rounds toward negative infinity is the one whose remainder lies between 0 and the divisor.
use Rattle.std.proofs.Common.{ℕ, zero, suc, ◌+◌, ◌-◌, ◌*◌, ◌<◌, ◌≡◌, ℤ, pos, negsuc, neg_ℤ, ◌+ℤ◌, ◌-ℤ◌, ◌*ℤ◌, int_div, int_rem, ap, sym, ◌∙◌, arith}
use Rattle.std.proofs.lemmas.Int.{ints, quot-rem}
use Rattle.std.proofs.lemmas.Nat.{div-mul-add}
use lib.IntN.{*ℤ_comm, -ℤ_one, pred_ℤ-*ℤ}
use Rattle.lps_values.specs.Division.{divided_by, quotient, remainder, LiesFromZeroTo}

above_zero : (q r n : ℕ) → pos (suc n) *ℤ pos q +ℤ pos r ≡ pos (q * suc n + r)
above_zero q r n = omega (arith, ints)

below_zero : (q r n : ℕ) → r < suc n → pos (suc n) *ℤ negsuc q +ℤ pos r ≡ negsuc (q * suc n + (n - r))
below_zero q r n h = omega (arith, ints)

-- a quotient by a number above 0
unique_above : (a q : ℤ) (n r : ℕ) → r < suc n → a ≡ pos (suc n) *ℤ q +ℤ pos r → divided_by a (suc n) ≡ q
unique_above a (pos q) n r h e =
    ap (λ z. divided_by z (suc n)) (e ∙ above_zero q r n) ∙ ap pos (div-mul-add q (suc n) r h)
unique_above a (negsuc q) n r h e =
    ap (λ z. divided_by z (suc n)) (e ∙ below_zero q r n h) ∙ ap negsuc (div-mul-add q (suc n) (n - r) (omega arith))

-- a quotient by a number below 0, from that of the contraries
contrary : (n : ℕ) (a q r : ℤ) → a ≡ negsuc n *ℤ q +ℤ r → neg_ℤ a ≡ pos (suc n) *ℤ q +ℤ neg_ℤ r
contrary n a (pos q) r e = omega (arith, ints)
contrary n a (negsuc q) r e = omega (arith, ints)

unique_quotient : (a b q r : ℤ) → LiesFromZeroTo b r → a ≡ b *ℤ q +ℤ r → quotient a b ≡ q
unique_quotient a (pos zero) q r h e = absurd (omega (arith, ints, h.0, h.1))
unique_quotient a (pos (suc n)) q (pos r) h e = unique_above a q n r (omega (arith, ints, h.1)) e
unique_quotient a (pos (suc n)) q (negsuc r) h e = absurd (omega (arith, ints, h.0))
unique_quotient a (negsuc n) q (pos zero) h e = unique_above (neg_ℤ a) q n 0 (omega arith) (contrary n a q (pos zero) e)
unique_quotient a (negsuc n) q (pos (suc r)) h e = absurd (omega (arith, ints, h.1))
unique_quotient a (negsuc n) q (negsuc r) h e = unique_above (neg_ℤ a) q n (suc r) (omega (arith, ints, h.0)) (contrary n a q (negsuc r) e)

-- where a number lies between 0 and the divisor and makes up the dividend with a multiple of the divisor, it is the remainder
pub unique : (a b q r : ℤ) → LiesFromZeroTo b r → a ≡ b *ℤ q +ℤ r → (quotient a b ≡ q) × (remainder a b ≡ r)
unique a b q r h e =
    let same = unique_quotient a b q r h e in
    let left : a -ℤ b *ℤ q ≡ r = omega (arith, ints) in
    (same, ap (λ z. a -ℤ b *ℤ z) same ∙ left)

-- a quotient one less leaves one divisor more
one_less : (a b q r : ℤ) → a ≡ q *ℤ b +ℤ r → a ≡ b *ℤ (q -ℤ pos 1) +ℤ (r +ℤ b)
one_less a b q r e =
    let turned : b *ℤ (q -ℤ pos 1) ≡ q *ℤ b -ℤ b = *ℤ_comm b (q -ℤ pos 1) ∙ ap (λ z. z *ℤ b) (-ℤ_one q) ∙ pred_ℤ-*ℤ q b in
    let left : a ≡ (q *ℤ b -ℤ b) +ℤ (r +ℤ b) = omega (arith, ints) in
    left ∙ ap (λ z. z +ℤ (r +ℤ b)) (sym turned)

-- what rounding toward zero leaves, where it has the divisor's sign
pub rest_stays : (a b : ℤ) → LiesFromZeroTo b (int_rem a b) → remainder a b ≡ int_rem a b
rest_stays a b h =
    let e : a ≡ b *ℤ int_div a b +ℤ int_rem a b = omega (arith, ints, quot-rem a b) in
    (unique a b (int_div a b) (int_rem a b) h e).1

-- and where it has the other sign
pub rest_turns : (a b : ℤ) → LiesFromZeroTo b (int_rem a b +ℤ b) → remainder a b ≡ int_rem a b +ℤ b
rest_turns a b h =
    (unique a b (int_div a b -ℤ pos 1) (int_rem a b +ℤ b) h (one_less a b (int_div a b) (int_rem a b) (sym (quot-rem a b)))).1

-- Matrices that are filled place by place, and one step of their entries.
use Rattle.std.proofs.Common.{◌≡◌, ◌⊎◌, ℕ, ℤ, pos, Bool, true, false, ◌↔◌, IsTrue, ◌+◌, ◌*◌, ◌/◌, ◌%◌, ◌<◌, ◌≤◌, List, [], ◌∷◌, ◌++◌, length, refl, sym, ap, subst, ◌∙◌, arith, inl, inr}
use Rattle.std.specs.Prelude.{◌+ℤ◌, ◌≤ℤ◌, ◌<ℤ◌, slice_index_or}
use Rattle.std.proofs.Math.Nat.{mul-le-mul_right}
use Rattle.std.proofs.lemmas.Bool.{cases_lt}
use Rattle.std.proofs.lemmas.Int.{ints, by_lt_z}
use Rattle.std.proofs.lemmas.List.{get_or_append_left, get_or_push, length_push}
use Rattle.std.proofs.lemmas.Nat.{div-mul-add, div_below, mod-mul-add, mod_below}
use Rattle.lps_windows.specs.Matrices.{IsBounded, IsContradiction, IsFilled, IsFilledBy, IsLesser, IsPassed, Matrix, entry, lowest}
use Rattle.lps_windows.proofs.Closing.{AllLesser}

-- ---- places

pub place_within : (size i j : ℕ) → i < size → j < size → i * size + j < size * size
place_within size i j p q = let h : (i + 1) * size ≤ size * size = mul-le-mul_right size (omega (arith, p)) in omega (arith, h, q)

-- ---- filling

pub filled_none : (P : ℕ → ℤ → Type 0) → IsFilled P []
filled_none P p lt = absurd (omega (arith, lt))

pub filled_more : (P : ℕ → ℤ → Type 0) (numbers : List ℤ) (v : ℤ) (p : ℕ) → length numbers ≡ p → P p v → IsFilled P numbers → IsFilled P (numbers ++ v ∷ [])
filled_more P numbers v p is at h q lt = by (cases_lt q (length numbers))
  where
    by : (q < length numbers) ⊎ (length numbers ≤ q) → P q (slice_index_or (numbers ++ v ∷ []) q (pos 0))
    by (inl early) = subst (P q) (sym (get_or_append_left numbers (v ∷ []) (pos 0) q early)) (h q early)
    by (inr late) =
        let same : length numbers ≡ q = omega (arith, late, lt, length_push numbers v) in
        subst (P q) (sym (get_or_push numbers v (pos 0) q same)) (subst (λ n. P n v) (sym is ∙ same) at)

pub filled_entry : (P : ℕ → ℕ → ℤ → Type 0) (size : ℕ) (numbers : List ℤ) → length numbers ≡ size * size → IsFilledBy size P numbers → (i j : ℕ) → i < size → j < size → P i j (entry size numbers i j)
filled_entry P size numbers count h i j p q =
    let at = h (i * size + j) (omega (arith, count, place_within size i j p q)) in
    let row = div-mul-add i size j q in
    let column = mod-mul-add i size j q in
    subst (λ n. P n j (entry size numbers i j)) row (subst (λ n. P ((i * size + j) / size) n (entry size numbers i j)) column at)

pub all_lesser : (size : ℕ) (m : Matrix) (k : ℕ) (numbers : List ℤ) → IsPassed size m k numbers → AllLesser size m k (entry size numbers)
all_lesser size m k numbers h = filled_entry (IsLesser m k) size numbers h.count h.passed

-- ---- one step

le_from_not : (a b : ℤ) → (a <ℤ b → ⊥) → b ≤ℤ a
le_from_not a b never = by_lt_z a b (λ lt. absurd (never lt)) (λ le. le)

module _ (m : Matrix) (k i j : ℕ) (through : ℤ) (is : through ≡ m i k +ℤ m k j) (never : IsContradiction through i j → ⊥) (low : lowest ≤ℤ m i j) (diagonal : i ≡ j → pos 0 ≤ℤ m i j) where
  pub taken : (v : ℤ) → v ≡ through → through <ℤ m i j → IsLesser m k i j v
  taken v e lt = subst (IsLesser m k i j) (sym e) (record {
    low = le_from_not through lowest (λ h. never (inl h));
    diagonal = λ same. le_from_not through (pos 0) (λ h. never (inr (same, h)));
    before = omega (arith, ints, lt);
    through = omega (arith, ints, is);
    is = inr is;
  })

  pub kept : (v : ℤ) → v ≡ m i j → (through <ℤ m i j → ⊥) → IsLesser m k i j v
  kept v e not_lt = subst (IsLesser m k i j) (sym e) (record {
    low = low;
    diagonal = diagonal;
    before = omega (arith, ints);
    through = omega (arith, ints, is, le_from_not through (m i j) not_lt);
    is = inl refl;
  })

pub own_diagonal : (size : ℕ) (m : Matrix) (i j : ℕ) → i < size → IsBounded size m → i ≡ j → pos 0 ≤ℤ m i j
own_diagonal size m i j p b same = subst (λ n. pos 0 ≤ℤ m i n) same (b.diagonal i p)

-- ---- what a loop pushes

pub pushed_count : (numbers new : List ℤ) (w : ℤ) (p : ℕ) → new ≡ numbers ++ w ∷ [] → length numbers ≡ p → length new ≡ p + 1
pushed_count numbers new w p e is = omega (arith, ap length e, length_push numbers w, is)

pub pushed : (P : ℕ → ℤ → Type 0) (numbers new : List ℤ) (v w : ℤ) (p : ℕ) → new ≡ numbers ++ w ∷ [] → w ≡ v → length numbers ≡ p → P p v → IsFilled P numbers → IsFilled P new
pushed P numbers new v w p e same is at h = subst (IsFilled P) (sym e) (filled_more P numbers w p is (subst (P p) (sym same) at) h)

-- ---- rows and columns

pub row_below : (size p : ℕ) → 0 < size → p < size * size → p / size < size
row_below size p some lt = div_below p size size some lt

pub column_below : (size p : ℕ) → 0 < size → p % size < size
column_below size p some = mod_below p size some

-- ---- what a test says

pub from_true : {P : Type 0} (b : Bool) → b ≡ true → (IsTrue b ↔ P) → P
from_true b e h = h.0 e

pub from_false : {P : Type 0} (b : Bool) → b ≡ false → (IsTrue b ↔ P) → P → ⊥
from_false b e h p = let t : b ≡ true = h.1 p in absurd (cc)

pub contradiction_as : (w v : ℤ) (i j : ℕ) → IsContradiction w i j → w ≡ v → IsContradiction v i j
contradiction_as w v i j h e = subst (λ z. IsContradiction z i j) e h

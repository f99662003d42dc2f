-- The laws of closing a matrix of bounds under sums.
use Rattle.std.proofs.Common.{◌≡◌, ◌⊎◌, ℕ, ℤ, pos, negsuc, ◌+◌, ◌<◌, ◌≤◌, List, All, refl, ap, subst, arith, inl, inr}
use Rattle.std.specs.Prelude.{◌+ℤ◌, ◌≤ℤ◌, ◌-ℤ◌, slice_index_or}
use Rattle.std.proofs.lemmas.Bool.{cases_lt}
use Rattle.std.proofs.lemmas.Int.{ints, by_lt_z}
use Rattle.lps_windows.specs.declared.bound.Bound.{Bound}
use Rattle.lps_windows.specs.Bounds.{IsBetween, IsMet}
use Rattle.lps_windows.specs.Matrices.{Breaks, HaveNoLowSolution, IsAtMost, IsBounded, IsBroken, IsClosed, IsImplied, IsLesser, IsLowSolution, IsMatrix, Matrix, horizon}

-- ---- the lesser of two numbers

record IsLeast (a b v : ℤ) : Type 0 where
  left : v ≤ℤ a
  right : v ≤ℤ b
  is : (v ≡ a) ⊎ (v ≡ b)

least_of : (a b : ℤ) → (v : ℤ) × IsLeast a b v
least_of a b = by_lt_z a b (λ lt. (a, record { left = omega (arith, ints); right = omega (arith, ints, lt); is = inl refl })) (λ le. (b, record { left = le; right = omega (arith, ints); is = inr refl }))

-- ---- one row more

abbrev pub AllLesser : ℕ → Matrix → ℕ → Matrix → Type 0
AllLesser size m k new = (i j : ℕ) → i < size → j < size → IsLesser m k i j (new i j)

module _ (size : ℕ) (m : Matrix) (k : ℕ) (new : Matrix) (within : k < size) (bounded : IsBounded size m) (closed : IsClosed size k m) (lesser : AllLesser size m k new) where
  earlier : (i j e : ℕ) → i < size → j < size → e < k → new i j ≤ℤ (new i e +ℤ new e j)
  earlier i j e p q lt = by (lesser i e p r).is (lesser e j r q).is
    where
      r : e < size
      r = omega (arith, lt, within)

      here : IsLesser m k i j (new i j)
      here = lesser i j p q

      by : (new i e ≡ m i e) ⊎ (new i e ≡ m i k +ℤ m k e) → (new e j ≡ m e j) ⊎ (new e j ≡ m e k +ℤ m k j) → new i j ≤ℤ (new i e +ℤ new e j)
      by (inl a) (inl b) = omega (arith, ints, a, b, here.before, closed i j e p q lt)
      by (inl a) (inr b) = omega (arith, ints, a, b, here.through, closed i k e p within lt)
      by (inr a) (inl b) = omega (arith, ints, a, b, here.through, closed k j e within q lt)
      by (inr a) (inr b) = omega (arith, ints, a, b, here.through, closed k k e within within lt, bounded.diagonal k within)

  at_last : (i j : ℕ) → i < size → j < size → new i j ≤ℤ (new i k +ℤ new k j)
  at_last i j p q = by (lesser i k p within).is (lesser k j within q).is
    where
      here : IsLesser m k i j (new i j)
      here = lesser i j p q

      by : (new i k ≡ m i k) ⊎ (new i k ≡ m i k +ℤ m k k) → (new k j ≡ m k j) ⊎ (new k j ≡ m k k +ℤ m k j) → new i j ≤ℤ (new i k +ℤ new k j)
      by (inl a) (inl b) = omega (arith, ints, a, b, here.through, bounded.diagonal k within)
      by (inl a) (inr b) = omega (arith, ints, a, b, here.through, bounded.diagonal k within)
      by (inr a) (inl b) = omega (arith, ints, a, b, here.through, bounded.diagonal k within)
      by (inr a) (inr b) = omega (arith, ints, a, b, here.through, bounded.diagonal k within)

  -- the triangle law goes on through this row
  pub step_closes : IsClosed size (k + 1) new
  step_closes i j e p q lt = by (cases_lt e k)
    where
      by : (e < k) ⊎ (k ≤ e) → new i j ≤ℤ (new i e +ℤ new e j)
      by (inl early) = earlier i j e p q early
      by (inr late) = let same : k ≡ e = omega (arith, late, lt) in subst (λ n. new i j ≤ℤ (new i n +ℤ new n j)) same (at_last i j p q)

-- each entry still follows from the bounds
pub step_implied : (size : ℕ) (bounds : List Bound) (m : Matrix) (k : ℕ) (new : Matrix) → k < size → IsImplied size bounds m → AllLesser size m k new → IsImplied size bounds new
step_implied size bounds m k new within implied lesser y s i j p q = by (lesser i j p q).is
  where
    by : (new i j ≡ m i j) ⊎ (new i j ≡ m i k +ℤ m k j) → pos (y i) ≤ℤ (pos (y j) +ℤ new i j)
    by (inl a) = omega (arith, ints, a, implied y s i j p q)
    by (inr a) = omega (arith, ints, a, implied y s i k p within, implied y s k j within q)

pub le_trans : (a b c : ℤ) → a ≤ℤ b → b ≤ℤ c → a ≤ℤ c
le_trans a b c h g = omega (arith, ints, h, g)

pub step_bounded : (size : ℕ) (m : Matrix) (k : ℕ) (new : Matrix) → IsBounded size m → AllLesser size m k new → IsBounded size new
step_bounded size m k new b lesser = record {
  low = λ i j p q. (lesser i j p q).low;
  high = λ i j p q. le_trans _ _ _ (lesser i j p q).before (b.high i j p q);
  diagonal = λ i p. (lesser i i p p).diagonal refl;
  own = λ i p. le_trans _ _ _ (lesser i i p p).before (b.own i p);
  natural = λ j q. le_trans _ _ _ (lesser 0 j (omega (arith, q)) q).before (b.natural j q);
}

-- a solution excludes a way that breaks
pub broken_has_none : (size : ℕ) (bounds : List Bound) (m : Matrix) (k : ℕ) → k < size → IsImplied size bounds m → IsBroken size m k → HaveNoLowSolution size bounds
broken_has_none size bounds m k within implied b y s = by b.breaks
  where
    first : pos (y b.i) ≤ℤ (pos (y k) +ℤ m b.i k)
    first = implied y s b.i k b.row within

    second : pos (y k) ≤ℤ (pos (y b.j) +ℤ m k b.j)
    second = implied y s k b.j within b.column

    by : Breaks m k b.i b.j → ⊥
    by (inl low) = absurd (omega (arith, ints, low, first, second, s.high b.j b.column))
    by (inr both) = absurd (omega (arith, ints, both.1, first, second, ap y both.0))

-- ---- a closed matrix gives the window

abbrev natural : ℤ → ℕ
natural (pos n) = n
natural (negsuc n) = 0

natural_is : (z : ℤ) → pos 0 ≤ℤ z → pos (natural z) ≡ z
natural_is (pos n) h = refl
natural_is (negsuc n) h = absurd (omega (arith, ints, h))

natural_below : (z : ℤ) (n : ℕ) → z ≤ℤ pos n → natural z ≤ n
natural_below (pos m) n h = omega (arith, ints, h)
natural_below (negsuc m) n h = omega arith

-- the values of a row in solutions lie between the ends that a matrix gives, and each value between them is taken
pub record IsRange (size : ℕ) (bounds : List Bound) (b : ℕ) (least greatest : ℤ) : Type 0 where
  pub within : (y : ℕ → ℕ) → IsLowSolution size bounds y → (least ≤ℤ pos (y b)) × (pos (y b) ≤ℤ greatest)
  pub taken : (v : ℕ) → least ≤ℤ pos v → pos v ≤ℤ greatest → (y : ℕ → ℕ) × IsLowSolution size bounds y × (y b ≡ v)

module _ (size : ℕ) (bounds : List Bound) (m : Matrix) (b : ℕ) (within : b < size) (some : 0 < size) (between : All (IsBetween size) bounds) (h : IsMatrix size bounds bounds m) (closed : IsClosed size size m) where
  module _ (v : ℤ) (low : (pos 0 -ℤ m 0 b) ≤ℤ v) (high : v ≤ℤ m b 0) where
    value : ℕ → ℤ
    value i = (least_of (m i 0) (v +ℤ m i b)).0

    is_least : (i : ℕ) → IsLeast (m i 0) (v +ℤ m i b) (value i)
    unfolding value
    is_least i = (least_of (m i 0) (v +ℤ m i b)).1

    meets : (i j : ℕ) → i < size → j < size → value i ≤ℤ (value j +ℤ m i j)
    meets i j p q = by (is_least j).is
      where
        here : IsLeast (m i 0) (v +ℤ m i b) (value i)
        here = is_least i

        by : (value j ≡ m j 0) ⊎ (value j ≡ v +ℤ m j b) → value i ≤ℤ (value j +ℤ m i j)
        by (inl a) = omega (arith, ints, a, here.left, closed i 0 j p some q)
        by (inr a) = omega (arith, ints, a, here.right, closed i b j p within q)

    at_start : value 0 ≡ pos 0
    at_start = by (is_least 0).is
      where
        by : (value 0 ≡ m 0 0) ⊎ (value 0 ≡ v +ℤ m 0 b) → value 0 ≡ pos 0
        by (inl a) = omega (arith, ints, a, h.bounded.natural 0 some, h.bounded.diagonal 0 some)
        by (inr a) = omega (arith, ints, a, (is_least 0).left, low, h.bounded.natural 0 some)

    at_row : value b ≡ v
    at_row = by (is_least b).is
      where
        zero_at : m b b ≡ pos 0
        zero_at = omega (arith, ints, h.bounded.diagonal b within, h.bounded.own b within)

        by : (value b ≡ m b 0) ⊎ (value b ≡ v +ℤ m b b) → value b ≡ v
        by (inl a) = omega (arith, ints, a, (is_least b).right, high, zero_at)
        by (inr a) = omega (arith, ints, a, zero_at)

    value_low : (i : ℕ) → i < size → pos 0 ≤ℤ value i
    value_low i p = omega (arith, ints, at_start, meets 0 i some p, h.bounded.natural i p)

    value_high : (i : ℕ) → i < size → value i ≤ℤ pos horizon
    value_high i p = omega (arith, ints, at_start, meets i 0 p some, h.bounded.high i 0 p some)

    met_at : (bound : Bound) → IsBetween size bound → IsAtMost m bound → IsMet (λ i. natural (value i)) bound
    met_at bound w most =
        let row = natural_is (value bound.row) (value_low bound.row w.row) in
        let column = natural_is (value bound.column) (value_low bound.column w.column) in
        omega (arith, ints, row, column, most, meets bound.row bound.column w.row w.column)

    solves : IsLowSolution size bounds (λ i. natural (value i))
    solves = record {
      solution = record {
        start = ap natural at_start;
        met = λ k d lt. met_at (slice_index_or bounds k d) (between k d lt) (h.most k d lt);
      };
      high = λ i p. natural_below (value i) horizon (value_high i p);
    }

  pub closed_range : IsRange size bounds b (pos 0 -ℤ m 0 b) (m b 0)
  closed_range = record {
    within = λ y s. (omega (arith, ints, s.solution.start, h.implied y s 0 b some within), omega (arith, ints, s.solution.start, h.implied y s b 0 within some));
    taken = λ v low high. (λ i. natural (value (pos v) low high i), solves (pos v) low high, ap natural (at_row (pos v) low high));
  }

-- The matrix before any bound, and with one bound more.
use Rattle.std.proofs.Common.{◌≡◌, ◌⊎◌, ℕ, ℤ, pos, ◌+◌, ◌*◌, ◌/◌, ◌%◌, ◌<◌, ◌≤◌, List, All, length, get_or, take, refl, sym, ap, subst, ◌∙◌, arith, inl, inr}
use Rattle.std.specs.Int.{w64}
use Rattle.std.specs.Prelude.{FitsSigned, ◌+ℤ◌, ◌≤ℤ◌, slice_index_or, slice_set}
use Rattle.std.proofs.lemmas.Bool.{cases_eq}
use Rattle.std.proofs.lemmas.Int.{ints, by_lt_z}
use Rattle.std.proofs.lemmas.List.{get_or-set_other, get_or-set_same, take_all}
use Rattle.std.proofs.lemmas.List.Elements.{All-more, All-take}
use Rattle.std.proofs.lemmas.Nat.{div-mul-add, mod-mul-add}
use Rattle.lps_windows.specs.declared.bound.Bound.{Bound}
use Rattle.lps_windows.specs.Bounds.{IsBetween, IsMet}
use Rattle.lps_windows.specs.Matrices.{HaveNoLowSolution, IsAtMost, IsBegun, IsBroken, IsFirst, IsImpossible, IsLowSolution, IsLowered, IsMatrix, IsPassed, IsReady, IsStart, IsTightened, Matrix, entry, horizon, lowest}
use Rattle.lps_windows.proofs.Filling.{all_lesser, filled_entry, place_within}
use Rattle.lps_windows.proofs.Closing.{AllLesser, broken_has_none, le_trans, step_bounded, step_closes, step_implied}

-- ---- before any bound

first_implied : (size : ℕ) (bounds : List Bound) (y : ℕ → ℕ) (i j : ℕ) (v : ℤ) → IsLowSolution size bounds y → i < size → j < size → IsFirst i j v → pos (y i) ≤ℤ (pos (y j) +ℤ v)
first_implied size bounds y i j v s p q h = by h.is
  where
    by : (i ≡ j) ⊎ ((i ≡ 0) ⊎ (v ≡ pos horizon)) → pos (y i) ≤ℤ (pos (y j) +ℤ v)
    by (inl same) = omega (arith, ints, ap y same, h.low)
    by (inr (inl first)) = omega (arith, ints, ap y first, s.solution.start, h.low)
    by (inr (inr e)) = omega (arith, ints, e, s.high i p)

pub begun_none : (size : ℕ) (bounds : List Bound) (numbers : List ℤ) → IsStart size numbers → IsBegun size bounds (take 0 bounds) numbers
begun_none size bounds numbers h = record {
  count = h.count;
  matrix = record {
    bounded = record {
      low = λ i j p q. let g = at i j p q in omega (arith, ints, g.low);
      high = λ i j p q. (at i j p q).high;
      diagonal = λ i p. (at i i p p).low;
      own = λ i p. omega (arith, ints, (at i i p p).own refl);
      natural = λ j q. omega (arith, ints, (at 0 j (omega (arith, q)) q).natural refl);
    };
    implied = λ y s i j p q. first_implied size bounds y i j (entry size numbers i j) s p q (at i j p q);
    most = λ k d lt. absurd (omega (arith, lt));
  };
}
  where
    at : (i j : ℕ) → i < size → j < size → IsFirst i j (entry size numbers i j)
    at = filled_entry IsFirst size numbers h.count h.first

-- ---- one bound more

tightened : (size : ℕ) (old new : List ℤ) (bound : Bound) → length old ≡ size * size → IsBetween size bound → IsLowered old (bound.row * size + bound.column) bound.most new → IsTightened size (entry size old) bound (entry size new)
tightened size old new bound count w h = record {
  before = λ i j p q. before i j p q (is i j p q h.is);
  most = h.most_of;
  is = λ i j p q. is i j p q h.is;
}
  where
    changed : (i j : ℕ) → j < size → new ≡ slice_set old (bound.row * size + bound.column) bound.most → (i * size + j ≡ bound.row * size + bound.column) ⊎ (i * size + j ≡ bound.row * size + bound.column → ⊥) → (entry size new i j ≡ entry size old i j) ⊎ ((i ≡ bound.row) × (j ≡ bound.column) × (entry size new i j ≡ bound.most))
    changed i j q e (inl same) = inr (
      sym (div-mul-add i size j q) ∙ ap (λ n. n / size) same ∙ div-mul-add bound.row size bound.column w.column,
      sym (mod-mul-add i size j q) ∙ ap (λ n. n % size) same ∙ mod-mul-add bound.row size bound.column w.column,
      (λ t. slice_index_or (e t) (same t) (pos 0)) ∙ get_or-set_same old (bound.row * size + bound.column) bound.most (pos 0) (omega (arith, count, place_within size bound.row bound.column w.row w.column)),
    )
    changed i j q e (inr other) = inl (ap (λ xs. slice_index_or xs (i * size + j) (pos 0)) e ∙ get_or-set_other old (bound.row * size + bound.column) (i * size + j) bound.most (pos 0) other)

    is : (i j : ℕ) → i < size → j < size → (new ≡ old) ⊎ (new ≡ slice_set old (bound.row * size + bound.column) bound.most) → (entry size new i j ≡ entry size old i j) ⊎ ((i ≡ bound.row) × (j ≡ bound.column) × (entry size new i j ≡ bound.most))
    is i j p q (inl e) = inl (ap (λ xs. slice_index_or xs (i * size + j) (pos 0)) e)
    is i j p q (inr e) = changed i j q e (cases_eq (i * size + j) (bound.row * size + bound.column))

    before : (i j : ℕ) → i < size → j < size → (entry size new i j ≡ entry size old i j) ⊎ ((i ≡ bound.row) × (j ≡ bound.column) × (entry size new i j ≡ bound.most)) → entry size new i j ≤ℤ entry size old i j
    before i j p q (inl e) = omega (arith, ints, e)
    before i j p q (inr e) = subst (λ n. entry size new n j ≤ℤ entry size old n j) (sym e.0) (subst (λ n. entry size new bound.row n ≤ℤ entry size old bound.row n) (sym e.1) h.before)

module _ (size : ℕ) (bounds some : List Bound) (m new : Matrix) (bound : Bound) (w : IsBetween size bound) (among : (y : ℕ → ℕ) → IsLowSolution size bounds y → IsMet y bound) (possible : IsImpossible bound → ⊥) (h : IsMatrix size bounds some m) (t : IsTightened size m bound new) where
  not_below : bound.row ≡ bound.column → pos 0 ≤ℤ bound.most
  not_below same = by_lt_z bound.most (pos 0) (λ lt. absurd (possible (same, lt))) (λ le. le)

  low_at : (i j : ℕ) → lowest ≤ℤ m i j → (new i j ≡ m i j) ⊎ ((i ≡ bound.row) × (j ≡ bound.column) × (new i j ≡ bound.most)) → lowest ≤ℤ new i j
  low_at i j g (inl e) = omega (arith, ints, e, g)
  low_at i j g (inr e) = omega (arith, ints, e.2, w.low)

  diagonal_at : (i : ℕ) → pos 0 ≤ℤ m i i → (new i i ≡ m i i) ⊎ ((i ≡ bound.row) × (i ≡ bound.column) × (new i i ≡ bound.most)) → pos 0 ≤ℤ new i i
  diagonal_at i g (inl e) = omega (arith, ints, e, g)
  diagonal_at i g (inr e) = omega (arith, ints, e.2, not_below (sym e.0 ∙ e.1))

  implied_at : (y : ℕ → ℕ) → IsLowSolution size bounds y → (i j : ℕ) → pos (y i) ≤ℤ (pos (y j) +ℤ m i j) → (new i j ≡ m i j) ⊎ ((i ≡ bound.row) × (j ≡ bound.column) × (new i j ≡ bound.most)) → pos (y i) ≤ℤ (pos (y j) +ℤ new i j)
  implied_at y s i j g (inl e) = omega (arith, ints, e, g)
  implied_at y s i j g (inr e) = omega (arith, ints, e.2, ap y e.0, ap y e.1, among y s)

  most_at : (other : Bound) → IsBetween size other → IsAtMost m other → IsAtMost new other
  most_at other v g = le_trans _ _ _ (t.before other.row other.column v.row v.column) g

  pub tightened_matrix : All (IsBetween size) some → IsMatrix size bounds some new
  tightened_matrix within = record {
    bounded = record {
      low = λ i j p q. low_at i j (h.bounded.low i j p q) (t.is i j p q);
      high = λ i j p q. le_trans _ _ _ (t.before i j p q) (h.bounded.high i j p q);
      diagonal = λ i p. diagonal_at i (h.bounded.diagonal i p) (t.is i i p p);
      own = λ i p. le_trans _ _ _ (t.before i i p p) (h.bounded.own i p);
      natural = λ j q. le_trans _ _ _ (t.before 0 j (omega (arith, q)) q) (h.bounded.natural j q);
    };
    implied = λ y s i j p q. implied_at y s i j (h.implied y s i j p q) (t.is i j p q);
    most = λ k d lt. most_at (slice_index_or some k d) (within k d lt) (h.most k d lt);
  }

within_fits : (size : ℕ) (bound : Bound) → IsBetween size bound → FitsSigned w64 bound.most
within_fits size bound w = omega (arith, ints, w.low, w.high)

pub begun_more : (size : ℕ) (bounds : List Bound) (index : ℕ) (default : Bound) (old new : List ℤ) (d : ℤ) → All (IsBetween size) bounds → index < length bounds → length new ≡ length old
    → (IsImpossible (get_or bounds index default) → ⊥) → IsLowered old ((get_or bounds index default).row * size + (get_or bounds index default).column) d new → (FitsSigned w64 (get_or bounds index default).most → d ≡ (get_or bounds index default).most)
    → IsBegun size bounds (take index bounds) old → IsBegun size bounds (take (index + 1) bounds) new
begun_more size bounds index default old new d within lt long possible low same h = record {
  count = long ∙ h.count;
  matrix = record {
    bounded = next.bounded;
    implied = next.implied;
    most = All-more (IsAtMost (entry size new)) bounds index default lt next.most t.most;
  };
}
  where
    fits : FitsSigned w64 (get_or bounds index default).most
    fits = within_fits size (get_or bounds index default) (within index default lt)

    t : IsTightened size (entry size old) (get_or bounds index default) (entry size new)
    t = tightened size old new (get_or bounds index default) h.count (within index default lt) (subst (λ z. IsLowered old ((get_or bounds index default).row * size + (get_or bounds index default).column) z new) (same fits) low)

    next : IsMatrix size bounds (take index bounds) (entry size new)
    next = tightened_matrix size bounds (take index bounds) (entry size old) (entry size new) (get_or bounds index default) (within index default lt) (λ y s. s.solution.met index default lt) possible h.matrix t (All-take (IsBetween size) index bounds within)

pub begun_all : (size : ℕ) (bounds : List Bound) (numbers : List ℤ) (index : ℕ) → length bounds ≤ index → IsBegun size bounds (take index bounds) numbers → IsReady size bounds 0 numbers
begun_all size bounds numbers index past h = record {
  count = h.count;
  matrix = subst (λ some. IsMatrix size bounds some (entry size numbers)) (take_all index bounds past) h.matrix;
  closed = λ i j k p q lt. absurd (omega (arith, lt));
}

pub impossible_has_none : (size : ℕ) (bounds : List Bound) (index : ℕ) (default : Bound) → index < length bounds → IsImpossible (get_or bounds index default) → HaveNoLowSolution size bounds
impossible_has_none size bounds index default lt h y s = absurd (omega (arith, ints, ap y h.0, h.1, s.solution.met index default lt))

-- ---- one unknown more

pub ready_more : (size : ℕ) (bounds : List Bound) (k : ℕ) (old new : List ℤ) → All (IsBetween size) bounds → k < size → IsReady size bounds k old → IsPassed size (entry size old) k new → IsReady size bounds (k + 1) new
ready_more size bounds k old new within lt h passed = record {
  count = passed.count;
  matrix = record {
    bounded = step_bounded size (entry size old) k (entry size new) h.matrix.bounded lesser;
    implied = step_implied size bounds (entry size old) k (entry size new) lt h.matrix.implied lesser;
    most = at_most;
  };
  closed = step_closes size (entry size old) k (entry size new) lt h.matrix.bounded h.closed lesser;
}
  where
    lesser : AllLesser size (entry size old) k (entry size new)
    lesser = all_lesser size (entry size old) k new passed

    one : (bound : Bound) → IsBetween size bound → IsAtMost (entry size old) bound → IsAtMost (entry size new) bound
    one bound w g = omega (arith, ints, g, (lesser bound.row bound.column w.row w.column).before)

    at_most : All (IsAtMost (entry size new)) bounds
    at_most = λ n d p. one (slice_index_or bounds n d) (within n d p) (h.matrix.most n d p)

pub broken_ready : (size : ℕ) (bounds : List Bound) (k : ℕ) (old : List ℤ) → k < size → IsReady size bounds k old → IsBroken size (entry size old) k → HaveNoLowSolution size bounds
broken_ready size bounds k old lt h broken = broken_has_none size bounds (entry size old) k lt h.matrix.implied broken

pub ready_as : (size : ℕ) (bounds : List Bound) (k : ℕ) (old seen : List ℤ) → seen ≡ old → IsReady size bounds k old → IsReady size bounds k seen
ready_as size bounds k old seen e h = subst (IsReady size bounds k) (sym e) h

-- Solutions with a gap between their times that is wider than every bound: all that is above it may move down or up. So no system is
-- lost by a horizon that is far enough, and a time behind a gap has no greatest value.
use Rattle.std.proofs.Common.{◌≡◌, ◌⊎◌, ℕ, zero, suc, ℤ, pos, negsuc, ◌+◌, ◌-◌, ◌*◌, ◌<◌, ◌≤◌, List, All, refl, sym, subst, arith, inl, inr}
use Rattle.std.specs.Prelude.{◌+ℤ◌, ◌≤ℤ◌, slice_index_or}
use Rattle.std.proofs.lemmas.Bool.{cases_lt}
use Rattle.std.proofs.lemmas.Int.{ints}
use Rattle.lps_windows.specs.declared.bound.Bound.{Bound}
use Rattle.lps_windows.specs.Bounds.{IsBetween, IsMet, IsSolution}
use Rattle.lps_windows.specs.Matrices.{IsLowSolution, horizon}

-- no bound has a larger number
abbrev widest : ℕ
widest = 2000001

-- ---- how many times are reached

-- 1 for a time up to e, and 0 for one above
counted : (v e : ℕ) → (c : ℕ) × (((v ≤ e) × (c ≡ 1)) ⊎ ((e < v) × (c ≡ 0)))
counted v e = by (cases_lt e v)
  where
    by : (e < v) ⊎ (v ≤ e) → (c : ℕ) × (((v ≤ e) × (c ≡ 1)) ⊎ ((e < v) × (c ≡ 0)))
    by (inl above) = (0, inr (above, refl))
    by (inr here) = (1, inl (here, refl))

counted_grows : (v e d : ℕ) → e ≤ d → (counted v e).0 ≤ (counted v d).0
counted_grows v e d le = by (counted v e).1 (counted v d).1
  where
    by : ((v ≤ e) × ((counted v e).0 ≡ 1)) ⊎ ((e < v) × ((counted v e).0 ≡ 0)) → ((v ≤ d) × ((counted v d).0 ≡ 1)) ⊎ ((d < v) × ((counted v d).0 ≡ 0)) → (counted v e).0 ≤ (counted v d).0
    by (inl a) (inl b) = omega (arith, a.1, b.1)
    by (inl a) (inr b) = absurd (omega (arith, a.0, b.0, le))
    by (inr a) b = omega (arith, a.1)

counted_more : (v e d : ℕ) → e < v → v ≤ d → (counted v e).0 + 1 ≤ (counted v d).0
counted_more v e d above here = by (counted v e).1 (counted v d).1
  where
    by : ((v ≤ e) × ((counted v e).0 ≡ 1)) ⊎ ((e < v) × ((counted v e).0 ≡ 0)) → ((v ≤ d) × ((counted v d).0 ≡ 1)) ⊎ ((d < v) × ((counted v d).0 ≡ 0)) → (counted v e).0 + 1 ≤ (counted v d).0
    by (inl a) b = absurd (omega (arith, a.0, above))
    by (inr a) (inl b) = omega (arith, a.1, b.1)
    by (inr a) (inr b) = absurd (omega (arith, b.0, here))

module _ (y : ℕ → ℕ) where
  -- how many of the first rows have times up to e
  reached : ℕ → ℕ → ℕ
  reached e zero = 0
  reached e (suc n) = reached e n + (counted (y n) e).0

  reached_most : (e n : ℕ) → reached e n ≤ n
  unfolding reached
  reached_most e zero = omega arith
  reached_most e (suc n) = by (counted (y n) e).1 (reached_most e n)
    where
      by : ((y n ≤ e) × ((counted (y n) e).0 ≡ 1)) ⊎ ((e < y n) × ((counted (y n) e).0 ≡ 0)) → reached e n ≤ n → (reached e n + (counted (y n) e).0) ≤ suc n
      by (inl a) before = omega (arith, a.1, before)
      by (inr a) before = omega (arith, a.1, before)

  reached_all : (e n : ℕ) → n ≤ reached e n → (i : ℕ) → i < n → y i ≤ e
  unfolding reached
  reached_all e zero all i lt = absurd (omega (arith, lt))
  reached_all e (suc n) all i lt = by (counted (y n) e).1 (cases_lt i n) (reached_all e n)
    where
      by : ((y n ≤ e) × ((counted (y n) e).0 ≡ 1)) ⊎ ((e < y n) × ((counted (y n) e).0 ≡ 0)) → (i < n) ⊎ (n ≤ i) → (n ≤ reached e n → (k : ℕ) → k < n → y k ≤ e) → y i ≤ e
      by (inl a) (inl early) before = before (omega (arith, all, a.1)) i early
      by (inl a) (inr late) before = let same : n ≡ i = omega (arith, late, lt) in subst (λ k. y k ≤ e) same a.0
      by (inr a) _ before = absurd (omega (arith, all, a.1, reached_most e n))

  reached_grows : (e d n : ℕ) → e ≤ d → reached e n ≤ reached d n
  unfolding reached
  reached_grows e d zero le = omega arith
  reached_grows e d (suc n) le = omega (arith, reached_grows e d n le, counted_grows (y n) e d le)

  reached_more : (e d n i : ℕ) → e ≤ d → i < n → e < y i → y i ≤ d → reached e n + 1 ≤ reached d n
  unfolding reached
  reached_more e d zero i le lt above here = absurd (omega (arith, lt))
  reached_more e d (suc n) i le lt above here = by (cases_lt i n) (λ early. reached_more e d n i le early above here)
    where
      by : (i < n) ⊎ (n ≤ i) → (i < n → reached e n + 1 ≤ reached d n) → ((reached e n + (counted (y n) e).0) + 1) ≤ (reached d n + (counted (y n) d).0)
      by (inl early) before = omega (arith, before early, counted_grows (y n) e d le)
      by (inr late) before =
          let same : i ≡ n = omega (arith, late, lt) in
          omega (arith, reached_grows e d n le, counted_more (y n) e d (subst (λ k. e < y k) same above) (subst (λ k. y k ≤ d) same here))

-- ---- finding a gap

-- the times of the first rows are up to e, or above it by more than every bound
abbrev IsGap : ℕ → (ℕ → ℕ) → ℕ → Type 0
IsGap n y e = (i : ℕ) → i < n → (y i ≤ e) ⊎ (e + widest < y i)

abbrev IsNear : ℕ → (ℕ → ℕ) → ℕ → Type 0
IsNear n y e = (i : ℕ) × (i < n) × (e < y i) × (y i ≤ e + widest)

near_or_gap : (y : ℕ → ℕ) (e n : ℕ) → IsNear n y e ⊎ IsGap n y e
near_or_gap y e zero = inr (λ i lt. absurd (omega (arith, lt)))
near_or_gap y e (suc n) = by (near_or_gap y e n) (cases_lt e (y n)) (cases_lt (e + widest) (y n))
  where
    with_last : IsGap n y e → (y n ≤ e) ⊎ (e + widest < y n) → IsGap (suc n) y e
    with_last gap last i lt = at (cases_lt i n)
      where
        at : (i < n) ⊎ (n ≤ i) → (y i ≤ e) ⊎ (e + widest < y i)
        at (inl early) = gap i early
        at (inr late) = let same : n ≡ i = omega (arith, late, lt) in subst (λ k. (y k ≤ e) ⊎ (e + widest < y k)) same last

    by : IsNear n y e ⊎ IsGap n y e → (e < y n) ⊎ (y n ≤ e) → (e + widest < y n) ⊎ (y n ≤ e + widest) → IsNear (suc n) y e ⊎ IsGap (suc n) y e
    by (inl near) _ _ = inl (near.0, omega (arith, near.1), near.2, near.3)
    by (inr gap) (inr here) _ = inr (with_last gap (inl here))
    by (inr gap) (inl above) (inl far) = inr (with_last gap (inr far))
    by (inr gap) (inl above) (inr close) = inl (n, omega arith, above, close)

-- there is a gap no further up than all rows can fill
gap_from : (size : ℕ) (y : ℕ → ℕ) (steps e : ℕ) → size ≤ reached y e size + steps → (d : ℕ) × (e ≤ d) × (d ≤ e + steps * widest) × IsGap size y d
gap_from size y zero e few = (e, omega arith, omega arith, λ i lt. inl (reached_all y e size (omega (arith, few)) i lt))
gap_from size y (suc steps) e few = by (near_or_gap y e size) (gap_from size y steps (e + widest))
  where
    by : IsNear size y e ⊎ IsGap size y e → (size ≤ reached y (e + widest) size + steps → (d : ℕ) × (e + widest ≤ d) × (d ≤ (e + widest) + steps * widest) × IsGap size y d) →
        (d : ℕ) × (e ≤ d) × (d ≤ e + suc steps * widest) × IsGap size y d
    by (inr gap) further = (e, omega arith, omega arith, gap)
    by (inl near) further =
        let more = reached_more y e (e + widest) size near.0 (omega arith) near.1 near.2 near.3 in
        let found = further (omega (arith, few, more)) in
        (found.0, omega (arith, found.1), omega (arith, found.2), found.3)

gap_above : (size : ℕ) (y : ℕ → ℕ) (e : ℕ) → (d : ℕ) × (e ≤ d) × (d ≤ e + size * widest) × IsGap size y d
gap_above size y e = gap_from size y size e (omega arith)

-- ---- moving what is above a gap

-- a time up to e, or else what f makes of it
moved : (f : ℕ → ℕ) (e v : ℕ) → (w : ℕ) × (((v ≤ e) × (w ≡ v)) ⊎ ((e < v) × (w ≡ f v)))
moved f e v = by (cases_lt e v)
  where
    by : (e < v) ⊎ (v ≤ e) → (w : ℕ) × (((v ≤ e) × (w ≡ v)) ⊎ ((e < v) × (w ≡ f v)))
    by (inl above) = (f v, inr (above, refl))
    by (inr here) = (v, inl (here, refl))

-- no time of the first rows is later
latest : (y : ℕ → ℕ) (n : ℕ) → (top : ℕ) × ((i : ℕ) → i < n → y i ≤ top)
latest y zero = (0, λ i lt. absurd (omega (arith, lt)))
latest y (suc n) = with_last (latest y n)
  where
    with_last : (top : ℕ) × ((i : ℕ) → i < n → y i ≤ top) → (top : ℕ) × ((i : ℕ) → i < suc n → y i ≤ top)
    with_last before = (before.0 + y n, λ i lt. at i lt (cases_lt i n))
      where
        at : (i : ℕ) → i < suc n → (i < n) ⊎ (n ≤ i) → y i ≤ before.0 + y n
        at i lt (inl early) = omega (arith, before.1 i early)
        at i lt (inr late) = let same : n ≡ i = omega (arith, late, lt) in subst (λ k. y k ≤ before.0 + y n) same (omega arith)

module _ (size : ℕ) (bounds : List Bound) (some : 0 < size) (between : All (IsBetween size) bounds) where
  module _ (y : ℕ → ℕ) (solution : IsSolution bounds y) (e : ℕ) (gap : IsGap size y e) (f : ℕ → ℕ) (shift : ℤ) (low : negsuc 0 ≤ℤ shift) (moves : (v : ℕ) → e + widest < v → pos (f v) ≡ pos v +ℤ shift) where
    after : ℕ → ℕ
    after i = (moved f e (y i)).0

    -- a time below the gap stays, and one above it moves
    after_at : (i : ℕ) → i < size → ((y i ≤ e) × (after i ≡ y i)) ⊎ ((e + widest < y i) × (pos (after i) ≡ pos (y i) +ℤ shift))
    unfolding after
    after_at i lt = by (moved f e (y i)).1 (gap i lt)
      where
        by : ((y i ≤ e) × ((moved f e (y i)).0 ≡ y i)) ⊎ ((e < y i) × ((moved f e (y i)).0 ≡ f (y i))) → (y i ≤ e) ⊎ (e + widest < y i) →
            ((y i ≤ e) × ((moved f e (y i)).0 ≡ y i)) ⊎ ((e + widest < y i) × (pos (moved f e (y i)).0 ≡ pos (y i) +ℤ shift))
        by (inl stays) _ = inl stays
        by (inr moves_up) (inl here) = absurd (omega (arith, moves_up.0, here))
        by (inr moves_up) (inr far) = inr (far, subst (λ w. pos w ≡ pos (y i) +ℤ shift) (sym moves_up.1) (moves (y i) far))

    after_start : after 0 ≡ 0
    after_start = by (after_at 0 some)
      where
        by : ((y 0 ≤ e) × (after 0 ≡ y 0)) ⊎ ((e + widest < y 0) × (pos (after 0) ≡ pos (y 0) +ℤ shift)) → after 0 ≡ 0
        by (inl stays) = omega (arith, stays.1, solution.start)
        by (inr far) = absurd (omega (arith, far.0, solution.start))

    after_met : (bound : Bound) → IsBetween size bound → IsMet y bound → IsMet after bound
    after_met bound w met = by (after_at bound.row w.row) (after_at bound.column w.column)
      where
        by : ((y bound.row ≤ e) × (after bound.row ≡ y bound.row)) ⊎ ((e + widest < y bound.row) × (pos (after bound.row) ≡ pos (y bound.row) +ℤ shift)) →
            ((y bound.column ≤ e) × (after bound.column ≡ y bound.column)) ⊎ ((e + widest < y bound.column) × (pos (after bound.column) ≡ pos (y bound.column) +ℤ shift)) → IsMet after bound
        by (inl a) (inl b) = omega (arith, ints, a.1, b.1, met)
        by (inl a) (inr b) = omega (arith, ints, a.0, a.1, b.0, b.1, low, w.low)
        by (inr a) (inl b) = absurd (omega (arith, ints, a.0, b.0, met, w.high))
        by (inr a) (inr b) = omega (arith, ints, a.1, b.1, met)

    after_solves : IsSolution bounds after
    after_solves = record { start = after_start; met = λ k d lt. after_met (slice_index_or bounds k d) (between k d lt) (solution.met k d lt) }

    pub after_gap : (z : ℕ → ℕ) × IsSolution bounds z × ((i : ℕ) → i < size → ((y i ≤ e) × (z i ≡ y i)) ⊎ ((e + widest < y i) × (pos (z i) ≡ pos (y i) +ℤ shift)))
    after_gap = (after, after_solves, after_at)

  -- ---- down to the horizon

  -- a solution, up to the horizon, in which a row has a time no later than here, and not below this floor
  abbrev pub IsLoweredTo : ℕ → ℕ → (ℕ → ℕ) → (ℕ → ℕ) → Type 0
  IsLoweredTo b floor y z = IsLowSolution size bounds z × (floor ≤ z b) × (z b ≤ y b)

  module _ (b : ℕ) (within : b < size) (floor : ℕ) (room : floor + size * widest ≤ horizon) where
    lowered_by : (steps : ℕ) (y : ℕ → ℕ) → IsSolution bounds y → ((i : ℕ) → i < size → y i ≤ horizon + steps) → floor ≤ y b → (z : ℕ → ℕ) × IsLoweredTo b floor y z
    lowered_by zero y solution high above = (y, (record { solution = solution; high = λ i lt. omega (arith, high i lt) }, above, omega arith))
    lowered_by (suc steps) y solution high above = by (lowered_by steps step.0 step.1 z_high z_above)
      where
        gap : (d : ℕ) × (floor ≤ d) × (d ≤ floor + size * widest) × IsGap size y d
        gap = gap_above size y floor

        earlier : (v : ℕ) → gap.0 + widest < v → pos (v - 1) ≡ pos v +ℤ negsuc 0
        earlier v far = omega (arith, ints, far)

        step : (z : ℕ → ℕ) × IsSolution bounds z × ((i : ℕ) → i < size → ((y i ≤ gap.0) × (z i ≡ y i)) ⊎ ((gap.0 + widest < y i) × (pos (z i) ≡ pos (y i) +ℤ negsuc 0)))
        step = after_gap y solution gap.0 gap.3 (λ v. v - 1) (negsuc 0) (omega (arith, ints)) earlier

        z_high : (i : ℕ) → i < size → step.0 i ≤ horizon + steps
        z_high i lt = by (step.2 i lt)
          where
            by : ((y i ≤ gap.0) × (step.0 i ≡ y i)) ⊎ ((gap.0 + widest < y i) × (pos (step.0 i) ≡ pos (y i) +ℤ negsuc 0)) → step.0 i ≤ horizon + steps
            by (inl stays) = omega (arith, stays.0, stays.1, gap.2, room)
            by (inr moves) = omega (arith, ints, moves.1, high i lt)

        z_above : floor ≤ step.0 b
        z_above = by (step.2 b within)
          where
            by : ((y b ≤ gap.0) × (step.0 b ≡ y b)) ⊎ ((gap.0 + widest < y b) × (pos (step.0 b) ≡ pos (y b) +ℤ negsuc 0)) → floor ≤ step.0 b
            by (inl stays) = omega (arith, stays.1, above)
            by (inr moves) = omega (arith, ints, moves.0, moves.1, gap.1)

        no_later : step.0 b ≤ y b
        no_later = by (step.2 b within)
          where
            by : ((y b ≤ gap.0) × (step.0 b ≡ y b)) ⊎ ((gap.0 + widest < y b) × (pos (step.0 b) ≡ pos (y b) +ℤ negsuc 0)) → step.0 b ≤ y b
            by (inl stays) = omega (arith, stays.1)
            by (inr moves) = omega (arith, ints, moves.1)

        by : (u : ℕ → ℕ) × IsLoweredTo b floor step.0 u → (u : ℕ → ℕ) × IsLoweredTo b floor y u
        by rest = (rest.0, (rest.1.0, rest.1.1, omega (arith, rest.1.2, no_later)))

    pub lowered : (y : ℕ → ℕ) → IsSolution bounds y → floor ≤ y b → (z : ℕ → ℕ) × IsLoweredTo b floor y z
    lowered y solution above = lowered_by (latest y size).0 y solution (λ i lt. let top = (latest y size).1 i lt in omega (arith, top)) above

  -- ---- up without end

  pub raised : (b : ℕ) → b < size → (y : ℕ → ℕ) → IsSolution bounds y → size * widest < y b → (k : ℕ) → (z : ℕ → ℕ) × IsSolution bounds z × (z b ≡ y b + k)
  raised b within y solution far k = (step.0, step.1, by (step.2 b within))
    where
      gap : (d : ℕ) × (0 ≤ d) × (d ≤ 0 + size * widest) × IsGap size y d
      gap = gap_above size y 0

      later : (v : ℕ) → gap.0 + widest < v → pos (v + k) ≡ pos v +ℤ pos k
      later v above = omega (arith, ints)

      step : (z : ℕ → ℕ) × IsSolution bounds z × ((i : ℕ) → i < size → ((y i ≤ gap.0) × (z i ≡ y i)) ⊎ ((gap.0 + widest < y i) × (pos (z i) ≡ pos (y i) +ℤ pos k)))
      step = after_gap y solution gap.0 gap.3 (λ v. v + k) (pos k) (omega (arith, ints)) later

      by : ((y b ≤ gap.0) × (step.0 b ≡ y b)) ⊎ ((gap.0 + widest < y b) × (pos (step.0 b) ≡ pos (y b) +ℤ pos k)) → step.0 b ≡ y b + k
      by (inl stays) = absurd (omega (arith, stays.0, gap.2, far))
      by (inr moves) = omega (arith, ints, moves.1)

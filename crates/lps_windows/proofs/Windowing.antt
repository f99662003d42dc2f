-- From the range of a row in the solutions up to the horizon to the window of a time in all solutions.
use Rattle.std.proofs.Common.{◌≡◌, ◌⊎◌, ℕ, suc, ℤ, pos, negsuc, ◌+◌, ◌-◌, ◌<◌, ◌≤◌, List, All, ap, subst, ◌∙◌, arith, inl, inr}
use Rattle.std.specs.Prelude.{◌+ℤ◌, ◌-ℤ◌, ◌≤ℤ◌, ◌<ℤ◌, Option, Some, None, MatchOption, ⊤}
use Rattle.std.specs.List.{flat_map}
use Rattle.std.proofs.lemmas.Bool.{cases_lt}
use Rattle.std.proofs.lemmas.Int.{ints}
use Rattle.lps_meaning.specs.declared.node.LeftCon.{LeftCon}
use Rattle.lps_meaning.specs.declared.when.When.{When}
use Rattle.lps_windows.specs.declared.window.Window.{Window}
use Rattle.lps_windows.specs.declared.bound.Bound.{Bound}
use Rattle.lps_windows.specs.Bounds.{IsBetween, IsSolution, bounds_of, by_row, row_of, shift_of}
use Rattle.lps_windows.specs.Ends.{IsShifted, unbounded}
use Rattle.lps_windows.specs.Matrices.{HaveNoLowSolution, IsEnded, IsReady, entry}
use Rattle.lps_windows.specs.Windows.{CanBe, HaveNoSolution, IsTime, IsWindow, IsWithin, Solves}
use Rattle.lps_windows.proofs.Bounding.{all_between, from_bounds, row_within, time_by_row, time_from_row, to_bounds}
use Rattle.lps_windows.proofs.Closing.{IsRange, closed_range, le_trans}
use Rattle.lps_windows.proofs.Gaps.{lowered, raised}

pub none_at_all : (unknowns : ℕ) (conditions : List LeftCon) → unknowns ≤ 1000000 → All (IsWithin unknowns) conditions → HaveNoLowSolution (unknowns + 1) (flat_map bounds_of conditions) → HaveNoSolution conditions
none_at_all unknowns conditions few within none x s =
    let found = lowered (unknowns + 1) (flat_map bounds_of conditions) (omega arith) (all_between unknowns conditions within) 0 (omega arith) 0 (omega (arith, few)) (by_row x) (to_bounds conditions x s) (omega arith) in
    none found.0 found.1.0

module _ (unknowns : ℕ) (conditions : List LeftCon) (few : unknowns ≤ 1000000) (within : All (IsWithin unknowns) conditions) (time : When) (is_time : IsTime unknowns time)
    (least greatest : ℕ) (some : least ≤ greatest) (range : IsRange (unknowns + 1) (flat_map bounds_of conditions) (row_of time) (pos least) (pos greatest)) where
  row_in : row_of time < unknowns + 1
  row_in = row_within unknowns time is_time

  between : All (IsBetween (unknowns + 1)) (flat_map bounds_of conditions)
  between = all_between unknowns conditions within

  -- ---- no solution has another time

  at_least : (x : ℕ → ℕ) → Solves conditions x → least ≤ by_row x (row_of time)
  at_least x s =
      let found = lowered (unknowns + 1) (flat_map bounds_of conditions) (omega arith) between (row_of time) row_in 0 (omega (arith, few)) (by_row x) (to_bounds conditions x s) (omega arith) in
      omega (arith, ints, (range.within found.0 found.1.0).0, found.1.2)

  lower_to : (floor : ℕ) → floor ≤ unbounded → (x : ℕ → ℕ) → Solves conditions x → floor ≤ by_row x (row_of time) → floor ≤ greatest
  lower_to floor near x s above =
      let found = lowered (unknowns + 1) (flat_map bounds_of conditions) (omega arith) between (row_of time) row_in floor (omega (arith, few, near)) (by_row x) (to_bounds conditions x s) above in
      omega (arith, ints, (range.within found.0 found.1.0).1, found.1.1)

  at_most : greatest < unbounded → (x : ℕ → ℕ) → Solves conditions x → by_row x (row_of time) ≤ greatest
  at_most bounded x s = by (cases_lt greatest (by_row x (row_of time)))
    where
      by : (greatest < by_row x (row_of time)) ⊎ (by_row x (row_of time) ≤ greatest) → by_row x (row_of time) ≤ greatest
      by (inl above) = absurd (omega (arith, lower_to (greatest + 1) (omega (arith, bounded)) x s (omega (arith, above))))
      by (inr here) = here

  -- ---- each such time is taken

  found_at : (y : ℕ → ℕ) → IsSolution (flat_map bounds_of conditions) y → (v : ℕ) → y (row_of time) ≡ v → CanBe conditions time (v + shift_of time)
  found_at y s v e = ((λ k. y (suc k)), from_bounds conditions y s, time_from_row y s.start time ∙ ap (λ n. n + shift_of time) e)

  taken_between : (v : ℕ) → least ≤ v → v ≤ greatest → CanBe conditions time (v + shift_of time)
  taken_between v from to = let found = range.taken v (omega (arith, ints, from)) (omega (arith, ints, to)) in found_at found.0 found.1.solution v found.2

  -- where the greatest is one of the horizon, it lies behind a gap
  taken_above : (v : ℕ) → greatest ≤ v → unbounded ≤ greatest → CanBe conditions time (v + shift_of time)
  taken_above v above far =
      let found = range.taken greatest (omega (arith, ints, some)) (omega (arith, ints)) in
      let up = raised (unknowns + 1) (flat_map bounds_of conditions) (omega arith) between (row_of time) row_in found.0 found.1.solution (omega (arith, far, found.2, few)) (v - greatest) in
      found_at up.0 up.1 v (omega (arith, up.2, found.2, above))

  taken_from : (v : ℕ) → least ≤ v → unbounded ≤ greatest → CanBe conditions time (v + shift_of time)
  taken_from v from far = by (cases_lt greatest v)
    where
      by : (greatest < v) ⊎ (v ≤ greatest) → CanBe conditions time (v + shift_of time)
      by (inl above) = taken_above v (omega (arith, above)) far
      by (inr here) = taken_between v from here

  -- ---- the window

  to_solution : (first value : ℕ) (last : Option ℕ) → pos first ≡ pos least +ℤ pos (shift_of time)
      → MatchOption last (pos unbounded ≤ℤ pos greatest) (λ n. (pos greatest <ℤ pos unbounded) × (pos n ≡ pos greatest +ℤ pos (shift_of time)))
      → first ≤ value → MatchOption last ⊤ (λ n. value ≤ n) → CanBe conditions time value
  to_solution first value None e far from _ =
      let shifted : (value - shift_of time) + shift_of time ≡ value = omega (arith, ints, e, from) in
      subst (CanBe conditions time) shifted (taken_from (value - shift_of time) (omega (arith, ints, e, from)) (omega (arith, ints, far)))
  to_solution first value (Some n) e is from to =
      let shifted : (value - shift_of time) + shift_of time ≡ value = omega (arith, ints, e, from) in
      subst (CanBe conditions time) shifted (taken_between (value - shift_of time) (omega (arith, ints, e, from)) (omega (arith, ints, is.1, to)))

  from_solution : (first value : ℕ) (last : Option ℕ) → pos first ≡ pos least +ℤ pos (shift_of time)
      → MatchOption last (pos unbounded ≤ℤ pos greatest) (λ n. (pos greatest <ℤ pos unbounded) × (pos n ≡ pos greatest +ℤ pos (shift_of time)))
      → CanBe conditions time value → (first ≤ value) × MatchOption last ⊤ (λ n. value ≤ n)
  from_solution first value None e far found =
      (omega (arith, ints, e, at_least found.0 found.1, time_by_row found.0 time, found.2), tt)
  from_solution first value (Some n) e is found = (
    omega (arith, ints, e, at_least found.0 found.1, time_by_row found.0 time, found.2),
    omega (arith, ints, is.1, at_most (omega (arith, ints, is.0)) found.0 found.1, time_by_row found.0 time, found.2),
  )

  some_in : (first : ℕ) (last : Option ℕ) → pos first ≡ pos least +ℤ pos (shift_of time)
      → MatchOption last (pos unbounded ≤ℤ pos greatest) (λ n. (pos greatest <ℤ pos unbounded) × (pos n ≡ pos greatest +ℤ pos (shift_of time)))
      → MatchOption last ⊤ (λ n. first ≤ n)
  some_in first None e far = tt
  some_in first (Some n) e is = omega (arith, ints, e, is.1, some)

  pub range_window : (window : Window) → IsShifted (pos least) (pos greatest) (shift_of time) window → IsWindow conditions time window
  range_window window h = record {
    some = (omega arith, some_in window.first window.last h.first h.last);
    exact = λ value. (λ inside. to_solution window.first value window.last h.first h.last inside.0 inside.1, λ found. from_solution window.first value window.last h.first h.last found);
  }

-- ---- the matrix that is closed through all rows

pub ready_ends : (size : ℕ) (bounds : List Bound) (numbers : List ℤ) → 0 < size → IsReady size bounds size numbers → IsEnded size (entry size numbers)
ready_ends size bounds numbers some h = record {
  first = λ i p. (h.matrix.bounded.low 0 i some p, h.matrix.bounded.natural i p);
  last = λ i p. (le_trans (pos 0) (entry size numbers 0 0) (entry size numbers 0 i +ℤ entry size numbers i 0) (h.matrix.bounded.diagonal 0 some) (h.closed 0 0 i some some p), h.matrix.bounded.high i 0 p some);
}

window_by : (unknowns : ℕ) (conditions : List LeftCon) (time : When) (window : Window) (least greatest : ℤ) → unknowns ≤ 1000000 → All (IsWithin unknowns) conditions → IsTime unknowns time
    → pos 0 ≤ℤ least → least ≤ℤ greatest → IsRange (unknowns + 1) (flat_map bounds_of conditions) (row_of time) least greatest → IsShifted least greatest (shift_of time) window
    → IsWindow conditions time window
window_by unknowns conditions time window (pos least) (pos greatest) few within is_time low some range shifted =
    range_window unknowns conditions few within time is_time least greatest (omega (arith, ints, some)) range window shifted
window_by unknowns conditions time window (pos least) (negsuc n) few within is_time low some range shifted = absurd (omega (arith, ints, some))
window_by unknowns conditions time window (negsuc n) greatest few within is_time low some range shifted = absurd (omega (arith, ints, low))

pub ready_window : (unknowns : ℕ) (conditions : List LeftCon) (time : When) (numbers : List ℤ) (window : Window) → unknowns ≤ 1000000 → All (IsWithin unknowns) conditions → IsTime unknowns time
    → IsReady (unknowns + 1) (flat_map bounds_of conditions) (unknowns + 1) numbers
    → IsShifted (pos 0 -ℤ entry (unknowns + 1) numbers 0 (row_of time)) (entry (unknowns + 1) numbers (row_of time) 0) (shift_of time) window → IsWindow conditions time window
ready_window unknowns conditions time numbers window few within is_time h shifted =
    let some : 0 < unknowns + 1 = omega arith in
    let row_in = row_within unknowns time is_time in
    let ends = ready_ends (unknowns + 1) (flat_map bounds_of conditions) numbers some h in
    window_by unknowns conditions time window _ _ few within is_time (omega (arith, ints, (ends.first _ row_in).1)) (omega (arith, ints, (ends.last _ row_in).0))
    (closed_range (unknowns + 1) (flat_map bounds_of conditions) (entry (unknowns + 1) numbers) (row_of time) row_in some (all_between unknowns conditions within) h.matrix h.closed) shifted

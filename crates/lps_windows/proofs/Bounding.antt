-- Time conditions and the bounds that they make up have the same solutions.
use Rattle.std.proofs.Common.{◌≡◌, ◌↔◌, ℕ, zero, suc, ℤ, pos, negsuc, ◌+◌, ◌<◌, ◌≤◌, List, [], ◌∷◌, ◌++◌, All, refl, sym, arith}
use Rattle.std.specs.Prelude.{◌+ℤ◌, ◌-ℤ◌, ◌≤ℤ◌, Option, Some, None, IfSome}
use Rattle.std.specs.List.{AllByRecursion, flat_map}
use Rattle.std.proofs.lemmas.Int.{ints}
use Rattle.std.proofs.lemmas.List.Elements.{All-from_recursion, recursion_from_All}
use Rattle.lps_terms.specs.declared.time_rel.TimeRel.{TimeRel}
use Rattle.lps_terms.specs.declared.time_rel.TimeRel.TheVariants as r
use Rattle.lps_meaning.specs.declared.node.LeftCon.{LeftCon}
use Rattle.lps_meaning.specs.declared.when.When.{When}
use Rattle.lps_meaning.specs.declared.when.When.TheVariants.{Known, Unknown}
use Rattle.lps_meaning.specs.Sequences.{Relates}
use Rattle.lps_meaning.proofs.Lists.{of_flat}
use Rattle.lps_meaning.proofs.Occurrences.{all_front, all_behind, all_joined}
use Rattle.lps_nodes.specs.Conditions.{IsLeftLimit, time_in}
use Rattle.lps_windows.specs.declared.bound.Bound.{Bound}
use Rattle.lps_windows.specs.Bounds.{IsBetween, IsMet, IsShort, IsSlack, IsSolution, bound_between, bounds_between, bounds_of, by_row, least_slack, most_slack, row_of, shift_of}
use Rattle.lps_windows.specs.Windows.{IsTime, IsWithin, Solves}

-- ---- the same solutions

pub time_by_row : (x : ℕ → ℕ) (time : When) → time_in x time ≡ by_row x (row_of time) + shift_of time
time_by_row x (Known n) = omega arith
time_by_row x (Unknown k) = omega arith

module _ (x : ℕ → ℕ) where
  met_between : (left right : When) (plus : ℤ) → (pos (time_in x left) ≤ℤ (pos (time_in x right) +ℤ plus)) ↔ IsMet (by_row x) (bound_between left right plus)
  met_between left right plus =
      let first = time_by_row x left in
      let second = time_by_row x right in
      (λ h. omega (arith, ints, first, second, h), λ h. omega (arith, ints, first, second, h))

  limit_bounds : (rel : TimeRel) (left right : When) (plus : ℤ) → Relates rel (pos (time_in x left)) (pos (time_in x right) +ℤ plus)
      ↔ AllByRecursion (IsMet (by_row x)) (bounds_between left right plus (most_slack rel) ++ bounds_between right left (pos 0 -ℤ plus) (least_slack rel))
  limit_bounds r.Less left right plus =
      let first = met_between left right (plus +ℤ negsuc 0) in
      (λ h. (first.0 (omega (arith, ints, h)), tt), λ h. let g = first.1 h.0 in omega (arith, ints, g))
  limit_bounds r.AtMost left right plus =
      let first = met_between left right (plus +ℤ pos 0) in
      (λ h. (first.0 (omega (arith, ints, h)), tt), λ h. let g = first.1 h.0 in omega (arith, ints, g))
  limit_bounds r.Equal left right plus =
      let first = met_between left right (plus +ℤ pos 0) in
      let second = met_between right left ((pos 0 -ℤ plus) +ℤ pos 0) in
      (λ h. (first.0 (omega (arith, ints, h)), (second.0 (omega (arith, ints, h)), tt)), λ h. let g = first.1 h.0 in let k = second.1 h.1.0 in omega (arith, ints, g, k))
  limit_bounds r.AtLeast left right plus =
      let second = met_between right left ((pos 0 -ℤ plus) +ℤ pos 0) in
      (λ h. (second.0 (omega (arith, ints, h)), tt), λ h. let g = second.1 h.0 in omega (arith, ints, g))
  limit_bounds r.Greater left right plus =
      let second = met_between right left ((pos 0 -ℤ plus) +ℤ negsuc 0) in
      (λ h. (second.0 (omega (arith, ints, h)), tt), λ h. let g = second.1 h.0 in omega (arith, ints, g))

  con_bounds : (con : LeftCon) → IsLeftLimit x con ↔ AllByRecursion (IsMet (by_row x)) (bounds_of con)
  con_bounds con = limit_bounds con.rel con.left con.right con.plus

  all_from_bounds : (conditions : List LeftCon) → AllByRecursion (IsMet (by_row x)) (flat_map bounds_of conditions) → AllByRecursion (IsLeftLimit x) conditions
  all_from_bounds [] h = tt
  all_from_bounds (con ∷ rest) h =
      ((con_bounds con).1 (all_front (IsMet (by_row x)) (bounds_of con) (flat_map bounds_of rest) h), all_from_bounds rest (all_behind (IsMet (by_row x)) (bounds_of con) (flat_map bounds_of rest) h))

-- solutions of the conditions are those of the bounds, and the other way round
pub to_bounds : (conditions : List LeftCon) (x : ℕ → ℕ) → Solves conditions x → IsSolution (flat_map bounds_of conditions) (by_row x)
to_bounds conditions x h = record {
  start = refl;
  met = All-from_recursion (IsMet (by_row x)) (flat_map bounds_of conditions)
      (of_flat (IsLeftLimit x) (IsMet (by_row x)) bounds_of (λ con. (con_bounds x con).0) conditions h);
}

same_by_row : (y : ℕ → ℕ) → y 0 ≡ 0 → (i : ℕ) → by_row (λ k. y (suc k)) i ≡ y i
same_by_row y start zero = sym start
same_by_row y start (suc i) = refl

pub from_bounds : (conditions : List LeftCon) (y : ℕ → ℕ) → IsSolution (flat_map bounds_of conditions) y → Solves conditions (λ k. y (suc k))
from_bounds conditions y s =
    all_from_bounds (λ k. y (suc k)) conditions (recursion_from_All (IsMet (by_row (λ k. y (suc k)))) (flat_map bounds_of conditions) (λ k d lt. at _ (s.met k d lt)))
  where
    at : (bound : Bound) → IsMet y bound → IsMet (by_row (λ k. y (suc k))) bound
    at bound met = omega (arith, ints, same_by_row y s.start bound.row, same_by_row y s.start bound.column, met)

pub time_from_row : (y : ℕ → ℕ) → y 0 ≡ 0 → (time : When) → time_in (λ k. y (suc k)) time ≡ y (row_of time) + shift_of time
time_from_row y start (Known n) = omega (arith, start)
time_from_row y start (Unknown k) = omega arith

-- ---- limits

pub row_within : (unknowns : ℕ) (time : When) → IsTime unknowns time → row_of time < unknowns + 1
row_within unknowns (Known n) h = omega arith
row_within unknowns (Unknown k) h = omega (arith, h)

pub shift_within : (unknowns : ℕ) (time : When) → IsTime unknowns time → shift_of time ≤ 1000000
shift_within unknowns (Known n) h = h
shift_within unknowns (Unknown k) h = omega arith

pub short_within : (unknowns : ℕ) (con : LeftCon) → IsWithin unknowns con → IsShort con
short_within unknowns con h = record { left = shift_within unknowns con.left h.left; right = shift_within unknowns con.right h.right; low = h.low; high = h.high }

most_small : (rel : TimeRel) → IfSome (most_slack rel) IsSlack
most_small r.Less = (omega (arith, ints), omega (arith, ints))
most_small r.AtMost = (omega (arith, ints), omega (arith, ints))
most_small r.Equal = (omega (arith, ints), omega (arith, ints))
most_small r.AtLeast = tt
most_small r.Greater = tt

least_small : (rel : TimeRel) → IfSome (least_slack rel) IsSlack
least_small r.Less = tt
least_small r.AtMost = tt
least_small r.Equal = (omega (arith, ints), omega (arith, ints))
least_small r.AtLeast = (omega (arith, ints), omega (arith, ints))
least_small r.Greater = (omega (arith, ints), omega (arith, ints))

slack_between : (unknowns : ℕ) (left right : When) (plus : ℤ) (slack : Option ℤ) → IsTime unknowns left → IsTime unknowns right → negsuc 999999 ≤ℤ plus → plus ≤ℤ pos 1000000 → IfSome slack IsSlack →
    AllByRecursion (IsBetween (unknowns + 1)) (bounds_between left right plus slack)
slack_between unknowns left right plus None p q low high small = tt
slack_between unknowns left right plus (Some slack) p q low high small =
    let first = shift_within unknowns left p in
    let second = shift_within unknowns right q in (
      record {
        row = row_within unknowns left p;
        column = row_within unknowns right q;
        low = omega (arith, ints, first, second, low, small.0);
        high = omega (arith, ints, first, second, high, small.1);
      },
      tt,
    )

con_between : (unknowns : ℕ) (con : LeftCon) → IsWithin unknowns con → AllByRecursion (IsBetween (unknowns + 1)) (bounds_of con)
con_between unknowns con h = all_joined (IsBetween (unknowns + 1)) (bounds_between con.left con.right con.plus (most_slack con.rel)) (bounds_between con.right con.left (pos 0 -ℤ con.plus) (least_slack con.rel))
    (slack_between unknowns con.left con.right con.plus (most_slack con.rel) h.left h.right h.low h.high (most_small con.rel))
    (slack_between unknowns con.right con.left (pos 0 -ℤ con.plus) (least_slack con.rel) h.right h.left (omega (arith, ints, h.high)) (omega (arith, ints, h.low)) (least_small con.rel))

pub all_between : (unknowns : ℕ) (conditions : List LeftCon) → All (IsWithin unknowns) conditions → All (IsBetween (unknowns + 1)) (flat_map bounds_of conditions)
all_between unknowns conditions within = All-from_recursion (IsBetween (unknowns + 1)) (flat_map bounds_of conditions)
    (of_flat (IsWithin unknowns) (IsBetween (unknowns + 1)) bounds_of (con_between unknowns) conditions (recursion_from_All (IsWithin unknowns) conditions within))

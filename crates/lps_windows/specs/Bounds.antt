-- Bounds on the difference of two times, by rows: row 0 is that of the time 0, and each other row that of the unknown time whose
-- number is one less.
use Rattle.std.specs.Prelude.{◌≡◌, ◌<◌, ◌≤◌, ◌++◌, ◌≤ℤ◌, ◌+ℤ◌, ◌-ℤ◌, ℕ, zero, suc, ℤ, pos, negsuc, List, [], ◌∷◌, Option, Some, None, All}
use Rattle.lps_terms.specs.declared.time_rel.TimeRel.{TimeRel}
use Rattle.lps_terms.specs.declared.time_rel.TimeRel.TheVariants as r
use Rattle.lps_meaning.specs.declared.node.LeftCon.{LeftCon}
use Rattle.lps_meaning.specs.declared.when.When.{When}
use Rattle.lps_meaning.specs.declared.when.When.TheVariants.{Known, Unknown}
use Rattle.lps_windows.specs.declared.bound.Bound.{Bound}

-- ---- times by rows

abbrev pub row_of : When → ℕ
row_of (Known n) = 0
row_of (Unknown k) = suc k

-- how far a time lies behind that of its row
abbrev pub shift_of : When → ℕ
shift_of (Known n) = n
shift_of (Unknown k) = 0

-- the times of the rows, with x of each unknown time in its place
abbrev pub by_row : (ℕ → ℕ) → ℕ → ℕ
by_row x zero = 0
by_row x (suc k) = x k

-- ---- bounds

abbrev pub IsMet : (ℕ → ℕ) → Bound → Type 0
IsMet y bound = pos (y bound.row) ≤ℤ (pos (y bound.column) +ℤ bound.most)

-- times of the rows meet all bounds
pub record IsSolution (bounds : List Bound) (y : ℕ → ℕ) : Type 0 where
  pub start : y 0 ≡ 0
  pub met : All (IsMet y) bounds

-- the rows are among so many, and the number is no larger than those of time conditions, each known time added or taken off
pub record IsBetween (size : ℕ) (bound : Bound) : Type 0 where
  pub row : bound.row < size
  pub column : bound.column < size
  pub low : negsuc 2000000 ≤ℤ bound.most
  pub high : bound.most ≤ℤ pos 2000001

-- ---- conditions as bounds

-- one time is at most another and a number
abbrev pub bound_between : When → When → ℤ → Bound
bound_between left right plus =
    record { row = row_of left; column = row_of right; most = (plus +ℤ pos (shift_of right)) -ℤ pos (shift_of left) }

abbrev pub bounds_between : When → When → ℤ → Option ℤ → List Bound
bounds_between left right plus None = []
bounds_between left right plus (Some slack) = bound_between left right (plus +ℤ slack) ∷ []

-- where two times stand in a relation, the first is at most the second and this number, if it is bounded so
abbrev pub most_slack : TimeRel → Option ℤ
most_slack r.Less = Some (negsuc 0)
most_slack r.AtMost = Some (pos 0)
most_slack r.Equal = Some (pos 0)
most_slack r.AtLeast = None
most_slack r.Greater = None

-- and the second at most the first and this number, if it is bounded so
abbrev pub least_slack : TimeRel → Option ℤ
least_slack r.Less = None
least_slack r.AtMost = None
least_slack r.Equal = Some (pos 0)
least_slack r.AtLeast = Some (pos 0)
least_slack r.Greater = Some (negsuc 0)

abbrev pub bounds_of : LeftCon → List Bound
bounds_of con = bounds_between con.left con.right con.plus (most_slack con.rel) ++ bounds_between con.right con.left (pos 0 -ℤ con.plus) (least_slack con.rel)

-- the known times of the condition are not too late, and it shifts them by no more than may be
pub record IsShort (con : LeftCon) : Type 0 where
  pub left : shift_of con.left ≤ 1000000
  pub right : shift_of con.right ≤ 1000000
  pub low : negsuc 999999 ≤ℤ con.plus
  pub high : con.plus ≤ℤ pos 1000000

abbrev pub IsSlack : ℤ → Type 0
IsSlack slack = (negsuc 0 ≤ℤ slack) × (slack ≤ℤ pos 0)

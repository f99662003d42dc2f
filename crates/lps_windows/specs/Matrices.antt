-- Matrices of the tightest known bounds between rows, and how they are closed under sums. All times are taken to be at most a
-- horizon, which no condition reaches.
use Rattle.std.specs.Prelude.{◌≡◌, ℕ, ◌+◌, ◌*◌, ◌/◌, ◌%◌, ◌<◌, ◌≤◌, ℤ, pos, negsuc, ◌+ℤ◌, ◌≤ℤ◌, ◌<ℤ◌, ◌⊎◌, List, All, length, slice_index_or, slice_set}
use Rattle.lps_windows.specs.declared.bound.Bound.{Bound}
use Rattle.lps_windows.specs.Bounds.{IsSolution}

abbrev pub horizon : ℕ
horizon = 1000000000000000

-- below this number no bound can be while there is a solution
abbrev pub lowest : ℤ
lowest = negsuc 999999999999999

-- no time of a row is past the horizon
pub record IsLowSolution (size : ℕ) (bounds : List Bound) (y : ℕ → ℕ) : Type 0 where
  pub solution : IsSolution bounds y
  pub high : (i : ℕ) → i < size → y i ≤ horizon

abbrev pub HaveNoLowSolution : ℕ → List Bound → Type 0
HaveNoLowSolution size bounds = (y : ℕ → ℕ) → IsLowSolution size bounds y → ⊥

-- ---- matrices

abbrev pub Matrix : Type 0
Matrix = ℕ → ℕ → ℤ

abbrev pub entry : ℕ → List ℤ → Matrix
entry size numbers row column = slice_index_or numbers (row * size + column) (pos 0)

pub record IsBounded (size : ℕ) (m : Matrix) : Type 0 where
  pub low : (i j : ℕ) → i < size → j < size → lowest ≤ℤ m i j
  pub high : (i j : ℕ) → i < size → j < size → m i j ≤ℤ pos horizon
  pub diagonal : (i : ℕ) → i < size → pos 0 ≤ℤ m i i
  pub own : (i : ℕ) → i < size → m i i ≤ℤ pos 0
  pub natural : (j : ℕ) → j < size → m 0 j ≤ℤ pos 0

-- each entry follows from the bounds
abbrev pub IsImplied : ℕ → List Bound → Matrix → Type 0
IsImplied size bounds m = (y : ℕ → ℕ) → IsLowSolution size bounds y → (i j : ℕ) → i < size → j < size → pos (y i) ≤ℤ (pos (y j) +ℤ m i j)

-- an entry is at most a bound
abbrev pub IsAtMost : Matrix → Bound → Type 0
IsAtMost m bound = m bound.row bound.column ≤ℤ bound.most

-- the triangle law holds through the first rows
abbrev pub IsClosed : ℕ → ℕ → Matrix → Type 0
IsClosed size count m = (i j k : ℕ) → i < size → j < size → k < count → m i j ≤ℤ (m i k +ℤ m k j)

-- a matrix of bounds, at most some of them
pub record IsMatrix (size : ℕ) (bounds some : List Bound) (m : Matrix) : Type 0 where
  pub bounded : IsBounded size m
  pub implied : IsImplied size bounds m
  pub most : All (IsAtMost m) some

-- ---- lists of entries, row by row

-- each number of a list is as its place asks
abbrev pub IsFilled : (ℕ → ℤ → Type 0) → List ℤ → Type 0
IsFilled P numbers = (p : ℕ) → p < length numbers → P p (slice_index_or numbers p (pos 0))

-- the same by rows and columns
abbrev pub IsFilledBy : ℕ → (ℕ → ℕ → ℤ → Type 0) → List ℤ → Type 0
IsFilledBy size P numbers = IsFilled (λ p v. P (p / size) (p % size) v) numbers

-- ---- before any bound

pub record IsFirst (i j : ℕ) (v : ℤ) : Type 0 where
  pub low : pos 0 ≤ℤ v
  pub high : v ≤ℤ pos horizon
  pub own : i ≡ j → v ≡ pos 0
  pub natural : i ≡ 0 → v ≡ pos 0
  pub is : (i ≡ j) ⊎ ((i ≡ 0) ⊎ (v ≡ pos horizon))

pub record IsStart (size : ℕ) (numbers : List ℤ) : Type 0 where
  pub count : length numbers ≡ size * size
  pub first : IsFilledBy size IsFirst numbers

-- ---- one bound more

-- a time is bounded below itself
abbrev pub IsImpossible : Bound → Type 0
IsImpossible bound = (bound.row ≡ bound.column) × (bound.most <ℤ pos 0)

-- one number became no larger than another
pub record IsLowered (old : List ℤ) (place : ℕ) (most : ℤ) (new : List ℤ) : Type 0 where
  pub most_of : slice_index_or new place (pos 0) ≤ℤ most
  pub before : slice_index_or new place (pos 0) ≤ℤ slice_index_or old place (pos 0)
  pub is : (new ≡ old) ⊎ (new ≡ slice_set old place most)

-- the matrix with one bound more
pub record IsTightened (size : ℕ) (old : Matrix) (bound : Bound) (new : Matrix) : Type 0 where
  pub before : (i j : ℕ) → i < size → j < size → new i j ≤ℤ old i j
  pub most : new bound.row bound.column ≤ℤ bound.most
  pub is : (i j : ℕ) → i < size → j < size → (new i j ≡ old i j) ⊎ ((i ≡ bound.row) × (j ≡ bound.column) × (new i j ≡ bound.most))

-- a matrix of bounds, at most some of them, as a list
pub record IsBegun (size : ℕ) (bounds some : List Bound) (numbers : List ℤ) : Type 0 where
  pub count : length numbers ≡ size * size
  pub matrix : IsMatrix size bounds some (entry size numbers)

-- ---- one row more

-- a number is the lesser of an entry and the way through a row
pub record IsLesser (m : Matrix) (k i j : ℕ) (v : ℤ) : Type 0 where
  pub low : lowest ≤ℤ v
  pub diagonal : i ≡ j → pos 0 ≤ℤ v
  pub before : v ≤ℤ m i j
  pub through : v ≤ℤ (m i k +ℤ m k j)
  pub is : (v ≡ m i j) ⊎ (v ≡ m i k +ℤ m k j)

-- no solution allows that one row is at most another and this number
abbrev pub IsContradiction : ℤ → ℕ → ℕ → Type 0
IsContradiction through i j = (through <ℤ lowest) ⊎ ((i ≡ j) × (through <ℤ pos 0))

abbrev pub Breaks : Matrix → ℕ → ℕ → ℕ → Type 0
Breaks m k i j = IsContradiction (m i k +ℤ m k j) i j

pub record IsBroken (size : ℕ) (m : Matrix) (k : ℕ) : Type 0 where
  pub i : ℕ
  pub j : ℕ
  pub row : i < size
  pub column : j < size
  pub breaks : Breaks m k i j

pub record IsPassed (size : ℕ) (m : Matrix) (k : ℕ) (numbers : List ℤ) : Type 0 where
  pub count : length numbers ≡ size * size
  pub passed : IsFilledBy size (IsLesser m k) numbers

-- a matrix at most all bounds, closed through the first rows
pub record IsReady (size : ℕ) (bounds : List Bound) (through : ℕ) (numbers : List ℤ) : Type 0 where
  pub count : length numbers ≡ size * size
  pub matrix : IsMatrix size bounds bounds (entry size numbers)
  pub closed : IsClosed size through (entry size numbers)

-- ---- what a closed matrix says of one row

-- how far a row lies above the first is between two numbers, of which the first is no larger
pub record IsEnded (size : ℕ) (m : Matrix) : Type 0 where
  pub first : (i : ℕ) → i < size → (lowest ≤ℤ m 0 i) × (m 0 i ≤ℤ pos 0)
  pub last : (i : ℕ) → i < size → (pos 0 ≤ℤ (m 0 i +ℤ m i 0)) × (m i 0 ≤ℤ pos horizon)

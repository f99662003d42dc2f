-- The times that a time can have under time conditions.
use Rattle.std.specs.Prelude.{◌≡◌, ◌≤◌, ◌<◌, ◌↔◌, ◌≤ℤ◌, ℕ, negsuc, List, MatchOption, ⊤}
use Rattle.std.specs.List.{AllByRecursion}
use Rattle.lps_meaning.specs.declared.node.LeftCon.{LeftCon}
use Rattle.lps_meaning.specs.declared.when.When.{When}
use Rattle.lps_meaning.specs.declared.when.When.TheVariants.{Known, Unknown}
use Rattle.lps_nodes.specs.Conditions.{IsLeftLimit, time_in}
use Rattle.lps_windows.specs.declared.TheConstants.{GREATEST_SHIFT, GREATEST_TIME}
use Rattle.lps_windows.specs.declared.window.Window.{Window}

-- with x of each unknown time in its place, the conditions are true
abbrev pub Solves : List LeftCon → (ℕ → ℕ) → Type 0
Solves conditions x = AllByRecursion (IsLeftLimit x) conditions

abbrev pub HaveNoSolution : List LeftCon → Type 0
HaveNoSolution conditions = (x : ℕ → ℕ) → Solves conditions x → ⊥

-- a solution of the conditions gives a time this value
abbrev pub CanBe : List LeftCon → When → ℕ → Type 0
CanBe conditions time value = (x : ℕ → ℕ) × Solves conditions x × (time_in x time ≡ value)

-- a time lies in a window
abbrev pub IsIn : Window → ℕ → Type 0
IsIn window time = (window.first ≤ time) × MatchOption window.last ⊤ (λ last. time ≤ last)

-- a time, or one after it, lies in a window
abbrev pub IsOpenFrom : Window → ℕ → Type 0
IsOpenFrom window time = (later : ℕ) × (time ≤ later) × IsIn window later

-- exactly the times in the window are values of a time in solutions, and there is one
pub record IsWindow (conditions : List LeftCon) (time : When) (window : Window) : Type 0 where
  pub some : IsIn window window.first
  pub exact : (value : ℕ) → IsIn window value ↔ CanBe conditions time value

-- ---- limits

-- a known time is not too late, and an unknown one has a number below this one
abbrev pub IsTime : ℕ → When → Type 0
IsTime unknowns (Known n) = n ≤ GREATEST_TIME
IsTime unknowns (Unknown k) = k < unknowns

-- the times of a condition are such, and it shifts them by no more than may be
pub record IsWithin (unknowns : ℕ) (condition : LeftCon) : Type 0 where
  pub left : IsTime unknowns condition.left
  pub right : IsTime unknowns condition.right
  pub low : negsuc 999999 ≤ℤ condition.plus
  pub high : condition.plus ≤ℤ GREATEST_SHIFT

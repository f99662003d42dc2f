-- The laws of levels and cycles.
use Rattle.std.specs.Prelude.{◌≡◌, ℕ, List}
use Rattle.lps_model.specs.Calls.{Call}
use Rattle.lps_model.specs.Levels.{AreCallLevels, IsStrictCycle}

-- calls that have levels have no strict cycle
abbrev pub LevelsExcludeCycles : Type 0
LevelsExcludeCycles = (calls : List Call) (level : List ℕ → ℕ) (cycle : List (List ℕ)) → AreCallLevels calls level → IsStrictCycle calls cycle → ⊥

-- calls have one cycle for which they are refused
abbrev pub CyclesAreUnique : Type 0
CyclesAreUnique = (calls : List Call) (one other : List (List ℕ)) → IsStrictCycle calls one → IsStrictCycle calls other → one ≡ other

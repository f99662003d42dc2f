-- What `levels` answers.
use Rattle.std.specs.Prelude.{◌≡◌, ℕ, ◌<◌, List, Some, length, is_some, slice_index, take}
use Rattle.std.specs.List.{list_any}
use Rattle.std.specs.Map.{lookup}
use Rattle.std.specs.Str.{bytes_eq}
use Rattle.lps_terms.specs.declared.refused.Refused.TheVariants as r
use Rattle.lps_terms.specs.declared.text.Text.{Text}
use Rattle.lps_model.specs.Levels.{IsUnlevelled}
use Rattle.lps_model.specs.declared.judge_error.JudgeError.{JudgeError}
use Rattle.lps_model.specs.declared.judge_error.JudgeError.TheVariants.{NoMemory, Refused}
use Rattle.lps_levels.specs.Graphs.{name_at}

-- a refusal is for the cycle of the text; nothing is said where memory ran out
abbrev pub IsRightError : Text → JudgeError → Type 0
IsRightError text NoMemory = Unit {0}
IsRightError text (Refused (r.Unlevelled cycle)) = IsUnlevelled text cycle
IsRightError text (Refused refused) = ⊥

abbrev pub IsNoMemory : JudgeError → Type 0
IsNoMemory error = error ≡ NoMemory

-- a table has the first levels, each for its name
pub record AreInTableTo (count : ℕ) (names : List (List ℕ)) (levels : List ℕ) (table : List (List ℕ × ℕ)) : Type 0 where
  pub at_name : (number : ℕ) → number < count → lookup (bytes_eq (name_at names number)) table ≡ Some (slice_index levels number)
  pub members : (name : List ℕ) → is_some (lookup (bytes_eq name) table) ≡ list_any (bytes_eq name) (take count names)

abbrev pub AreInTable : List (List ℕ) → List ℕ → List (List ℕ × ℕ) → Type 0
AreInTable names levels table = AreInTableTo (length names) names levels table

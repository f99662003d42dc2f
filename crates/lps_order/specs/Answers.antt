-- What `ordered` answers.
use Rattle.std.specs.Prelude.{◌≡◌, ℕ, List, Option, Some}
use Rattle.lps_terms.specs.declared.kind.Kind.{Kind}
use Rattle.lps_terms.specs.declared.statement.Statement.{Statement}
use Rattle.lps_model.specs.Order.{order_refusal}
use Rattle.lps_model.specs.declared.judge_error.JudgeError.{JudgeError}
use Rattle.lps_model.specs.declared.judge_error.JudgeError.TheVariants.{NoMemory, Refused}

-- a refusal is that of the statements; nothing is said where memory ran out
abbrev pub IsRightError : (List ℕ → Option Kind) → List Statement → JudgeError → Type 0
IsRightError kind statements NoMemory = Unit {0}
IsRightError kind statements (Refused refused) = order_refusal kind statements ≡ Some refused

-- What `accept` answers.
use Rattle.lps_terms.specs.declared.text.Text.{Text}
use Rattle.lps_model.specs.Acceptance.{IsRefusedFor}
use Rattle.lps_model.specs.declared.judge_error.JudgeError.{JudgeError}
use Rattle.lps_model.specs.declared.judge_error.JudgeError.TheVariants.{NoMemory, Refused}

-- a refusal is that of the text; nothing is said where memory ran out
abbrev pub IsRightError : Text → JudgeError → Type 0
IsRightError text NoMemory = Unit {0}
IsRightError text (Refused refused) = IsRefusedFor text refused

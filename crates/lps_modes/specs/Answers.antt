-- What it says of a text that each variable is known where it must be, or that one is not.
use Rattle.std.specs.Prelude.{◌≡◌, Some}
use Rattle.lps_terms.specs.declared.text.Text.{Text}
use Rattle.lps_model.specs.declared.judge_error.JudgeError.{JudgeError}
use Rattle.lps_model.specs.declared.judge_error.JudgeError.TheVariants as e
use Rattle.lps_model.specs.Known.{unknown_of}

-- the refusal is that of the first unknown variable; nothing is said where memory ran out
abbrev pub IsFirstUnknown : Text → JudgeError → Type 0
IsFirstUnknown text (e.Refused refused) = unknown_of text ≡ Some refused
IsFirstUnknown text e.NoMemory = Unit {0}

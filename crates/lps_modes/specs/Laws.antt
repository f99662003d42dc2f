-- The laws of known variables.
use Rattle.std.specs.Prelude.{ℕ, ◌≡◌, ◌↔◌, true, List, ◌||◌, None}
use Rattle.lps_model.specs.Known.{are_known, is_known, learnt, unknown_among}

-- after some variables are learnt, exactly those are known that were known before and those that were learnt
abbrev pub LearningIsUnion : Type 0
LearningIsUnion = (known vars : List ℕ) (v : ℕ) → is_known (learnt known vars) v ≡ (is_known known v || is_known vars v)

-- no variable is unknown exactly where all are known
abbrev pub NoneIsUnknown : Type 0
NoneIsUnknown = (names : List (List ℕ)) (known vars : List ℕ) → (unknown_among names known vars ≡ None) ↔ (are_known known vars ≡ true)

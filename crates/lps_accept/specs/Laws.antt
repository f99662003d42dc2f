-- The laws of acceptance.
use Rattle.std.specs.Prelude.{◌≡◌}
use Rattle.lps_terms.specs.declared.refused.Refused.{Refused}
use Rattle.lps_terms.specs.declared.text.Text.{Text}
use Rattle.lps_model.specs.Acceptance.{IsAccepted, IsRefusedFor}

-- an accepted text is refused for nothing
abbrev pub AcceptedAreNotRefused : Type 0
AcceptedAreNotRefused = (text : Text) (refused : Refused) → IsAccepted text → IsRefusedFor text refused → ⊥

-- a text is refused for one thing
abbrev pub RefusalsAreUnique : Type 0
RefusalsAreUnique = (text : Text) (one other : Refused) → IsRefusedFor text one → IsRefusedFor text other → one ≡ other

-- What holds of what waits over any trace.
use Rattle.std.specs.Prelude.{ℕ, List}
use Rattle.lps_terms.specs.declared.text.Text.{Text}
use Rattle.lps_model.specs.declared.trace.Trace.{Trace}
use Rattle.lps_model.specs.Acceptance.{IsAccepted}
use Rattle.lps_nodes.specs.LedLaws.{AgreeUpTo}
use Rattle.lps_antecedents.specs.declared.held.Held.{Held}
use Rattle.lps_antecedents.specs.Waiting.{StandsFor}

-- What waits in an accepted text, and stands for a trace at a time, stands for each other that agrees with it up to then.
abbrev pub StandsForPrefixes : Type 0
StandsForPrefixes = (text : Text) → IsAccepted text → (level : List ℕ → ℕ) (now : ℕ) (trace other : Trace) → AgreeUpTo now trace other → (held : List Held) →
    StandsFor text level trace now held → StandsFor text level other now held

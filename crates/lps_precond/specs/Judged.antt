-- What is answered of events.
use Rattle.std.specs.Prelude.{◌≡◌, ◌≤◌, ◌<◌, ℕ, suc, List, Option, Some, None}
use Rattle.lps_terms.specs.declared.atom.Atom.{Atom}
use Rattle.lps_terms.specs.declared.text.Text.{Text}
use Rattle.lps_model.specs.declared.trace.Trace.{Trace}
use Rattle.lps_model.specs.Clauses.{Clause}
use Rattle.lps_meaning.specs.Denials.{IsLeastViolated, ViolatesNone}
use Rattle.lps_model.specs.Rules.{numbered}
use Rattle.lps_precond.specs.Cut.{Cut}
use Rattle.lps_precond.specs.Stages.{IsViolated}

-- The least number of a denial that the events violate, where they would come after the trace; or none where they violate
-- none.
abbrev pub IsJudged : Text → (List ℕ → ℕ) → Trace → List Atom → Option ℕ → Type 0
IsJudged text level trace events None = ViolatesNone text level trace events
IsJudged text level trace events (Some k) = IsLeastViolated text level trace events k

-- ---- the same over events and over facts before and after

module _ (program : List Clause) (events before after : List Atom) (level : List ℕ → ℕ) (denials : List Cut) where
  -- denial number k is violated
  abbrev pub IsViolatedNumber : ℕ → Type 0
  IsViolatedNumber k = (denial : Cut) × (numbered denials k ≡ Some denial) × IsViolated program events before after level denial

  -- no denial is, or k is the least number of one that is
  abbrev pub IsLeast : Option ℕ → Type 0
  IsLeast None = (k : ℕ) → IsViolatedNumber k → ⊥
  IsLeast (Some k) = IsViolatedNumber k × ((j : ℕ) → j < k → IsViolatedNumber j → ⊥)

-- a number was found, and it is at most k
abbrev pub IsUpTo : Option ℕ → ℕ → Type 0
IsUpTo None k = ⊥
IsUpTo (Some n) k = n ≤ k

module _ (program : List Clause) (events before after : List Atom) (level : List ℕ → ℕ) (denials : List Cut) where
  -- what was found is the number of a denial that is violated
  abbrev pub IsTruthful : Option ℕ → Type 0
  IsTruthful None = Unit {0}
  IsTruthful (Some k) = IsViolatedNumber program events before after level denials k

  -- The number found is that of a violated denial, where the one that was found before is; it is at most that one, and at most the
  -- numbers at these places.
  pub record IsLessened (P : ℕ → Type 0) (old found : Option ℕ) : Type 0 where
    pub truthful : IsTruthful old → IsTruthful found
    pub kept : (k : ℕ) → IsUpTo old k → IsUpTo found k
    pub each : (place : ℕ) → P place → IsUpTo found (suc place)

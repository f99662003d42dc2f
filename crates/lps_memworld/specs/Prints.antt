-- A print that is kept in memory.
use Rattle.std.specs.Prelude.{◌≡◌, ℕ, ◌+◌, ◌/◌, ◌<◌, List, ◌++◌, length, take, Result, MatchBool, MatchResult, IsErr, ◌⊎◌}
use Rattle.lps_memworld.specs.Calls.{Calls, fails_next}

-- what was printed, how many bytes fit without more memory, and the calls to print
pub record FailingPrint : Type 0 where
  pub printed : List ℕ
  pub room : ℕ
  pub calls : Calls

-- these bytes were added
abbrev pub Adds : FailingPrint → List ℕ → FailingPrint → Type 0
Adds before bytes after = after.printed ≡ before.printed ++ bytes

-- nothing was added, since there was no room for these bytes
abbrev pub Refuses : FailingPrint → List ℕ → FailingPrint → Type 0
Refuses before bytes after = (before.room < length before.printed + length bytes) × (after.printed ≡ before.printed)

-- these bytes were added, or nothing since there was no room for them
abbrev pub AddsOrRefuses : FailingPrint → List ℕ → FailingPrint → Type 0
AddsOrRefuses before bytes after = Adds before bytes after ⊎ Refuses before bytes after

-- a call that is to fail adds the first half of the bytes, and another adds them all; where memory is refused for
-- them, either fails and adds nothing
abbrev pub Prints : {T E : Type 0} → FailingPrint → List ℕ → FailingPrint → Result T E → Type 0
Prints before bytes after result = MatchBool (fails_next before.calls)
    (IsErr result × AddsOrRefuses before (take (length bytes / 2) bytes) after)
    (MatchResult result (λ _. Adds before bytes after) (λ _. Refuses before bytes after))

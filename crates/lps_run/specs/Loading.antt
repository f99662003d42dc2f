-- The bytes of a text, read piece by piece.
use Rattle.std.specs.Prelude.{◌≡◌, ℕ, ◌<◌, List, [], ◌++◌, length, Result, Ok, Err}
use Rattle.lps_outside.specs.Causes.{Rose}
use Rattle.lps_run.specs.declared.loading.LoadError.{LoadError}
use Rattle.lps_run.specs.declared.loading.LoadError.TheVariants.{NoMemory, TooLong, Fault}

-- the bytes are a front of the text, and where no more came, all of it
pub record IsMore (all bytes : List ℕ) (count : ℕ) : Type 0 where
  pub rest : List ℕ
  pub whole : all ≡ bytes ++ rest
  pub ended : count ≡ 0 → rest ≡ []

-- too long only where the text is
abbrev pub FailsOnlyLong : List ℕ → LoadError → Type 0
FailsOnlyLong all NoMemory = Unit {0}
FailsOnlyLong all TooLong = 1048576 < length all
FailsOnlyLong all Fault = Unit {0}

-- the count of faults rose exactly at a fault
abbrev pub LoadCounted : {T : Type 0} → Result T LoadError → ℕ → ℕ → Type 0
LoadCounted (Ok x) before now = now ≡ before
LoadCounted (Err NoMemory) before now = now ≡ before
LoadCounted (Err TooLong) before now = now ≡ before
LoadCounted (Err Fault) before now = Rose before now

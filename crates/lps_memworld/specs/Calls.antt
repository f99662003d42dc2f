-- Calls that are numbered from 1, some of which fail.
use Rattle.std.specs.Prelude.{ℕ, ◌+◌, ◌-◌, ◌^◌, ◌==◌, min, Bool, if◌then◌else◌, List}
use Rattle.std.specs.List.{list_any}

-- the numbers of the calls that are to fail, how many calls were made, and how many of them failed
pub record Calls : Type 0 where
  pub fails : List ℕ
  pub made : ℕ
  pub faults : ℕ

-- one more, in a count that stays at the greatest number of 64 bits
abbrev pub one_more : ℕ → ℕ
one_more count = min (count + 1) (2 ^ 64 - 1)

-- before the first call
abbrev pub no_calls : List ℕ → Calls
no_calls fails = record { fails = fails; made = 0; faults = 0 }

-- whether the next call is to fail
abbrev pub fails_next : Calls → Bool
fails_next calls = list_any (λ number. number == one_more calls.made) calls.fails

-- after one more call, which failed or did not
abbrev pub counted : Calls → Bool → Calls
counted calls failed = record {
  fails = calls.fails;
  made = one_more calls.made;
  faults = if failed then one_more calls.faults else calls.faults;
}

-- with one more failure, and no further call
abbrev pub raised : Calls → Calls
raised calls = record { fails = calls.fails; made = calls.made; faults = one_more calls.faults }

-- A window with a first time has one from a time on exactly where its last, if there is one, is no earlier.
use Rattle.std.proofs.Common.{◌≡◌, ℕ, ◌+◌, ◌≤◌, sym, subst, arith}
use Rattle.std.specs.Prelude.{Option, Some, None, MatchOption, ⊤}

pub still_open : (first time : ℕ) (last : Option ℕ) → MatchOption last ⊤ (λ n. first ≤ n) → MatchOption last ⊤ (λ n. time ≤ n) → (later : ℕ) × (time ≤ later) × ((first ≤ later) × MatchOption last ⊤ (λ n. later ≤ n))
still_open first time None some upto = (time + first, omega arith, (omega arith, tt))
still_open first time (Some n) some upto = (n, upto, (some, omega arith))

pub no_last : (time : ℕ) (last : Option ℕ) → last ≡ None → MatchOption last ⊤ (λ n. time ≤ n)
no_last time last e = let P : Option ℕ → Type 0 = λ found. MatchOption found ⊤ (λ n. time ≤ n) in subst P (sym e) tt

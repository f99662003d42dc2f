-- Values of digits.
use Rattle.std.specs.Prelude.{ℕ, ◌≡◌, ◌+◌, ◌*◌, ◌-◌, ◌^◌, ◌<◌, ◌≤◌, List, [], ◌∷◌, nat_le, if◌then◌else◌, Some, None}
use Rattle.std.proofs.Common.{arith}
use Rattle.std.proofs.lemmas.Bool.Decides.{nat_tests}
use Rattle.lps_lex.specs.Piece.{value_onto}

-- a value only grows
pub value_onto-grows : (digits : List ℕ) (value : ℕ) → value ≤ value_onto value digits
value_onto-grows [] value = omega arith
value_onto-grows (digit ∷ digits) value = omega (arith, value_onto-grows digits (10 * value + (digit - 48)))

none_above : (value : ℕ) → 2 ^ 63 < value → None ≡ (if nat_le value (2 ^ 63) then Some value else None)
none_above value above = grind (arith, nat_tests)

-- digits that begin with too large a value have too large a value
pub none_of : (value front : ℕ) (rest : List ℕ) → value ≡ value_onto front rest → 2 ^ 63 < front → None ≡ (if nat_le value (2 ^ 63) then Some value else None)
none_of value front rest read above = none_above value (omega (arith, value_onto-grows rest front))

-- Division of integers that rounds toward negative infinity, and what it leaves.
use Rattle.std.specs.Prelude.{ℕ, ℤ, pos, negsuc, suc, ◌/◌, ◌-ℤ◌, ◌*ℤ◌, neg_ℤ, ◌≤ℤ◌, ◌<ℤ◌, Bool, int_lt, ◌&&◌, ◌||◌}

-- an integer divided by a natural number, rounded toward negative infinity
abbrev pub divided_by : ℤ → ℕ → ℤ
divided_by (pos a) n = pos (a / n)
divided_by (negsuc a) n = negsuc (a / n)

-- the quotient of two integers: by a divisor below 0 that of their contraries
abbrev pub quotient : ℤ → ℤ → ℤ
quotient a (pos b) = divided_by a b
quotient a (negsuc b) = divided_by (neg_ℤ a) (suc b)

-- what this quotient leaves of the dividend
abbrev pub remainder : ℤ → ℤ → ℤ
remainder a b = a -ℤ b *ℤ quotient a b

-- a number, the second, lies between 0 and a divisor, and is not the divisor itself
abbrev pub LiesFromZeroTo : ℤ → ℤ → Type 0
LiesFromZeroTo (pos b) r = (pos 0 ≤ℤ r) × (r <ℤ pos b)
LiesFromZeroTo (negsuc b) r = (negsuc b <ℤ r) × (r ≤ℤ pos 0)

-- whether two integers lie on different sides of 0
abbrev pub is_opposite : ℤ → ℤ → Bool
is_opposite a b = int_lt a (pos 0) && int_lt (pos 0) b || int_lt (pos 0) a && int_lt b (pos 0)

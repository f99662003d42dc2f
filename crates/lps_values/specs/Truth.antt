-- Whether a built-in is true.
use Rattle.std.specs.Prelude.{ℤ, Bool, false, not, Option, Some, None, int_lt, int_le, ◌<ℤ◌, ◌≤ℤ◌}
use Rattle.std.specs.Ordering.{int_eq}
use Rattle.lps_terms.specs.declared.rel.Rel.{Rel}
use Rattle.lps_terms.specs.declared.rel.Rel.TheVariants.{Less, AtMost, Greater, AtLeast}
use Rattle.lps_terms.specs.declared.built.Built.{Built}
use Rattle.lps_terms.specs.declared.built.Built.TheVariants.{Same, Differ, Is, Compare}
use Rattle.lps_terms.specs.declared.term.Term.{Term}
use Rattle.lps_terms.specs.declared.term.Term.TheVariants.{Int}
use Rattle.lps_terms.specs.Order.{term_eq}
use Rattle.lps_values.specs.Values.{value_of}

-- two integers compare so
abbrev pub Compares : Rel → ℤ → ℤ → Type 0
Compares Less x y = x <ℤ y
Compares AtMost x y = x ≤ℤ y
Compares Greater x y = y <ℤ x
Compares AtLeast x y = y ≤ℤ x

-- whether they do
abbrev pub compares : Rel → ℤ → ℤ → Bool
compares Less x y = int_lt x y
compares AtMost x y = int_le x y
compares Greater x y = int_lt y x
compares AtLeast x y = int_le y x

-- whether two values compare so: never where one of them is missing
abbrev pub compare_values : Rel → Option ℤ → Option ℤ → Bool
compare_values rel (Some x) (Some y) = compares rel x y
compare_values rel (Some x) None = false
compare_values rel None right = false

-- whether a term is the integer that is the value
abbrev pub is_value : Term → Option ℤ → Bool
is_value (Int n) (Some z) = int_eq n z
is_value _ _ = false

-- whether a built-in is true
abbrev pub is_true : Built → Bool
is_true (Same x y) = term_eq x y
is_true (Differ x y) = not (term_eq x y)
is_true (Is x e) = is_value x (value_of e)
is_true (Compare rel left right) = compare_values rel (value_of left) (value_of right)

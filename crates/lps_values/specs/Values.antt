-- The value of an expression: the integer that it stands for, where it has one.
use Rattle.std.specs.Prelude.{ℤ, pos, negsuc, zero, suc, Option, Some, None, if◌then◌else◌, ◌≡◌, ◌+ℤ◌, ◌-ℤ◌, ◌*ℤ◌}
use Rattle.std.proofs.Common.{◌∙◌, sym, ap}
use Rattle.lps_terms.specs.declared.op.Op.{Op}
use Rattle.lps_terms.specs.declared.op.Op.TheVariants.{Add, Sub, Mul, Div, Mod}
use Rattle.lps_terms.specs.declared.term.Term.{Term}
use Rattle.lps_terms.specs.declared.term.Term.TheVariants.{Int}
use Rattle.lps_terms.specs.declared.expr.Expr.{Expr}
use Rattle.lps_terms.specs.declared.expr.Expr.TheVariants as e
use Rattle.lps_terms.specs.declared.expr.Expr.TheOpen.{Expr-F}
use Rattle.lps_terms.specs.declared.expr.Expr.TheFolds.{fold-Expr, fold-roll-Expr}
use Rattle.lps_terms.specs.Integers.{is_i64}
use Rattle.lps_values.specs.Division.{quotient, remainder}

-- an integer, where it is an `i64`
abbrev pub in_i64 : ℤ → Option ℤ
in_i64 z = if is_i64 z then Some z else None

-- what a division gives, where its divisor is not 0
abbrev pub unless_zero : ℤ → Option ℤ → Option ℤ
unless_zero (pos zero) value = None
unless_zero (pos (suc b)) value = value
unless_zero (negsuc b) value = value

-- the quotient, where the divisor is not 0 and the quotient is an `i64`
abbrev pub divided : ℤ → ℤ → Option ℤ
divided a b = unless_zero b (in_i64 (quotient a b))

-- the remainder, where the divisor is not 0; it always is an `i64` where the divisor is one
abbrev pub left_over : ℤ → ℤ → Option ℤ
left_over a b = unless_zero b (in_i64 (remainder a b))

-- the value of an operation on two integers
abbrev pub applied : Op → ℤ → ℤ → Option ℤ
applied Add x y = in_i64 (x +ℤ y)
applied Sub x y = in_i64 (x -ℤ y)
applied Mul x y = in_i64 (x *ℤ y)
applied Div x y = divided x y
applied Mod x y = left_over x y

-- the value of a leaf: only an integer has one
abbrev pub integer_of : Term → Option ℤ
integer_of (Int z) = in_i64 z
integer_of _ = None

-- what a function gives at two values, where there are both
abbrev pub both : (ℤ → ℤ → Option ℤ) → Option ℤ → Option ℤ → Option ℤ
both f (Some x) (Some y) = f x y
both f (Some x) None = None
both f None right = None

-- the value of one form, with those of its parts in their places
abbrev pub value_step : Expr-F (Option ℤ) → Option ℤ
value_step (Expr-F.Leaf x) = integer_of x
value_step (Expr-F.Apply op left right) = both (applied op) left right

-- the value of an expression
abbrev pub value_of : Expr → Option ℤ
value_of = fold-Expr (Option ℤ) value_step

-- the value of a leaf, and of an operation
pub value_of-Leaf : (x : Term) → value_of (e.Leaf x) ≡ integer_of x
value_of-Leaf x = ap value_of (sym (e.rolls-Leaf x)) ∙ fold-roll-Expr (Option ℤ) value_step _

pub value_of-Apply : (op : Op) (left right : Expr) → value_of (e.Apply op left right) ≡ both (applied op) (value_of left) (value_of right)
value_of-Apply op left right = ap value_of (sym (e.rolls-Apply op left right)) ∙ fold-roll-Expr (Option ℤ) value_step _

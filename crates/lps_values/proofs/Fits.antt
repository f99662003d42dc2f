-- Each value of an expression is an `i64`.
use Rattle.std.specs.Prelude.{zero, suc, ◌+ℤ◌, ◌-ℤ◌, ◌*ℤ◌, ℤ, pos, negsuc, ◌≡◌, Option, Some, None, FitsSigned}
use Rattle.std.specs.Int.{w64}
use Rattle.std.proofs.Common.{◌∙◌, sym, arith}
use Rattle.std.proofs.lemmas.Bool.Decides.{nat_tests}
use Rattle.std.proofs.lemmas.Int.{ints}
use Rattle.lps_terms.specs.declared.op.Op.TheVariants.{Add, Sub, Mul, Div, Mod}
use Rattle.lps_terms.specs.declared.op.Op.{Op}
use Rattle.lps_terms.specs.declared.term.Term.{Term, App'}
use Rattle.lps_terms.specs.declared.term.Term.TheVariants.{Int, Sym, Var}
use Rattle.lps_terms.specs.declared.expr.Expr as ex
use Rattle.lps_terms.specs.declared.expr.Expr.{Expr}
use Rattle.lps_terms.specs.declared.expr.Expr.TheOpen.{Expr-F}
use Rattle.lps_terms.specs.declared.expr.Expr.TheFolds.{fold-roll-Expr, ind-Expr}
use Rattle.lps_values.specs.Division.{quotient, remainder}
use Rattle.lps_values.specs.Values.{in_i64, unless_zero, applied, integer_of, value_step, value_of}

-- what is given, where something is, is an `i64`
abbrev GivesI64 : Option ℤ → Type 0
GivesI64 given = (z : ℤ) → given ≡ Some z → FitsSigned w64 z

range_gives : (y : ℤ) → GivesI64 (in_i64 y)
range_gives (pos n) z e = grind (arith, ints, nat_tests)
range_gives (negsuc n) z e = grind (arith, ints, nat_tests)

none_gives : GivesI64 None
none_gives z e = absurd (cc)

unless_gives : (b y : ℤ) → GivesI64 (unless_zero b (in_i64 y))
unless_gives (pos zero) y = none_gives
unless_gives (pos (suc b)) y = range_gives y
unless_gives (negsuc b) y = range_gives y

applied_gives : (op : Op) (x y : ℤ) → GivesI64 (applied op x y)
applied_gives Add x y = range_gives (x +ℤ y)
applied_gives Sub x y = range_gives (x -ℤ y)
applied_gives Mul x y = range_gives (x *ℤ y)
applied_gives Div x y = unless_gives y (quotient x y)
applied_gives Mod x y = unless_gives y (remainder x y)

leaf_gives : (x : Term) → GivesI64 (integer_of x)
leaf_gives (Int n) = range_gives n
leaf_gives (Sym n) = none_gives
leaf_gives (App' n shape row) = none_gives
leaf_gives (Var v) = none_gives

step_gives : (form : Expr-F (Option ℤ)) → GivesI64 (value_step form)
step_gives (Expr-F.Leaf x) = leaf_gives x
step_gives (Expr-F.Apply op (Some x) (Some y)) = applied_gives op x y
step_gives (Expr-F.Apply op (Some x) None) = none_gives
step_gives (Expr-F.Apply op None right) = none_gives

pub values_fit : (e : Expr) → GivesI64 (value_of e)
values_fit = ind-Expr (λ e. GivesI64 (value_of e)) (λ form parts is z given.
    step_gives (ex.map-Expr Expr (Option ℤ) value_of form) z (sym (fold-roll-Expr (Option ℤ) value_step form) ∙ given))

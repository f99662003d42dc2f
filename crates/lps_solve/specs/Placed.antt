-- Variables of a clause that stand for variables of bindings, and what the bindings make of them.
use Rattle.std.specs.Prelude.{ℕ, ◌+◌, ◌<◌, List, Option, Some, None}
use Rattle.std.specs.List.{AllByRecursion}
use Rattle.lps_terms.specs.declared.term.Term.{Term}
use Rattle.lps_terms.specs.declared.term.Term.TheVariants as t
use Rattle.lps_terms.specs.declared.expr.Expr.{Expr}
use Rattle.lps_terms.specs.declared.expr.Expr.TheVariants as e
use Rattle.lps_terms.specs.declared.op.Op.{Op}
use Rattle.lps_unify.specs.Bindings.{TrailedBindings, standing}

-- the variable of the bindings that stands for v, where the variables of a clause count from `base`
abbrev pub shift : ℕ → ℕ → Term
shift base v = t.Var (base + v)

-- what the bindings make of it
abbrev pub values_in : TrailedBindings → ℕ → ℕ → Term
values_in b base v = (standing b).value (base + v)

-- each of these, counted from `base`, is one of the first `count` variables
abbrev pub AreBelow : ℕ → ℕ → List ℕ → Type 0
AreBelow count base vars = AllByRecursion (λ v. base + v < count) vars

-- the operation on two operands, where there are both
abbrev pub applied_to : Op → Option Expr → Option Expr → Option Expr
applied_to op (Some x) (Some y) = Some (e.Apply op x y)
applied_to op (Some x) None = None
applied_to op None right = None

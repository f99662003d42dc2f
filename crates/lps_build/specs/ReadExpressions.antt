-- The expression at the front of tokens, and the tokens after it. A number bounds how many tokens are left.
use Rattle.std.specs.Prelude.{ℕ, zero, suc, List, [], ◌∷◌, Option, Some, None}
use Rattle.lps_terms.specs.declared.op.Op.{Op}
use Rattle.lps_terms.specs.declared.op.Op.TheVariants as o
use Rattle.lps_terms.specs.declared.expr.Expr.{Expr}
use Rattle.lps_terms.specs.declared.expr.Expr.TheVariants as e
use Rattle.lps_grammar.specs.declared.tok.Tok.{Tok}
use Rattle.lps_grammar.specs.declared.tok.Tok.TheVariants as k
use Rattle.lps_build.specs.ReadTerms.{leaf_in, then_in}

-- the operators of products
abbrev pub mul_op : Tok → Option Op
mul_op k.Star = Some o.Mul
mul_op k.Div = Some o.Div
mul_op k.Mod = Some o.Mod
mul_op t = None

-- the operators of sums
abbrev pub add_op : Tok → Option Op
add_op k.Plus = Some o.Add
add_op k.Minus = Some o.Sub
add_op t = None

-- the expression up to the closing parenthesis
abbrev pub close_in : Expr → List Tok → Option (Expr × List Tok)
close_in x (k.Close ∷ ts) = Some (x, ts)
close_in x ts = None

-- an expression in parentheses, or a leaf
abbrev pub unit_case : List Tok → (List Tok → Option (Expr × List Tok)) → Option (Expr × List Tok)
unit_case (k.Open ∷ ts) expr = then_in (expr ts) close_in
unit_case ts expr = then_in (leaf_in ts) (λ x us. Some (e.Leaf x, us))

-- what follows an operator, or where none stands there
abbrev pub op_case : {B : Type 0} → Option Op → B → (Op → B) → B
op_case None stop go = stop
op_case (Some op) stop go = go op

-- what follows the operator at the front, or what is before if none stands there
abbrev pub ops_case : (Tok → Option Op) → Expr → List Tok → (Op → List Tok → Option (Expr × List Tok)) → Option (Expr × List Tok)
ops_case which before [] go = Some (before, [])
ops_case which before (t ∷ ts) go = op_case (which t) (Some (before, t ∷ ts)) (λ op. go op ts)

abbrev mutual
  -- a unit
  pub unit_in : ℕ → List Tok → Option (Expr × List Tok)
  unit_in zero ts = None
  unit_in (suc d) ts = unit_case ts (λ us. then_in (then_in (unit_in d us) (λ x vs. factors_in d x vs)) (λ x vs. summands_in d x vs))

  -- factors after what is before
  pub factors_in : ℕ → Expr → List Tok → Option (Expr × List Tok)
  factors_in zero before ts = Some (before, ts)
  factors_in (suc d) before ts = ops_case mul_op before ts (λ op us. then_in (unit_in d us) (λ x vs. factors_in d (e.Apply op before x) vs))

  -- summands after what is before
  pub summands_in : ℕ → Expr → List Tok → Option (Expr × List Tok)
  summands_in zero before ts = Some (before, ts)
  summands_in (suc d) before ts =
      ops_case add_op before ts (λ op us. then_in (then_in (unit_in d us) (λ x vs. factors_in d x vs)) (λ x vs. summands_in d (e.Apply op before x) vs))

-- a product
abbrev pub prod_in : ℕ → List Tok → Option (Expr × List Tok)
prod_in d ts = then_in (unit_in d ts) (λ x us. factors_in d x us)

-- an expression
abbrev pub expr_in : ℕ → List Tok → Option (Expr × List Tok)
expr_in d ts = then_in (prod_in d ts) (λ x us. summands_in d x us)

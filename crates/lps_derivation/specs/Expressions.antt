-- Expressions: terms put in for their variables, and how many symbols they have. Each operator counts one.
use Rattle.std.specs.Prelude.{ℕ, ◌+◌, ◌≡◌}
use Rattle.std.proofs.Common.{◌∙◌, sym, ap, subst}
use Rattle.lps_terms.specs.declared.expr.Expr as ex
use Rattle.lps_terms.specs.declared.expr.Expr.{Expr}
use Rattle.lps_terms.specs.declared.expr.Expr.TheVariants as e
use Rattle.lps_terms.specs.declared.expr.Expr.TheOpen.{Expr-F}
use Rattle.lps_terms.specs.declared.expr.Expr.TheFolds.{fold-Expr, fold-roll-Expr, ind-Expr}
use Rattle.lps_terms.specs.declared.op.Op.{Op}
use Rattle.lps_terms.specs.declared.term.Term.{Term}
use Rattle.lps_terms.specs.Put.{put}
use Rattle.lps_terms.specs.Symbols.{symbols_of}

-- one form of an expression, with what was put into each operand in its place
abbrev pub put_expr_step : (ℕ → Term) → Expr-F Expr → Expr
put_expr_step s (Expr-F.Leaf x) = e.Leaf (put s x)
put_expr_step s (Expr-F.Apply op x y) = e.Apply op x y

-- an expression with s of each variable in its place
abbrev pub put_expr : (ℕ → Term) → Expr → Expr
put_expr s = fold-Expr Expr (put_expr_step s)

-- the symbols of one form of an expression, with those of each operand in its place
abbrev pub expr_symbols_step : Expr-F ℕ → ℕ
expr_symbols_step (Expr-F.Leaf x) = symbols_of x
expr_symbols_step (Expr-F.Apply op x y) = 1 + x + y

-- the symbols of an expression: those of its leaves, and one for each operator
abbrev pub expr_symbols_of : Expr → ℕ
expr_symbols_of = fold-Expr ℕ expr_symbols_step

module _ (s : ℕ → Term) where
  pub put_expr-Leaf : (x : Term) → put_expr s (e.Leaf x) ≡ e.Leaf (put s x)
  put_expr-Leaf x = ap (put_expr s) (sym (e.rolls-Leaf x)) ∙ fold-roll-Expr Expr (put_expr_step s) _

  pub put_expr-Apply : (op : Op) (x y : Expr) → put_expr s (e.Apply op x y) ≡ e.Apply op (put_expr s x) (put_expr s y)
  put_expr-Apply op x y = ap (put_expr s) (sym (e.rolls-Apply op x y)) ∙ fold-roll-Expr Expr (put_expr_step s) _

pub expr_symbols_of-Leaf : (x : Term) → expr_symbols_of (e.Leaf x) ≡ symbols_of x
expr_symbols_of-Leaf x = ap expr_symbols_of (sym (e.rolls-Leaf x)) ∙ fold-roll-Expr ℕ expr_symbols_step _

pub expr_symbols_of-Apply : (op : Op) (x y : Expr) → expr_symbols_of (e.Apply op x y) ≡ 1 + expr_symbols_of x + expr_symbols_of y
expr_symbols_of-Apply op x y = ap expr_symbols_of (sym (e.rolls-Apply op x y)) ∙ fold-roll-Expr ℕ expr_symbols_step _

-- what holds of each leaf, and of each operation given that it holds of the operands, holds of every expression
module _ (P : Expr → Type 0) (of_leaf : (x : Term) → P (e.Leaf x)) (of_apply : (op : Op) (x y : Expr) → P x → P y → P (e.Apply op x y)) where
  layer : (y : Expr-F ((x : Expr) × P x)) → P (ex.roll-Expr (ex.map-Expr ((x : Expr) × P x) Expr (λ e. e.0) y))
  layer (Expr-F.Leaf x) = subst P (sym (e.rolls-Leaf x)) (of_leaf x)
  layer (Expr-F.Apply op x y) = subst P (sym (e.rolls-Apply op x.0 y.0)) (of_apply op x.0 y.0 x.1 y.1)

  pub expr_ind : (x : Expr) → P x
  expr_ind = ind-Expr P (λ x y is. subst (λ z. P (ex.roll-Expr z)) is (layer y))

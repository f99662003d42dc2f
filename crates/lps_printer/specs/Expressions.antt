-- The canonical text of expressions and built-ins: only the parentheses that the grammar needs.
use Rattle.std.specs.Prelude.{◌≡◌, ℕ, suc, Bool, nat_lt, List, [], ◌++◌, codes, if◌then◌else◌}
use Rattle.std.proofs.Common.{◌∙◌, sym, ap}
use Rattle.lps_terms.specs.declared.op.Op.{Op}
use Rattle.lps_terms.specs.declared.op.Op.TheVariants.{Add, Sub, Mul, Div, Mod}
use Rattle.lps_terms.specs.declared.rel.Rel.{Rel}
use Rattle.lps_terms.specs.declared.rel.Rel.TheVariants.{Less, AtMost, Greater, AtLeast}
use Rattle.lps_terms.specs.declared.expr.Expr.{Expr}
use Rattle.lps_terms.specs.declared.expr.Expr.TheVariants as e
use Rattle.lps_terms.specs.declared.expr.Expr.TheOpen.{Expr-F}
use Rattle.lps_terms.specs.declared.expr.Expr.TheFolds.{fold-Expr, fold-roll-Expr}
use Rattle.lps_terms.specs.declared.built.Built.{Built}
use Rattle.lps_terms.specs.declared.built.Built.TheVariants.{Same, Differ, Is, Compare}
use Rattle.lps_terms.specs.declared.term.Term.{Term}
use Rattle.lps_printer.specs.Terms.{term_text}

-- how tightly an operator binds: a sum at 0, a product at 1
abbrev pub level_of : Op → ℕ
level_of Add = 0
level_of Sub = 0
level_of Mul = 1
level_of Div = 1
level_of Mod = 1

abbrev pub op_text : Op → List ℕ
op_text Add = codes " + "
op_text Sub = codes " - "
op_text Mul = codes " * "
op_text Div = codes " div "
op_text Mod = codes " mod "

-- in parentheses where they are needed
abbrev pub in_parens : Bool → List ℕ → List ℕ
in_parens needed bytes = (if needed then codes "(" else []) ++ (bytes ++ (if needed then codes ")" else []))

-- the text of one form where the operators round it bind at this level; the right operand of an operator binds tighter
abbrev pub expr_step : List (List ℕ) → Expr-F (ℕ → List ℕ) → ℕ → List ℕ
expr_step names (Expr-F.Leaf x) level = term_text names x
expr_step names (Expr-F.Apply op left right) level = in_parens (nat_lt (level_of op) level) (left (level_of op) ++ (op_text op ++ right (suc (level_of op))))

-- the text of an expression where the operators round it bind at this level
abbrev pub expr_text : List (List ℕ) → ℕ → Expr → List ℕ
expr_text names level x = fold-Expr (ℕ → List ℕ) (expr_step names) x level

abbrev pub rel_text : Rel → List ℕ
rel_text Less = codes " < "
rel_text AtMost = codes " =< "
rel_text Greater = codes " > "
rel_text AtLeast = codes " >= "

-- the text of a built-in
abbrev pub built_text : List (List ℕ) → Built → List ℕ
built_text names (Same left right) = term_text names left ++ (codes " = " ++ term_text names right)
built_text names (Differ left right) = term_text names left ++ (codes " \\= " ++ term_text names right)
built_text names (Is left right) = term_text names left ++ (codes " is " ++ expr_text names 0 right)
built_text names (Compare rel left right) = expr_text names 0 left ++ (rel_text rel ++ expr_text names 0 right)

-- The variables of terms, atoms, conditions and items, in written order and as often as they stand there.
use Rattle.std.specs.Prelude.{ℕ, List, [], ◌∷◌, ◌++◌}
use Rattle.std.specs.List.{flat_map}
use Rattle.lps_terms.specs.declared.atom.Atom.{Atom}
use Rattle.lps_terms.specs.declared.built.Built.{Built}
use Rattle.lps_terms.specs.declared.built.Built.TheVariants as b
use Rattle.lps_terms.specs.declared.cond.Cond.{Cond}
use Rattle.lps_terms.specs.declared.cond.Cond.TheVariants as c
use Rattle.lps_terms.specs.declared.expr.Expr.{Expr}
use Rattle.lps_terms.specs.declared.expr.Expr.TheOpen.{Expr-F}
use Rattle.lps_terms.specs.declared.expr.Expr.TheFolds.{fold-Expr}
use Rattle.lps_terms.specs.declared.item.Item.{Item}
use Rattle.lps_terms.specs.declared.item.Item.TheVariants as i
use Rattle.lps_terms.specs.declared.term.Term.{Term}
use Rattle.lps_terms.specs.declared.term.Term.TheOpen.{Term-F}
use Rattle.lps_terms.specs.declared.term.Term.TheFolds.{fold-Term}

-- the variables of one form, with those of each argument in its place
abbrev pub vars_step : Term-F (List ℕ) → List ℕ
vars_step (Term-F.App name parts) = flat_map (λ part. part) parts
vars_step (Term-F.Var v) = v ∷ []
vars_step other = []

-- the variables of a term
abbrev pub term_vars : Term → List ℕ
term_vars = fold-Term (List ℕ) vars_step

-- the variables of terms
abbrev pub args_vars : List Term → List ℕ
args_vars args = flat_map term_vars args

-- the variables of an atom
abbrev pub atom_vars : Atom → List ℕ
atom_vars atom = args_vars atom.args

-- the variables of one form of an expression, with those of each operand in its place
abbrev pub operands_step : Expr-F (List ℕ) → List ℕ
operands_step (Expr-F.Leaf x) = term_vars x
operands_step (Expr-F.Apply op left right) = left ++ right

-- the variables of an expression
abbrev pub expr_vars : Expr → List ℕ
expr_vars = fold-Expr (List ℕ) operands_step

-- the variables of a built-in
abbrev pub built_vars : Built → List ℕ
built_vars (b.Same left right) = term_vars left ++ term_vars right
built_vars (b.Differ left right) = term_vars left ++ term_vars right
built_vars (b.Is left right) = term_vars left ++ expr_vars right
built_vars (b.Compare rel left right) = expr_vars left ++ expr_vars right

-- the variables of a condition
abbrev pub cond_vars : Cond → List ℕ
cond_vars (c.Lit lit) = atom_vars lit.atom
cond_vars (c.Built built) = built_vars built

-- the variables of an item; a constraint has times alone
abbrev pub item_vars : Item → List ℕ
item_vars (i.At lit time) = atom_vars lit.atom
item_vars (i.Bare lit) = atom_vars lit.atom
item_vars (i.Built built) = built_vars built
item_vars (i.Span atom from to) = atom_vars atom
item_vars (i.Con con) = []

-- the times of a step; an item that is no step has none
abbrev pub step_times : Item → List ℕ
step_times (i.At lit time) = time.0 ∷ []
step_times (i.Span atom from to) = from.0 ∷ to.0 ∷ []
step_times other = []

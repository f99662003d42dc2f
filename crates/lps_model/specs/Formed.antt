-- Which texts are formed as a reader gives them, in what the order of the language's rules never asks: names, numbers of
-- arguments, of variables and of times, constants of constraints, and modes.
use Rattle.std.specs.Prelude.{ℕ, ℤ, pos, negsuc, Bool, true, false, not, ◌≡◌, ◌&&◌, ◌==◌, nat_lt, nat_le, List, [], ◌∷◌, length, map}
use Rattle.std.specs.List.{list_all}
use Rattle.std.proofs.Common.{◌∙◌, sym, ap}
use Rattle.std.proofs.lemmas.List.{length-map}
use Rattle.std.proofs.lemmas.List.Folds.{list_all-map}
use Rattle.lps_terms.specs.declared.atom.Atom.{Atom}
use Rattle.lps_terms.specs.declared.body.Body.{Body}
use Rattle.lps_terms.specs.declared.body.Body.TheVariants as b
use Rattle.lps_terms.specs.declared.built.Built.{Built}
use Rattle.lps_terms.specs.declared.built.Built.TheVariants as bt
use Rattle.lps_terms.specs.declared.cond.Cond.{Cond}
use Rattle.lps_terms.specs.declared.cond.Cond.TheVariants as c
use Rattle.lps_terms.specs.declared.decl.Decl.{Decl}
use Rattle.lps_terms.specs.declared.expr.Expr.{Expr}
use Rattle.lps_terms.specs.declared.expr.Expr.TheVariants as e
use Rattle.lps_terms.specs.declared.expr.Expr.TheOpen.{Expr-F}
use Rattle.lps_terms.specs.declared.expr.Expr.TheFolds.{fold-Expr, fold-roll-Expr}
use Rattle.lps_terms.specs.declared.item.Item.{Item}
use Rattle.lps_terms.specs.declared.item.Item.TheVariants as i
use Rattle.lps_terms.specs.declared.kind.Kind.{Kind}
use Rattle.lps_terms.specs.declared.kind.Kind.TheVariants as k
use Rattle.lps_terms.specs.declared.mode.Mode.{Mode}
use Rattle.lps_terms.specs.declared.mode.Mode.TheVariants as m
use Rattle.lps_terms.specs.declared.op.Op.{Op}
use Rattle.lps_terms.specs.declared.statement.Statement.{Statement}
use Rattle.lps_terms.specs.declared.term.Term.{Term}
use Rattle.lps_terms.specs.declared.term.Term.TheVariants as t
use Rattle.lps_terms.specs.declared.term.Term.TheOpen.{Term-F}
use Rattle.lps_terms.specs.declared.term.Term.TheFolds.{fold-Term}
use Rattle.lps_terms.specs.declared.text.Text.{Text}
use Rattle.lps_terms.specs.Forms.{fold-Int, fold-Sym, fold-App, fold-Var}
use Rattle.lps_terms.specs.Integers.{is_i64}
use Rattle.lps_terms.specs.Names.{is_proper_name}

-- ---- terms and expressions

-- whether one form is well-formed, where there are so many variables, with whether each argument is in its place
abbrev pub formed_step : ℕ → Term-F Bool → Bool
formed_step variables (Term-F.Int z) = is_i64 z
formed_step variables (Term-F.Sym name) = is_proper_name name
formed_step variables (Term-F.App name args) = is_proper_name name && nat_lt 0 (length args) && nat_le (length args) 64 && list_all (λ arg. arg) args
formed_step variables (Term-F.Var v) = nat_lt v variables

-- a well-formed term over so many variables: names that a text may give, 1 to 64 arguments for each function, and integers
-- of 64 bits
abbrev pub is_formed_term : ℕ → Term → Bool
is_formed_term variables = fold-Term Bool (formed_step variables)

-- whether the leaves of one form are well-formed
abbrev pub formed_expr_step : ℕ → Expr-F Bool → Bool
formed_expr_step variables (Expr-F.Leaf x) = is_formed_term variables x
formed_expr_step variables (Expr-F.Apply op x y) = x && y

-- a well-formed expression
abbrev pub is_formed_expr : ℕ → Expr → Bool
is_formed_expr variables = fold-Expr Bool (formed_expr_step variables)

module _ (variables : ℕ) where
  pub is_formed-Int : (z : ℤ) → is_formed_term variables (t.Int z) ≡ is_i64 z
  is_formed-Int = fold-Int Bool (formed_step variables)

  pub is_formed-Sym : (n : List ℕ) → is_formed_term variables (t.Sym n) ≡ is_proper_name n
  is_formed-Sym = fold-Sym Bool (formed_step variables)

  pub is_formed-App : (n : List ℕ) (ts : List Term) →
      is_formed_term variables (t.App n ts) ≡ (is_proper_name n && nat_lt 0 (length ts) && nat_le (length ts) 64 && list_all (is_formed_term variables) ts)
  is_formed-App n ts =
      fold-App Bool (formed_step variables) n ts
      ∙ ap (λ k. is_proper_name n && nat_lt 0 k && nat_le k 64 && list_all (λ arg. arg) (map (is_formed_term variables) ts)) (length-map ts (is_formed_term variables))
      ∙ ap (λ all. is_proper_name n && nat_lt 0 (length ts) && nat_le (length ts) 64 && all) (list_all-map (λ arg. arg) (is_formed_term variables) ts)

  pub is_formed-Var : (v : ℕ) → is_formed_term variables (t.Var v) ≡ nat_lt v variables
  is_formed-Var = fold-Var Bool (formed_step variables)

  pub is_formed-Leaf : (x : Term) → is_formed_expr variables (e.Leaf x) ≡ is_formed_term variables x
  is_formed-Leaf x = ap (is_formed_expr variables) (sym (e.rolls-Leaf x)) ∙ fold-roll-Expr Bool (formed_expr_step variables) _

  pub is_formed-Apply : (op : Op) (x y : Expr) → is_formed_expr variables (e.Apply op x y) ≡ (is_formed_expr variables x && is_formed_expr variables y)
  is_formed-Apply op x y = ap (is_formed_expr variables) (sym (e.rolls-Apply op x y)) ∙ fold-roll-Expr Bool (formed_expr_step variables) _

-- ---- atoms, conditions and items

-- an atom with a proper name and at most 64 arguments
abbrev pub is_formed_atom : ℕ → Atom → Bool
is_formed_atom variables atom = is_proper_name atom.name && nat_le (length atom.args) 64 && list_all (is_formed_term variables) atom.args

abbrev pub is_formed_built : ℕ → Built → Bool
is_formed_built variables (bt.Same x y) = is_formed_term variables x && is_formed_term variables y
is_formed_built variables (bt.Differ x y) = is_formed_term variables x && is_formed_term variables y
is_formed_built variables (bt.Is x sum) = is_formed_term variables x && is_formed_expr variables sum
is_formed_built variables (bt.Compare rel x y) = is_formed_expr variables x && is_formed_expr variables y

abbrev pub is_formed_cond : ℕ → Cond → Bool
is_formed_cond variables (c.Lit lit) = is_formed_atom variables lit.atom
is_formed_cond variables (c.Built built) = is_formed_built variables built

-- the constant of a constraint: at most 1,000,000, either sign
abbrev pub is_shift : ℤ → Bool
is_shift (pos n) = nat_le n 1000000
is_shift (negsuc n) = nat_lt n 1000000

-- an item under so many variables and so many times
abbrev pub is_formed_item : ℕ → ℕ → Item → Bool
is_formed_item variables times (i.At lit time) = is_formed_atom variables lit.atom && nat_lt time.0 times
is_formed_item variables times (i.Bare lit) = is_formed_atom variables lit.atom
is_formed_item variables times (i.Built built) = is_formed_built variables built
is_formed_item variables times (i.Span atom begin end) = is_formed_atom variables atom && nat_lt begin.0 times && nat_lt end.0 times
is_formed_item variables times (i.Con con) = nat_lt con.left.0 times && nat_lt con.right.0 times && is_shift con.plus

-- an item of a denial: no constraint
abbrev pub is_no_constraint : Item → Bool
is_no_constraint (i.Con con) = false
is_no_constraint item = true

-- ---- declarations

abbrev pub is_star : Mode → Bool
is_star m.Star = true
is_star other = false

-- at most one of these modes is `*`
abbrev pub stars_once : List Mode → Bool
stars_once [] = true
stars_once (m.Star ∷ modes) = list_all (λ mode. not (is_star mode)) modes
stars_once (mode ∷ modes) = stars_once modes

-- whether the names of a kind are declared with modes
abbrev pub has_modes : Kind → Bool
has_modes k.Timeless = true
has_modes k.Derived = true
has_modes k.Macro = true
has_modes other = false

-- as many modes as arguments where the kind has modes, and else none
abbrev pub fits_modes : Bool → ℕ → List Mode → Bool
fits_modes true arity modes = length modes == arity
fits_modes false arity modes = length modes == 0

-- a declaration of at most 64 arguments, with a mode for each where the kind has modes, of which at most one is `*`
abbrev pub is_formed_decl : Decl → Bool
is_formed_decl decl = is_proper_name decl.name && nat_le decl.arity 64 && fits_modes (has_modes decl.kind) decl.arity decl.modes && stars_once decl.modes

-- ---- texts

abbrev pub is_formed_body : ℕ → ℕ → Body → Bool
is_formed_body variables times (b.Declare decls) = list_all is_formed_decl decls
is_formed_body variables times (b.Initially atoms) = list_all (is_formed_atom variables) atoms
is_formed_body variables times (b.Denial items) = list_all (is_formed_item variables times) items && list_all is_no_constraint items
is_formed_body variables times (b.Rule antecedent alternatives) = list_all (is_formed_item variables times) antecedent && list_all (list_all (is_formed_item variables times)) alternatives
is_formed_body variables times (b.Law initiates event fluent conds) = is_formed_atom variables event && is_formed_atom variables fluent && list_all (is_formed_cond variables) conds
is_formed_body variables times (b.Clause head conds) = is_formed_atom variables head && list_all (is_formed_cond variables) conds
is_formed_body variables times (b.MacroClause head begin end items) =
    is_formed_atom variables head && nat_lt begin.0 times && nat_lt end.0 times && list_all (is_formed_item variables times) items

-- a statement of at most 255 variables and 255 times, each of which has a name
abbrev pub is_formed_statement : Statement → Bool
is_formed_statement s = nat_le (length s.names) 255 && nat_le (length s.times) 255 && is_formed_body (length s.names) (length s.times) s.body

-- a well-formed text
abbrev pub is_formed : Text → Bool
is_formed text = list_all is_formed_statement text.statements

-- Canonical trees mean what the trees mean.
use Rattle.std.specs.Prelude.{ℕ, zero, suc, ◌≡◌, Bool, true, false, ◌∷◌, refl, map}
use Rattle.std.proofs.Common.{◌∙◌, ap}
use Rattle.lps_terms.specs.declared.expr.Expr.{Expr}
use Rattle.lps_terms.specs.declared.expr.Expr.TheVariants as e
use Rattle.lps_terms.specs.declared.built.Built.TheVariants as b
use Rattle.lps_terms.specs.declared.cond.Cond.TheVariants as c
use Rattle.lps_terms.specs.declared.item.Item.TheVariants as i
use Rattle.lps_terms.specs.declared.body.Body.TheVariants as bd
use Rattle.lps_grammar.specs.declared.tok.Tok.{Tok}
use Rattle.lps_grammar.specs.declared.tok.Tok.TheVariants as k
use Rattle.lps_grammar.specs.Terms as te
use Rattle.lps_grammar.specs.Expressions as ex
use Rattle.lps_grammar.specs.Items as it
use Rattle.lps_grammar.specs.Statements as st
use Rattle.lps_build.specs.Meaning as m
use Rattle.lps_roundtrip.specs.Canonical as ca

-- ---- terms

pub leaf_means : {vars : Bool} (x : te.Leaf vars) → m.leaf_of (ca.canonical_leaf x) ≡ m.leaf_of x
leaf_means (te.variable may n) = refl
leaf_means (te.number n small) = refl
leaf_means (te.negative zero small) = refl
leaf_means (te.negative (suc n) small) = refl

mutual
  pub term_means : {vars : Bool} (x : te.Term vars) → m.term_of (ca.canonical_term x) ≡ m.term_of x
  term_means (te.named n xs) = ap (m.call_of n) (args_mean xs)
  term_means (te.leaf x) = leaf_means x

  args_mean : {vars : Bool} (xs : te.Args vars) → m.args_of (ca.canonical_args xs) ≡ m.args_of xs
  args_mean te.bare = refl
  args_mean (te.args x xs) = λ j. term_means x j ∷ terms_mean xs j

  terms_mean : {vars : Bool} {n : ℕ} (xs : te.Terms vars n) → m.terms_of (ca.canonical_terms xs) ≡ m.terms_of xs
  terms_mean te.end = refl
  terms_mean (te.more x xs) = λ j. term_means x j ∷ terms_mean xs j

pub atom_means : {vars : Bool} (x : te.Atom vars) → m.atom_of (ca.canonical_atom x) ≡ m.atom_of x
atom_means (te.atom n xs) = λ j. record { name = n; args = args_mean xs j }

-- ---- expressions

-- parentheses mean nothing
pub unit_same : (x : ex.Expr) → m.unit_of (ca.as_unit x) ≡ m.expr_of x
unit_same (ex.expr (ex.prod x ex.no_factor) ex.no_summand) = refl
unit_same (ex.expr (ex.prod x (ex.times t is y ys)) ps) = refl
unit_same (ex.expr p (ex.plus t is q qs)) = refl

pub prod_same : (x : ex.Expr) → m.prod_of (ca.as_prod x) ≡ m.expr_of x
prod_same (ex.expr p ex.no_summand) = refl
prod_same (ex.expr p (ex.plus t is q qs)) = refl

append_factors_means : (xs ys : ex.Factors) (before : Expr) → m.factors_of (ca.append_factors xs ys) before ≡ m.factors_of ys (m.factors_of xs before)
append_factors_means ex.no_factor ys before = refl
append_factors_means (ex.times t is x xs) ys before = append_factors_means xs ys (e.Apply (m.op_of t) before (m.unit_of x))

with_factors_means : (p : ex.Prod) (ys : ex.Factors) → m.prod_of (ca.with_factors p ys) ≡ m.factors_of ys (m.prod_of p)
with_factors_means (ex.prod x xs) ys = append_factors_means xs ys (m.unit_of x)

multiplied_means : (x : ex.Expr) (ys : ex.Factors) → m.expr_of (ca.multiplied x ys) ≡ m.factors_of ys (m.expr_of x)
multiplied_means x ex.no_factor = refl
multiplied_means x (ex.times t is y ys) = with_factors_means (ca.as_prod x) (ex.times t is y ys) ∙ ap (m.factors_of (ex.times t is y ys)) (prod_same x)

append_summands_means : (ps qs : ex.Summands) (before : Expr) → m.summands_of (ca.append_summands ps qs) before ≡ m.summands_of qs (m.summands_of ps before)
append_summands_means ex.no_summand qs before = refl
append_summands_means (ex.plus t is p ps) qs before = append_summands_means ps qs (e.Apply (m.op_of t) before (m.prod_of p))

with_summands_means : (x : ex.Expr) (qs : ex.Summands) → m.expr_of (ca.with_summands x qs) ≡ m.summands_of qs (m.expr_of x)
with_summands_means (ex.expr p ps) qs = append_summands_means ps qs (m.prod_of p)

mutual
  loose_unit_means : (x : ex.Unit) → m.expr_of (ca.loose_unit x) ≡ m.unit_of x
  loose_unit_means (ex.single x) = ap e.Leaf (leaf_means x)
  loose_unit_means (ex.grouped x) = expr_means x

  factors_mean : (xs : ex.Factors) (before : Expr) → m.factors_of (ca.canonical_factors xs) before ≡ m.factors_of xs before
  factors_mean ex.no_factor before = refl
  factors_mean (ex.times t is x xs) before =
      factors_mean xs (e.Apply (m.op_of t) before (m.unit_of (ca.as_unit (ca.loose_unit x))))
      ∙ ap (λ y. m.factors_of xs (e.Apply (m.op_of t) before y)) (unit_same (ca.loose_unit x) ∙ loose_unit_means x)

  loose_prod_means : (p : ex.Prod) → m.expr_of (ca.loose_prod p) ≡ m.prod_of p
  loose_prod_means (ex.prod x xs) =
      multiplied_means (ca.loose_unit x) (ca.canonical_factors xs) ∙ factors_mean xs (m.expr_of (ca.loose_unit x)) ∙ ap (m.factors_of xs) (loose_unit_means x)

  summands_mean : (ps : ex.Summands) (before : Expr) → m.summands_of (ca.canonical_summands ps) before ≡ m.summands_of ps before
  summands_mean ex.no_summand before = refl
  summands_mean (ex.plus t is p ps) before =
      summands_mean ps (e.Apply (m.op_of t) before (m.prod_of (ca.as_prod (ca.loose_prod p))))
      ∙ ap (λ y. m.summands_of ps (e.Apply (m.op_of t) before y)) (prod_same (ca.loose_prod p) ∙ loose_prod_means p)

  pub expr_means : (x : ex.Expr) → m.expr_of (ca.canonical_expr x) ≡ m.expr_of x
  expr_means (ex.expr p ps) =
      with_summands_means (ca.loose_prod p) (ca.canonical_summands ps) ∙ summands_mean ps (m.expr_of (ca.loose_prod p)) ∙ ap (m.summands_of ps) (loose_prod_means p)

pub unit_means : (x : ex.Unit) → m.unit_of (ca.canonical_unit x) ≡ m.unit_of x
unit_means x = unit_same (ca.loose_unit x) ∙ loose_unit_means x

pub prod_means : (p : ex.Prod) → m.prod_of (ca.canonical_prod p) ≡ m.prod_of p
prod_means p = prod_same (ca.loose_prod p) ∙ loose_prod_means p

-- ---- conditions and items

built_means : (x : it.Built) → m.built_of (ca.canonical_built x) ≡ m.built_of x
built_means (it.same x y) = λ j. b.Same (term_means x j) (term_means y j)
built_means (it.differ x y) = λ j. b.Differ (term_means x j) (term_means y j)
built_means (it.evaluates x y) = λ j. b.Is (leaf_means x j) (expr_means y j)
built_means (it.compare x t is y) = λ j. b.Compare (m.rel_of t) (expr_means x j) (expr_means y j)

pub cond_means : (x : it.Cond) → m.cond_of (ca.canonical_cond x) ≡ m.cond_of x
cond_means (it.holds a) = ap (λ y. c.Lit (m.lit_of false y)) (atom_means a)
cond_means (it.fails a) = ap (λ y. c.Lit (m.lit_of true y)) (atom_means a)
cond_means (it.built x) = ap c.Built (built_means x)

conds_mean : (xs : it.MoreConds) → m.conds_of (ca.canonical_conds xs) ≡ m.conds_of xs
conds_mean it.no_cond = refl
conds_mean (it.also x xs) = λ j. cond_means x j ∷ conds_mean xs j

signed_zero : (t : Tok) → m.shift_of it.unshifted ≡ m.signed t 0
signed_zero k.Minus = refl
signed_zero t = refl

shift_means : (x : it.Shift) → m.shift_of (ca.canonical_shift x) ≡ m.shift_of x
shift_means it.unshifted = refl
shift_means (it.shifted t is zero small) = signed_zero t
shift_means (it.shifted t is (suc n) small) = refl

con_means : (x : it.Con) → m.con_of (ca.canonical_con x) ≡ m.con_of x
con_means (it.con x t is y plus) = λ j. record { left = m.time_of x; rel = m.time_rel_of t; right = m.time_of y; plus = shift_means plus j }

pub item_means : {bounds : Bool} (x : it.Item bounds) → m.item_of (ca.canonical_item x) ≡ m.item_of x
item_means (it.true_at a w) = ap (λ y. m.placed (m.lit_of false y) w) (atom_means a)
item_means (it.false_at a w) = ap (λ y. m.placed (m.lit_of true y) w) (atom_means a)
item_means (it.spans a begin until) = ap (λ y. i.Span y (m.time_of begin) (m.time_of until)) (atom_means a)
item_means (it.tests x) = ap i.Built (built_means x)
item_means (it.bound may x) = ap i.Con (con_means x)

items_mean : {bounds : Bool} (xs : it.MoreItems bounds) → m.items_of (ca.canonical_items xs) ≡ m.items_of xs
items_mean it.no_item = refl
items_mean (it.then_item x xs) = λ j. item_means x j ∷ items_mean xs j

pub seq_means : {bounds : Bool} (x : it.Seq bounds) → m.seq_of (ca.canonical_seq x) ≡ m.seq_of x
seq_means (it.seq x xs) = λ j. item_means x j ∷ items_mean xs j

-- ---- statements

atoms_mean : (xs : st.MoreAtoms) → m.atoms_of (ca.canonical_atoms xs) ≡ m.atoms_of xs
atoms_mean st.no_atom = refl
atoms_mean (st.also_atom x xs) = λ j. atom_means x j ∷ atoms_mean xs j

conditions_mean : (x : st.Conditions) → m.conditions_of (ca.canonical_conditions x) ≡ m.conditions_of x
conditions_mean st.always = refl
conditions_mean (st.when x xs) = λ j. cond_means x j ∷ conds_mean xs j

alternatives_mean : (xs : st.Alternatives) → m.alternatives_of (ca.canonical_alternatives xs) ≡ m.alternatives_of xs
alternatives_mean st.no_other = refl
alternatives_mean (st.or_else x xs) = λ j. seq_means x j ∷ alternatives_mean xs j

pub statement_means : (x : st.Statement) → m.body_of (ca.canonical_statement x) ≡ m.body_of x
statement_means (st.declares t is x xs) = refl
statement_means (st.declares_modes t is x xs) = refl
statement_means (st.initially x xs) = λ j. bd.Initially (atom_means x j ∷ atoms_mean xs j)
statement_means (st.denial x) = ap bd.Denial (seq_means x)
statement_means (st.rule x y ys) = λ j. bd.Rule (seq_means x j) (seq_means y j ∷ alternatives_mean ys j)
statement_means (st.law event t is fluent cs) = λ j. bd.Law (m.initiates t) (atom_means event j) (atom_means fluent j) (conditions_mean cs j)
statement_means (st.macro_clause a begin until x) = λ j. bd.MacroClause (atom_means a j) (m.time_of begin) (m.time_of until) (seq_means x j)
statement_means (st.clause a cs) = λ j. bd.Clause (atom_means a j) (conditions_mean cs j)

pub text_means : (x : st.Text) (n d : ℕ) → map (λ p. p.1) (m.bodies_of n (ca.canonical_text x)) ≡ map (λ p. p.1) (m.bodies_of d x)
text_means st.done n d = refl
text_means (st.next x xs) n d = λ j. statement_means x j ∷ text_means xs n d j

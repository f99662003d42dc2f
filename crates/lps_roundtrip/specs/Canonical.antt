-- The canonical tree of each tree: only the parentheses that the grammar needs, no sign before 0, no 0 added to a time.
use Rattle.std.specs.Prelude.{ℕ, zero, suc, Bool, refl}
use Rattle.lps_grammar.specs.Terms as te
use Rattle.lps_grammar.specs.Expressions as ex
use Rattle.lps_grammar.specs.Items as it
use Rattle.lps_grammar.specs.Statements as st

-- ---- terms

-- the integer 0 has no sign
abbrev pub canonical_leaf : {vars : Bool} → te.Leaf vars → te.Leaf vars
canonical_leaf (te.variable may n) = te.variable may n
canonical_leaf (te.number n small) = te.number n small
canonical_leaf (te.negative zero small) = te.number 0 refl
canonical_leaf (te.negative (suc n) small) = te.negative (suc n) small

abbrev mutual
  -- a term
  pub canonical_term : {vars : Bool} → te.Term vars → te.Term vars
  canonical_term (te.named n xs) = te.named n (canonical_args xs)
  canonical_term (te.leaf x) = te.leaf (canonical_leaf x)

  -- arguments
  pub canonical_args : {vars : Bool} → te.Args vars → te.Args vars
  canonical_args te.bare = te.bare
  canonical_args (te.args x xs) = te.args (canonical_term x) (canonical_terms xs)

  -- the terms after a first one
  pub canonical_terms : {vars : Bool} {n : ℕ} → te.Terms vars n → te.Terms vars n
  canonical_terms te.end = te.end
  canonical_terms (te.more x xs) = te.more (canonical_term x) (canonical_terms xs)

-- an atom
abbrev pub canonical_atom : {vars : Bool} → te.Atom vars → te.Atom vars
canonical_atom (te.atom n xs) = te.atom n (canonical_args xs)

-- ---- expressions

-- an expression where a unit has to stand: in parentheses, if it is more than one unit
abbrev pub as_unit : ex.Expr → ex.Unit
as_unit (ex.expr (ex.prod x ex.no_factor) ex.no_summand) = x
as_unit (ex.expr (ex.prod x (ex.times t is y ys)) ps) = ex.grouped (ex.expr (ex.prod x (ex.times t is y ys)) ps)
as_unit (ex.expr p (ex.plus t is q qs)) = ex.grouped (ex.expr p (ex.plus t is q qs))

-- an expression where a product has to stand: in parentheses, if it is a sum
abbrev pub as_prod : ex.Expr → ex.Prod
as_prod (ex.expr p ex.no_summand) = p
as_prod (ex.expr p (ex.plus t is q qs)) = ex.prod (ex.grouped (ex.expr p (ex.plus t is q qs))) ex.no_factor

-- factors, and more of them
abbrev pub append_factors : ex.Factors → ex.Factors → ex.Factors
append_factors ex.no_factor ys = ys
append_factors (ex.times t is x xs) ys = ex.times t is x (append_factors xs ys)

-- a product with more factors
abbrev pub with_factors : ex.Prod → ex.Factors → ex.Prod
with_factors (ex.prod x xs) ys = ex.prod x (append_factors xs ys)

-- an expression with factors after it, if there are any
abbrev pub multiplied : ex.Expr → ex.Factors → ex.Expr
multiplied x ex.no_factor = x
multiplied x (ex.times t is y ys) = ex.expr (with_factors (as_prod x) (ex.times t is y ys)) ex.no_summand

-- summands, and more of them
abbrev pub append_summands : ex.Summands → ex.Summands → ex.Summands
append_summands ex.no_summand qs = qs
append_summands (ex.plus t is p ps) qs = ex.plus t is p (append_summands ps qs)

-- an expression with more summands
abbrev pub with_summands : ex.Expr → ex.Summands → ex.Expr
with_summands (ex.expr p ps) qs = ex.expr p (append_summands ps qs)

abbrev mutual
  -- a unit that stands by itself
  pub loose_unit : ex.Unit → ex.Expr
  loose_unit (ex.single x) = ex.expr (ex.prod (ex.single (canonical_leaf x)) ex.no_factor) ex.no_summand
  loose_unit (ex.grouped x) = canonical_expr x

  -- the factors after a first unit
  pub canonical_factors : ex.Factors → ex.Factors
  canonical_factors ex.no_factor = ex.no_factor
  canonical_factors (ex.times t is x xs) = ex.times t is (as_unit (loose_unit x)) (canonical_factors xs)

  -- a product that stands by itself
  pub loose_prod : ex.Prod → ex.Expr
  loose_prod (ex.prod x xs) = multiplied (loose_unit x) (canonical_factors xs)

  -- the summands after a first product
  pub canonical_summands : ex.Summands → ex.Summands
  canonical_summands ex.no_summand = ex.no_summand
  canonical_summands (ex.plus t is p ps) = ex.plus t is (as_prod (loose_prod p)) (canonical_summands ps)

  -- an expression
  pub canonical_expr : ex.Expr → ex.Expr
  canonical_expr (ex.expr p ps) = with_summands (loose_prod p) (canonical_summands ps)

-- a unit that is a factor
abbrev pub canonical_unit : ex.Unit → ex.Unit
canonical_unit x = as_unit (loose_unit x)

-- a product that is a summand
abbrev pub canonical_prod : ex.Prod → ex.Prod
canonical_prod p = as_prod (loose_prod p)

-- ---- conditions and items

-- a built-in
abbrev pub canonical_built : it.Built → it.Built
canonical_built (it.same x y) = it.same (canonical_term x) (canonical_term y)
canonical_built (it.differ x y) = it.differ (canonical_term x) (canonical_term y)
canonical_built (it.evaluates x y) = it.evaluates (canonical_leaf x) (canonical_expr y)
canonical_built (it.compare x t is y) = it.compare (canonical_expr x) t is (canonical_expr y)

-- a condition
abbrev pub canonical_cond : it.Cond → it.Cond
canonical_cond (it.holds a) = it.holds (canonical_atom a)
canonical_cond (it.fails a) = it.fails (canonical_atom a)
canonical_cond (it.built x) = it.built (canonical_built x)

-- the conditions after a first one
abbrev pub canonical_conds : it.MoreConds → it.MoreConds
canonical_conds it.no_cond = it.no_cond
canonical_conds (it.also x xs) = it.also (canonical_cond x) (canonical_conds xs)

-- a shift by 0 is none
abbrev pub canonical_shift : it.Shift → it.Shift
canonical_shift it.unshifted = it.unshifted
canonical_shift (it.shifted t is zero small) = it.unshifted
canonical_shift (it.shifted t is (suc n) small) = it.shifted t is (suc n) small

-- a time constraint
abbrev pub canonical_con : it.Con → it.Con
canonical_con (it.con x t is y plus) = it.con x t is y (canonical_shift plus)

-- an item
abbrev pub canonical_item : {bounds : Bool} → it.Item bounds → it.Item bounds
canonical_item (it.true_at a w) = it.true_at (canonical_atom a) w
canonical_item (it.false_at a w) = it.false_at (canonical_atom a) w
canonical_item (it.spans a begin until) = it.spans (canonical_atom a) begin until
canonical_item (it.tests x) = it.tests (canonical_built x)
canonical_item (it.bound may x) = it.bound may (canonical_con x)

-- the items after a first one
abbrev pub canonical_items : {bounds : Bool} → it.MoreItems bounds → it.MoreItems bounds
canonical_items it.no_item = it.no_item
canonical_items (it.then_item x xs) = it.then_item (canonical_item x) (canonical_items xs)

-- a sequence
abbrev pub canonical_seq : {bounds : Bool} → it.Seq bounds → it.Seq bounds
canonical_seq (it.seq x xs) = it.seq (canonical_item x) (canonical_items xs)

-- ---- statements

-- the atoms after a first one
abbrev pub canonical_atoms : st.MoreAtoms → st.MoreAtoms
canonical_atoms st.no_atom = st.no_atom
canonical_atoms (st.also_atom x xs) = st.also_atom (canonical_atom x) (canonical_atoms xs)

-- the conditions after `if`, if it stands there
abbrev pub canonical_conditions : st.Conditions → st.Conditions
canonical_conditions st.always = st.always
canonical_conditions (st.when x xs) = st.when (canonical_cond x) (canonical_conds xs)

-- the alternatives after a first one
abbrev pub canonical_alternatives : st.Alternatives → st.Alternatives
canonical_alternatives st.no_other = st.no_other
canonical_alternatives (st.or_else x xs) = st.or_else (canonical_seq x) (canonical_alternatives xs)

-- a statement; declarations stay as they are
abbrev pub canonical_statement : st.Statement → st.Statement
canonical_statement (st.declares t is x xs) = st.declares t is x xs
canonical_statement (st.declares_modes t is x xs) = st.declares_modes t is x xs
canonical_statement (st.initially x xs) = st.initially (canonical_atom x) (canonical_atoms xs)
canonical_statement (st.denial x) = st.denial (canonical_seq x)
canonical_statement (st.rule x y ys) = st.rule (canonical_seq x) (canonical_seq y) (canonical_alternatives ys)
canonical_statement (st.law event t is fluent cs) = st.law (canonical_atom event) t is (canonical_atom fluent) (canonical_conditions cs)
canonical_statement (st.macro_clause a begin until x) = st.macro_clause (canonical_atom a) begin until (canonical_seq x)
canonical_statement (st.clause a cs) = st.clause (canonical_atom a) (canonical_conditions cs)

-- a text
abbrev pub canonical_text : st.Text → st.Text
canonical_text st.done = st.done
canonical_text (st.next x xs) = st.next (canonical_statement x) (canonical_text xs)

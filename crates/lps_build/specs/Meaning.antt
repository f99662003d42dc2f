-- What the trees of the grammar mean: the syntax that each of them stands for.
use Rattle.std.specs.Prelude.{ℕ, zero, suc, ◌-◌, ℤ, pos, negsuc, Bool, true, false, List, [], ◌∷◌, length}
use Rattle.lps_terms.specs.declared.atom.Atom.{Atom}
use Rattle.lps_terms.specs.declared.term.Term.{Term}
use Rattle.lps_terms.specs.declared.term.Term.TheVariants as t
use Rattle.lps_terms.specs.declared.op.Op.{Op}
use Rattle.lps_terms.specs.declared.op.Op.TheVariants as o
use Rattle.lps_terms.specs.declared.expr.Expr.{Expr}
use Rattle.lps_terms.specs.declared.expr.Expr.TheVariants as e
use Rattle.lps_terms.specs.declared.rel.Rel.{Rel}
use Rattle.lps_terms.specs.declared.rel.Rel.TheVariants as r
use Rattle.lps_terms.specs.declared.time_rel.TimeRel.{TimeRel}
use Rattle.lps_terms.specs.declared.time_rel.TimeRel.TheVariants as tr
use Rattle.lps_terms.specs.declared.built.Built.{Built}
use Rattle.lps_terms.specs.declared.built.Built.TheVariants as b
use Rattle.lps_terms.specs.declared.cond.Cond.{Cond}
use Rattle.lps_terms.specs.declared.cond.Cond.TheVariants as c
use Rattle.lps_terms.specs.declared.item.Item.{Item}
use Rattle.lps_terms.specs.declared.item.Item.TheVariants as i
use Rattle.lps_terms.specs.declared.lit.Lit.{Lit}
use Rattle.lps_terms.specs.declared.con.Con.{Con}
use Rattle.lps_terms.specs.declared.time_var.TimeVar.{TimeVar}
use Rattle.lps_terms.specs.declared.kind.Kind.{Kind}
use Rattle.lps_terms.specs.declared.kind.Kind.TheVariants as kd
use Rattle.lps_terms.specs.declared.mode.Mode.{Mode}
use Rattle.lps_terms.specs.declared.mode.Mode.TheVariants as md
use Rattle.lps_terms.specs.declared.decl.Decl.{Decl}
use Rattle.lps_terms.specs.declared.body.Body.{Body}
use Rattle.lps_terms.specs.declared.body.Body.TheVariants as bd
use Rattle.lps_grammar.specs.declared.tok.Tok.{Tok}
use Rattle.lps_grammar.specs.declared.tok.Tok.TheVariants as k
use Rattle.lps_grammar.specs.Terms as g
use Rattle.lps_grammar.specs.Expressions as ge
use Rattle.lps_grammar.specs.Items as gi
use Rattle.lps_grammar.specs.Lines as gl
use Rattle.lps_grammar.specs.Statements as gs

-- the number with a sign before it
abbrev pub minus : ℕ → ℤ
minus zero = pos 0
minus (suc n) = negsuc n

-- a variable or an integer
abbrev pub leaf_of : {vars : Bool} → g.Leaf vars → Term
leaf_of (g.variable may n) = t.Var n
leaf_of (g.number n small) = t.Int (pos n)
leaf_of (g.negative n small) = t.Int (minus n)

-- a constant, or a function with its arguments
abbrev pub call_of : List ℕ → List Term → Term
call_of n [] = t.Sym n
call_of n (x ∷ xs) = t.App n (x ∷ xs)

abbrev mutual
  -- a term
  pub term_of : {vars : Bool} → g.Term vars → Term
  term_of (g.named n xs) = call_of n (args_of xs)
  term_of (g.leaf x) = leaf_of x

  -- arguments
  pub args_of : {vars : Bool} → g.Args vars → List Term
  args_of g.bare = []
  args_of (g.args x xs) = term_of x ∷ terms_of xs

  -- the terms after a first one
  pub terms_of : {vars : Bool} {n : ℕ} → g.Terms vars n → List Term
  terms_of g.end = []
  terms_of (g.more x xs) = term_of x ∷ terms_of xs

-- an atom
abbrev pub atom_of : {vars : Bool} → g.Atom vars → Atom
atom_of (g.atom n xs) = record { name = n; args = args_of xs }

-- an operator
abbrev pub op_of : Tok → Op
op_of k.Plus = o.Add
op_of k.Minus = o.Sub
op_of k.Star = o.Mul
op_of k.Div = o.Div
op_of t = o.Mod

abbrev mutual
  -- a unit
  pub unit_of : ge.Unit → Expr
  unit_of (ge.single x) = e.Leaf (leaf_of x)
  unit_of (ge.grouped x) = expr_of x

  -- what is before multiplied by factors, from the left
  pub factors_of : ge.Factors → Expr → Expr
  factors_of ge.no_factor before = before
  factors_of (ge.times t is x xs) before = factors_of xs (e.Apply (op_of t) before (unit_of x))

  -- a product
  pub prod_of : ge.Prod → Expr
  prod_of (ge.prod x xs) = factors_of xs (unit_of x)

  -- summands added to what is before, from the left
  pub summands_of : ge.Summands → Expr → Expr
  summands_of ge.no_summand before = before
  summands_of (ge.plus t is x xs) before = summands_of xs (e.Apply (op_of t) before (prod_of x))

  -- an expression
  pub expr_of : ge.Expr → Expr
  expr_of (ge.expr x xs) = summands_of xs (prod_of x)

-- a relation of two expressions
abbrev pub rel_of : Tok → Rel
rel_of k.Less = r.Less
rel_of k.AtMost = r.AtMost
rel_of k.Greater = r.Greater
rel_of t = r.AtLeast

-- a relation of two times
abbrev pub time_rel_of : Tok → TimeRel
time_rel_of k.Less = tr.Less
time_rel_of k.AtMost = tr.AtMost
time_rel_of k.Equal = tr.Equal
time_rel_of k.Greater = tr.Greater
time_rel_of t = tr.AtLeast

-- the number with this sign
abbrev pub signed : Tok → ℕ → ℤ
signed k.Minus n = minus n
signed t n = pos n

-- a time
abbrev pub time_of : ℕ → TimeVar
time_of n = record { 0 = n }

-- a literal
abbrev pub lit_of : Bool → Atom → Lit
lit_of negated a = record { negated = negated; atom = a }

-- a built-in
abbrev pub built_of : gi.Built → Built
built_of (gi.same x y) = b.Same (term_of x) (term_of y)
built_of (gi.differ x y) = b.Differ (term_of x) (term_of y)
built_of (gi.evaluates x y) = b.Is (leaf_of x) (expr_of y)
built_of (gi.compare x t is y) = b.Compare (rel_of t) (expr_of x) (expr_of y)

-- a condition
abbrev pub cond_of : gi.Cond → Cond
cond_of (gi.holds a) = c.Lit (lit_of false (atom_of a))
cond_of (gi.fails a) = c.Lit (lit_of true (atom_of a))
cond_of (gi.built x) = c.Built (built_of x)

-- the conditions after a first one
abbrev pub conds_of : gi.MoreConds → List Cond
conds_of gi.no_cond = []
conds_of (gi.also x xs) = cond_of x ∷ conds_of xs

-- a literal at its time, if it has one
abbrev pub placed : Lit → gi.At → Item
placed l gi.untimed = i.Bare l
placed l (gi.at n) = i.At l (time_of n)

-- what is added to a time
abbrev pub shift_of : gi.Shift → ℤ
shift_of gi.unshifted = pos 0
shift_of (gi.shifted t is n small) = signed t n

-- a constraint
abbrev pub con_of : gi.Con → Con
con_of (gi.con x t is y plus) = record { left = time_of x; rel = time_rel_of t; right = time_of y; plus = shift_of plus }

-- an item
abbrev pub item_of : {bounds : Bool} → gi.Item bounds → Item
item_of (gi.true_at a w) = placed (lit_of false (atom_of a)) w
item_of (gi.false_at a w) = placed (lit_of true (atom_of a)) w
item_of (gi.spans a begin until) = i.Span (atom_of a) (time_of begin) (time_of until)
item_of (gi.tests x) = i.Built (built_of x)
item_of (gi.bound may x) = i.Con (con_of x)

-- the items after a first one
abbrev pub items_of : {bounds : Bool} → gi.MoreItems bounds → List Item
items_of gi.no_item = []
items_of (gi.then_item x xs) = item_of x ∷ items_of xs

-- a sequence
abbrev pub seq_of : {bounds : Bool} → gi.Seq bounds → List Item
seq_of (gi.seq x xs) = item_of x ∷ items_of xs

-- a kind
abbrev pub kind_of : Tok → Kind
kind_of k.Fluent = kd.Fluent
kind_of k.Event = kd.Event
kind_of k.Action = kd.Action
kind_of k.Timeless = kd.Timeless
kind_of k.Derived = kd.Derived
kind_of t = kd.Macro

-- a declaration with an arity
abbrev pub decl_of : Tok → gs.Decl → Decl
decl_of t (gs.decl n arity small) = record { kind = kind_of t; name = n; arity = arity; modes = [] }

-- the declarations after a first one
abbrev pub decls_of : Tok → gs.MoreDecls → List Decl
decls_of t gs.no_decl = []
decls_of t (gs.also_decl x xs) = decl_of t x ∷ decls_of t xs

abbrev mutual
  -- a mode and those after it
  pub modes_of : {n : ℕ} {free : Bool} → gs.Modes n free → List Mode
  modes_of (gs.input xs) = md.Plus ∷ more_modes_of xs
  modes_of (gs.output xs) = md.Minus ∷ more_modes_of xs
  modes_of (gs.falling may xs) = md.Star ∷ more_modes_of xs

  -- the modes after a first one
  pub more_modes_of : {n : ℕ} {free : Bool} → gs.MoreModes n free → List Mode
  more_modes_of gs.last_mode = []
  more_modes_of (gs.also_mode xs) = modes_of xs

-- the modes in parentheses, if there are any
abbrev pub mode_list_of : gs.ModeList → List Mode
mode_list_of gs.no_mode = []
mode_list_of (gs.modes xs) = modes_of xs

-- a declaration with modes
abbrev pub moded_of : Tok → gs.Moded → Decl
moded_of t (gs.moded n xs) = record { kind = kind_of t; name = n; arity = length (mode_list_of xs); modes = mode_list_of xs }

-- the declarations with modes after a first one
abbrev pub modeds_of : Tok → gs.MoreModed → List Decl
modeds_of t gs.no_moded = []
modeds_of t (gs.also_moded x xs) = moded_of t x ∷ modeds_of t xs

-- the atoms after a first one
abbrev pub atoms_of : gs.MoreAtoms → List Atom
atoms_of gs.no_atom = []
atoms_of (gs.also_atom x xs) = atom_of x ∷ atoms_of xs

-- the conditions after `if`, if it stands there
abbrev pub conditions_of : gs.Conditions → List Cond
conditions_of gs.always = []
conditions_of (gs.when x xs) = cond_of x ∷ conds_of xs

-- the alternatives after a first one
abbrev pub alternatives_of : gs.Alternatives → List (List Item)
alternatives_of gs.no_other = []
alternatives_of (gs.or_else x xs) = seq_of x ∷ alternatives_of xs

-- whether a law initiates its fluent
abbrev pub initiates : Tok → Bool
initiates k.Initiates = true
initiates t = false

-- a statement
abbrev pub body_of : gs.Statement → Body
body_of (gs.declares t is x xs) = bd.Declare (decl_of t x ∷ decls_of t xs)
body_of (gs.declares_modes t is x xs) = bd.Declare (moded_of t x ∷ modeds_of t xs)
body_of (gs.initially x xs) = bd.Initially (atom_of x ∷ atoms_of xs)
body_of (gs.denial x) = bd.Denial (seq_of x)
body_of (gs.rule x y ys) = bd.Rule (seq_of x) (seq_of y ∷ alternatives_of ys)
body_of (gs.law event t is fluent cs) = bd.Law (initiates t) (atom_of event) (atom_of fluent) (conditions_of cs)
body_of (gs.macro_clause a x y items) = bd.MacroClause (atom_of a) (time_of x) (time_of y) (seq_of items)
body_of (gs.clause a cs) = bd.Clause (atom_of a) (conditions_of cs)

-- each statement of a text with the place of its first token, where there are so many tokens in all
abbrev pub bodies_of : ℕ → gs.Text → List (ℕ × Body)
bodies_of total gs.done = []
bodies_of total (gs.next x xs) = (total - length (gs.spell_text (gs.next x xs) []), body_of x) ∷ bodies_of total xs

-- the events after a first one
abbrev pub more_events_of : gl.MoreEvents → List Atom
more_events_of gl.no_event = []
more_events_of (gl.also_event x xs) = atom_of x ∷ more_events_of xs

-- the events of a line
abbrev pub events_of : gl.Events → List Atom
events_of gl.none = []
events_of (gl.events x xs) = atom_of x ∷ more_events_of xs

-- the number of a line and its events
abbrev pub line_of : gl.Line → ℕ × List Atom
line_of (gl.line n xs) = (n, events_of xs)

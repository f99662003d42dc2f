-- No full stop stands within a statement: the tokens of each part are some without a full stop, and then what follows.
use Rattle.std.specs.Prelude.{ℕ, ◌≡◌, Bool, true, false, List, [], ◌∷◌, ◌++◌, refl}
use Rattle.std.proofs.Common.{◌∙◌, sym, ap}
use Rattle.std.proofs.lemmas.List.{append_assoc}
use Rattle.lps_grammar.specs.declared.tok.Tok.{Tok}
use Rattle.lps_grammar.specs.declared.tok.Tok.TheVariants as k
use Rattle.lps_grammar.specs.Signs.{is_add, is_effect, is_kind, is_moded_kind, is_mul, is_rel, is_time_rel}
use Rattle.lps_grammar.specs.Terms as te
use Rattle.lps_grammar.specs.Expressions as ex
use Rattle.lps_grammar.specs.Items as it
use Rattle.lps_grammar.specs.Statements as st
use Rattle.lps_roundtrip.specs.Along.{is_dot}

-- there is no full stop among these tokens
abbrev pub NoDots : List Tok → Type 0
NoDots [] = Unit {0}
NoDots (tok ∷ toks) = (is_dot tok ≡ false) × NoDots toks

-- these are some tokens without a full stop, and then what follows
pub record Cut (spell : List Tok → List Tok) : Type 0 where
  pub front : List Tok
  pub no_dots : NoDots front
  pub is : (rest : List Tok) → spell rest ≡ front ++ rest

cut_none : Cut (λ rest. rest)
cut_none = record { front = []; no_dots = tt; is = λ rest. refl }

cut_tok : (tok : Tok) (spell : List Tok → List Tok) → is_dot tok ≡ false → Cut spell → Cut (λ rest. tok ∷ spell rest)
cut_tok tok spell no_dot c = record { front = tok ∷ c.front; no_dots = (no_dot, c.no_dots); is = λ rest. ap (λ toks. tok ∷ toks) (c.is rest) }

no_dots_append : (first then : List Tok) → NoDots first → NoDots then → NoDots (first ++ then)
no_dots_append [] then a b = b
no_dots_append (tok ∷ first) then a b = (a.0, no_dots_append first then a.1 b)

cut_then : (first then : List Tok → List Tok) → Cut first → Cut then → Cut (λ rest. first (then rest))
cut_then first then a b = record {
  front = a.front ++ b.front;
  no_dots = no_dots_append a.front b.front a.no_dots b.no_dots;
  is = λ rest. a.is (then rest) ∙ ap (λ toks. a.front ++ toks) (b.is rest) ∙ sym (append_assoc a.front b.front rest);
}

-- a token of a kind that has no full stop
no_dot_by : (test : Tok → Bool) → test k.Dot ≡ false → (tok : Tok) → test tok ≡ true → is_dot tok ≡ false
no_dot_by test none k.Dot is = absurd cc
no_dot_by test none tok is = refl

-- ---- terms

leaf_cut : {vars : Bool} (x : te.Leaf vars) → Cut (te.spell_leaf x)
leaf_cut (te.variable may n) = cut_tok (k.Variable n) (λ rest. rest) refl cut_none
leaf_cut (te.number n small) = cut_tok (k.Number n) (λ rest. rest) refl cut_none
leaf_cut (te.negative n small) = cut_tok k.Minus (λ rest. k.Number n ∷ rest) refl (cut_tok (k.Number n) (λ rest. rest) refl cut_none)

mutual
  term_cut : {vars : Bool} (x : te.Term vars) → Cut (te.spell_term x)
  term_cut (te.named n xs) = cut_tok (k.Name n) (te.spell_args xs) refl (args_cut xs)
  term_cut (te.leaf x) = leaf_cut x

  args_cut : {vars : Bool} (xs : te.Args vars) → Cut (te.spell_args xs)
  args_cut te.bare = cut_none
  args_cut (te.args x xs) = cut_tok k.Open (λ rest. te.spell_term x (te.spell_terms xs rest)) refl (cut_then (te.spell_term x) (te.spell_terms xs) (term_cut x) (terms_cut xs))

  terms_cut : {vars : Bool} {n : ℕ} (xs : te.Terms vars n) → Cut (te.spell_terms xs)
  terms_cut te.end = cut_tok k.Close (λ rest. rest) refl cut_none
  terms_cut (te.more x xs) = cut_tok k.Comma (λ rest. te.spell_term x (te.spell_terms xs rest)) refl (cut_then (te.spell_term x) (te.spell_terms xs) (term_cut x) (terms_cut xs))

atom_cut : {vars : Bool} (x : te.Atom vars) → Cut (te.spell_atom x)
atom_cut (te.atom n xs) = cut_tok (k.Name n) (te.spell_args xs) refl (args_cut xs)

-- ---- expressions

mutual
  unit_cut : (x : ex.Unit) → Cut (ex.spell_unit x)
  unit_cut (ex.single x) = leaf_cut x
  unit_cut (ex.grouped x) =
      cut_tok k.Open (λ rest. ex.spell_expr x (k.Close ∷ rest)) refl
      (cut_then (ex.spell_expr x) (λ rest. k.Close ∷ rest) (expr_cut x) (cut_tok k.Close (λ rest. rest) refl cut_none))

  factors_cut : (xs : ex.Factors) → Cut (ex.spell_factors xs)
  factors_cut ex.no_factor = cut_none
  factors_cut (ex.times t is x xs) =
      cut_tok t (λ rest. ex.spell_unit x (ex.spell_factors xs rest)) (no_dot_by is_mul refl t is) (cut_then (ex.spell_unit x) (ex.spell_factors xs) (unit_cut x) (factors_cut xs))

  prod_cut : (p : ex.Prod) → Cut (ex.spell_prod p)
  prod_cut (ex.prod x xs) = cut_then (ex.spell_unit x) (ex.spell_factors xs) (unit_cut x) (factors_cut xs)

  summands_cut : (ps : ex.Summands) → Cut (ex.spell_summands ps)
  summands_cut ex.no_summand = cut_none
  summands_cut (ex.plus t is p ps) =
      cut_tok t (λ rest. ex.spell_prod p (ex.spell_summands ps rest)) (no_dot_by is_add refl t is) (cut_then (ex.spell_prod p) (ex.spell_summands ps) (prod_cut p) (summands_cut ps))

  expr_cut : (x : ex.Expr) → Cut (ex.spell_expr x)
  expr_cut (ex.expr p ps) = cut_then (ex.spell_prod p) (ex.spell_summands ps) (prod_cut p) (summands_cut ps)

-- ---- conditions and items

-- two parts with a token between them
between : (first then : List Tok → List Tok) (tok : Tok) → is_dot tok ≡ false → Cut first → Cut then → Cut (λ rest. first (tok ∷ then rest))
between first then tok no_dot a b = cut_then first (λ rest. tok ∷ then rest) a (cut_tok tok then no_dot b)

built_cut : (x : it.Built) → Cut (it.spell_built x)
built_cut (it.same x y) = between (te.spell_term x) (te.spell_term y) k.Equal refl (term_cut x) (term_cut y)
built_cut (it.differ x y) = between (te.spell_term x) (te.spell_term y) k.Differ refl (term_cut x) (term_cut y)
built_cut (it.evaluates x e) = between (te.spell_leaf x) (ex.spell_expr e) k.Is refl (leaf_cut x) (expr_cut e)
built_cut (it.compare a t is b) = between (ex.spell_expr a) (ex.spell_expr b) t (no_dot_by is_rel refl t is) (expr_cut a) (expr_cut b)

cond_cut : (x : it.Cond) → Cut (it.spell_cond x)
cond_cut (it.holds a) = atom_cut a
cond_cut (it.fails a) = cut_tok k.Not (te.spell_atom a) refl (atom_cut a)
cond_cut (it.built b) = built_cut b

conds_cut : (xs : it.MoreConds) → Cut (it.spell_conds xs)
conds_cut it.no_cond = cut_none
conds_cut (it.also x xs) = cut_tok k.Comma (λ rest. it.spell_cond x (it.spell_conds xs rest)) refl (cut_then (it.spell_cond x) (it.spell_conds xs) (cond_cut x) (conds_cut xs))

at_cut : (w : it.At) → Cut (it.spell_at w)
at_cut it.untimed = cut_none
at_cut (it.at t) = cut_tok k.At (λ rest. k.Time t ∷ rest) refl (cut_tok (k.Time t) (λ rest. rest) refl cut_none)

span_cut : (begin until : ℕ) → Cut (it.spell_span begin until)
span_cut begin until =
    cut_tok k.From (λ rest. k.Time begin ∷ k.To ∷ k.Time until ∷ rest) refl
    (cut_tok (k.Time begin) (λ rest. k.To ∷ k.Time until ∷ rest) refl
    (cut_tok k.To (λ rest. k.Time until ∷ rest) refl (cut_tok (k.Time until) (λ rest. rest) refl cut_none)))

shift_cut : (x : it.Shift) → Cut (it.spell_shift x)
shift_cut it.unshifted = cut_none
shift_cut (it.shifted t is n small) = cut_tok t (λ rest. k.Number n ∷ rest) (no_dot_by is_add refl t is) (cut_tok (k.Number n) (λ rest. rest) refl cut_none)

con_cut : (x : it.Con) → Cut (it.spell_con x)
con_cut (it.con a t is b plus) =
    cut_tok (k.Time a) (λ rest. t ∷ k.Time b ∷ it.spell_shift plus rest) refl
    (cut_tok t (λ rest. k.Time b ∷ it.spell_shift plus rest) (no_dot_by is_time_rel refl t is) (cut_tok (k.Time b) (it.spell_shift plus) refl (shift_cut plus)))

item_cut : {bounds : Bool} (x : it.Item bounds) → Cut (it.spell_item x)
item_cut (it.true_at a w) = cut_then (te.spell_atom a) (it.spell_at w) (atom_cut a) (at_cut w)
item_cut (it.false_at a w) = cut_tok k.Not (λ rest. te.spell_atom a (it.spell_at w rest)) refl (cut_then (te.spell_atom a) (it.spell_at w) (atom_cut a) (at_cut w))
item_cut (it.spans a begin until) = cut_then (te.spell_atom a) (it.spell_span begin until) (atom_cut a) (span_cut begin until)
item_cut (it.tests x) = built_cut x
item_cut (it.bound may x) = con_cut x

items_cut : {bounds : Bool} (xs : it.MoreItems bounds) → Cut (it.spell_items xs)
items_cut it.no_item = cut_none
items_cut (it.then_item x xs) = cut_tok k.Comma (λ rest. it.spell_item x (it.spell_items xs rest)) refl (cut_then (it.spell_item x) (it.spell_items xs) (item_cut x) (items_cut xs))

seq_cut : {bounds : Bool} (x : it.Seq bounds) → Cut (it.spell_seq x)
seq_cut (it.seq x xs) = cut_then (it.spell_item x) (it.spell_items xs) (item_cut x) (items_cut xs)

-- ---- statements

decl_cut : (x : st.Decl) → Cut (st.spell_decl x)
decl_cut (st.decl n arity small) =
    cut_tok (k.Name n) (λ rest. k.Slash ∷ k.Number arity ∷ rest) refl
    (cut_tok k.Slash (λ rest. k.Number arity ∷ rest) refl (cut_tok (k.Number arity) (λ rest. rest) refl cut_none))

decls_cut : (xs : st.MoreDecls) → Cut (st.spell_decls xs)
decls_cut st.no_decl = cut_none
decls_cut (st.also_decl x xs) = cut_tok k.Comma (λ rest. st.spell_decl x (st.spell_decls xs rest)) refl (cut_then (st.spell_decl x) (st.spell_decls xs) (decl_cut x) (decls_cut xs))

mutual
  modes_cut : {n : ℕ} {free : Bool} (x : st.Modes n free) → Cut (st.spell_modes x)
  modes_cut (st.input xs) = cut_tok k.Plus (st.spell_more_modes xs) refl (more_modes_cut xs)
  modes_cut (st.output xs) = cut_tok k.Minus (st.spell_more_modes xs) refl (more_modes_cut xs)
  modes_cut (st.falling may xs) = cut_tok k.Star (st.spell_more_modes xs) refl (more_modes_cut xs)

  more_modes_cut : {n : ℕ} {free : Bool} (x : st.MoreModes n free) → Cut (st.spell_more_modes x)
  more_modes_cut st.last_mode = cut_tok k.Close (λ rest. rest) refl cut_none
  more_modes_cut (st.also_mode xs) = cut_tok k.Comma (st.spell_modes xs) refl (modes_cut xs)

mode_list_cut : (x : st.ModeList) → Cut (st.spell_mode_list x)
mode_list_cut st.no_mode = cut_none
mode_list_cut (st.modes xs) = cut_tok k.Open (st.spell_modes xs) refl (modes_cut xs)

moded_cut : (x : st.Moded) → Cut (st.spell_moded x)
moded_cut (st.moded n xs) = cut_tok (k.Name n) (st.spell_mode_list xs) refl (mode_list_cut xs)

modeds_cut : (xs : st.MoreModed) → Cut (st.spell_modeds xs)
modeds_cut st.no_moded = cut_none
modeds_cut (st.also_moded x xs) =
    cut_tok k.Comma (λ rest. st.spell_moded x (st.spell_modeds xs rest)) refl (cut_then (st.spell_moded x) (st.spell_modeds xs) (moded_cut x) (modeds_cut xs))

atoms_cut : (xs : st.MoreAtoms) → Cut (st.spell_atoms xs)
atoms_cut st.no_atom = cut_none
atoms_cut (st.also_atom x xs) = cut_tok k.Comma (λ rest. te.spell_atom x (st.spell_atoms xs rest)) refl (cut_then (te.spell_atom x) (st.spell_atoms xs) (atom_cut x) (atoms_cut xs))

conditions_cut : (x : st.Conditions) → Cut (st.spell_conditions x)
conditions_cut st.always = cut_none
conditions_cut (st.when x xs) = cut_tok k.If (λ rest. it.spell_cond x (it.spell_conds xs rest)) refl (cut_then (it.spell_cond x) (it.spell_conds xs) (cond_cut x) (conds_cut xs))

alternatives_cut : (xs : st.Alternatives) → Cut (st.spell_alternatives xs)
alternatives_cut st.no_other = cut_none
alternatives_cut (st.or_else x xs) =
    cut_tok k.Or (λ rest. it.spell_seq x (st.spell_alternatives xs rest)) refl (cut_then (it.spell_seq x) (st.spell_alternatives xs) (seq_cut x) (alternatives_cut xs))

pub statement_cut : (x : st.Statement) → Cut (st.spell_statement x)
statement_cut (st.declares t is x xs) =
    cut_tok t (λ rest. st.spell_decl x (st.spell_decls xs rest)) (no_dot_by is_kind refl t is) (cut_then (st.spell_decl x) (st.spell_decls xs) (decl_cut x) (decls_cut xs))
statement_cut (st.declares_modes t is x xs) =
    cut_tok t (λ rest. st.spell_moded x (st.spell_modeds xs rest)) (no_dot_by is_moded_kind refl t is) (cut_then (st.spell_moded x) (st.spell_modeds xs) (moded_cut x) (modeds_cut xs))
statement_cut (st.initially x xs) = cut_tok k.Initially (λ rest. te.spell_atom x (st.spell_atoms xs rest)) refl (cut_then (te.spell_atom x) (st.spell_atoms xs) (atom_cut x) (atoms_cut xs))
statement_cut (st.denial x) = cut_tok k.False (it.spell_seq x) refl (seq_cut x)
statement_cut (st.rule x y ys) =
    cut_tok k.If (λ rest. it.spell_seq x (k.Then ∷ it.spell_seq y (st.spell_alternatives ys rest))) refl
    (between (it.spell_seq x) (λ rest. it.spell_seq y (st.spell_alternatives ys rest)) k.Then refl (seq_cut x)
    (cut_then (it.spell_seq y) (st.spell_alternatives ys) (seq_cut y) (alternatives_cut ys)))
statement_cut (st.law event t is fluent cs) =
    between (te.spell_atom event) (λ rest. te.spell_atom fluent (st.spell_conditions cs rest)) t (no_dot_by is_effect refl t is) (atom_cut event)
    (cut_then (te.spell_atom fluent) (st.spell_conditions cs) (atom_cut fluent) (conditions_cut cs))
statement_cut (st.macro_clause a begin until x) =
    cut_then (te.spell_atom a) (λ rest. it.spell_span begin until (k.If ∷ it.spell_seq x rest)) (atom_cut a)
    (between (it.spell_span begin until) (it.spell_seq x) k.If refl (span_cut begin until) (seq_cut x))
statement_cut (st.clause a cs) = cut_then (te.spell_atom a) (st.spell_conditions cs) (atom_cut a) (conditions_cut cs)

-- The tokens of canonical trees are those of the trees with some light ones left out.
use Rattle.std.specs.Prelude.{ℕ, zero, suc, ◌≡◌, Bool, true, List, [], ◌∷◌, refl}
use Rattle.std.proofs.Common.{sym, ap, subst}
use Rattle.lps_grammar.specs.declared.tok.Tok.{Tok}
use Rattle.lps_grammar.specs.declared.tok.Tok.TheVariants as k
use Rattle.lps_grammar.specs.Signs.{is_add}
use Rattle.lps_grammar.specs.Terms as te
use Rattle.lps_grammar.specs.Expressions as ex
use Rattle.lps_grammar.specs.Items as it
use Rattle.lps_grammar.specs.Statements as st
use Rattle.lps_roundtrip.specs.Thinner.{Thinner, is_light}
use Rattle.lps_roundtrip.specs.Canonical as ca

-- whatever follows, the second spelling is the first with light tokens left out
abbrev pub Thins : (List Tok → List Tok) → (List Tok → List Tok) → Type 0
Thins a b = (rest rest' : List Tok) → Thinner rest rest' → Thinner (a rest) (b rest')

-- ---- terms

pub leaf_thins : {vars : Bool} (x : te.Leaf vars) → Thins (te.spell_leaf x) (te.spell_leaf (ca.canonical_leaf x))
leaf_thins (te.variable may n) rest rest' h = Thinner.keep (k.Variable n) h
leaf_thins (te.number n small) rest rest' h = Thinner.keep (k.Number n) h
leaf_thins (te.negative zero small) rest rest' h = Thinner.leave k.Minus refl (Thinner.keep (k.Number 0) h)
leaf_thins (te.negative (suc n) small) rest rest' h = Thinner.keep k.Minus (Thinner.keep (k.Number (suc n)) h)

mutual
  pub term_thins : {vars : Bool} (x : te.Term vars) → Thins (te.spell_term x) (te.spell_term (ca.canonical_term x))
  term_thins (te.named n xs) rest rest' h = Thinner.keep (k.Name n) (args_thin xs rest rest' h)
  term_thins (te.leaf x) rest rest' h = leaf_thins x rest rest' h

  args_thin : {vars : Bool} (xs : te.Args vars) → Thins (te.spell_args xs) (te.spell_args (ca.canonical_args xs))
  args_thin te.bare rest rest' h = h
  args_thin (te.args x xs) rest rest' h =
      Thinner.keep k.Open (term_thins x (te.spell_terms xs rest) (te.spell_terms (ca.canonical_terms xs) rest') (terms_thin xs rest rest' h))

  terms_thin : {vars : Bool} {n : ℕ} (xs : te.Terms vars n) → Thins (te.spell_terms xs) (te.spell_terms (ca.canonical_terms xs))
  terms_thin te.end rest rest' h = Thinner.keep k.Close h
  terms_thin (te.more x xs) rest rest' h =
      Thinner.keep k.Comma (term_thins x (te.spell_terms xs rest) (te.spell_terms (ca.canonical_terms xs) rest') (terms_thin xs rest rest' h))

pub atom_thins : {vars : Bool} (x : te.Atom vars) → Thins (te.spell_atom x) (te.spell_atom (ca.canonical_atom x))
atom_thins (te.atom n xs) rest rest' h = Thinner.keep (k.Name n) (args_thin xs rest rest' h)

-- ---- expressions

-- something in parentheses where a unit has to stand
grouped_unit : (a : List Tok → List Tok) (x : ex.Expr) → Thins a (ex.spell_expr x) → Thins (λ r. k.Open ∷ a (k.Close ∷ r)) (ex.spell_unit (ca.as_unit x))
grouped_unit a (ex.expr (ex.prod x ex.no_factor) ex.no_summand) th rest rest' h = Thinner.leave k.Open refl (th (k.Close ∷ rest) rest' (Thinner.leave k.Close refl h))
grouped_unit a (ex.expr (ex.prod x (ex.times t is y ys)) ps) th rest rest' h = Thinner.keep k.Open (th (k.Close ∷ rest) (k.Close ∷ rest') (Thinner.keep k.Close h))
grouped_unit a (ex.expr p (ex.plus t is q qs)) th rest rest' h = Thinner.keep k.Open (th (k.Close ∷ rest) (k.Close ∷ rest') (Thinner.keep k.Close h))

-- something in parentheses where a product has to stand
grouped_prod : (a : List Tok → List Tok) (x : ex.Expr) → Thins a (ex.spell_expr x) → Thins (λ r. k.Open ∷ a (k.Close ∷ r)) (ex.spell_prod (ca.as_prod x))
grouped_prod a (ex.expr p ex.no_summand) th rest rest' h = Thinner.leave k.Open refl (th (k.Close ∷ rest) rest' (Thinner.leave k.Close refl h))
grouped_prod a (ex.expr p (ex.plus t is q qs)) th rest rest' h = Thinner.keep k.Open (th (k.Close ∷ rest) (k.Close ∷ rest') (Thinner.keep k.Close h))

append_factors_spelled : (xs ys : ex.Factors) (rest : List Tok) → ex.spell_factors (ca.append_factors xs ys) rest ≡ ex.spell_factors xs (ex.spell_factors ys rest)
append_factors_spelled ex.no_factor ys rest = refl
append_factors_spelled (ex.times t is x xs) ys rest = ap (λ us. t ∷ ex.spell_unit x us) (append_factors_spelled xs ys rest)

pub with_factors_spelled : (p : ex.Prod) (ys : ex.Factors) (rest : List Tok) → ex.spell_prod (ca.with_factors p ys) rest ≡ ex.spell_prod p (ex.spell_factors ys rest)
with_factors_spelled (ex.prod x xs) ys rest = ap (ex.spell_unit x) (append_factors_spelled xs ys rest)

append_summands_spelled : (ps qs : ex.Summands) (rest : List Tok) → ex.spell_summands (ca.append_summands ps qs) rest ≡ ex.spell_summands ps (ex.spell_summands qs rest)
append_summands_spelled ex.no_summand qs rest = refl
append_summands_spelled (ex.plus t is p ps) qs rest = ap (λ us. t ∷ ex.spell_prod p us) (append_summands_spelled ps qs rest)

pub with_summands_spelled : (x : ex.Expr) (qs : ex.Summands) (rest : List Tok) → ex.spell_expr (ca.with_summands x qs) rest ≡ ex.spell_expr x (ex.spell_summands qs rest)
with_summands_spelled (ex.expr p ps) qs rest = ap (ex.spell_prod p) (append_summands_spelled ps qs rest)

append_none : (ps : ex.Summands) → ca.append_summands ps ex.no_summand ≡ ps
append_none ex.no_summand = refl
append_none (ex.plus t is p ps) = ap (ex.plus t is p) (append_none ps)

pub with_none : (x : ex.Expr) → ca.with_summands x ex.no_summand ≡ x
with_none (ex.expr p ps) = ap (ex.expr p) (append_none ps)

-- something and factors after it, where a product has to stand
module _ (a b : List Tok → List Tok) (x : ex.Expr) (firm : Thins a (ex.spell_prod (ca.as_prod x))) where
  times_thin : (ys : ex.Factors) → Thins b (ex.spell_factors ys) → Thins (λ r. a (b r)) (ex.spell_prod (ca.with_factors (ca.as_prod x) ys))
  times_thin ys th rest rest' h =
      subst (Thinner (a (b rest))) (sym (with_factors_spelled (ca.as_prod x) ys rest')) (firm (b rest) (ex.spell_factors ys rest') (th rest rest' h))

  multiplied_firmly : (ys : ex.Factors) → Thins b (ex.spell_factors ys) → Thins (λ r. a (b r)) (ex.spell_prod (ca.as_prod (ca.multiplied x ys)))
  multiplied_firmly ex.no_factor th rest rest' h = firm (b rest) rest' (th rest rest' h)
  multiplied_firmly (ex.times t is y ys) th rest rest' h = times_thin (ex.times t is y ys) th rest rest' h

  multiplied_thins : (ys : ex.Factors) → Thins a (ex.spell_expr x) → Thins b (ex.spell_factors ys) → Thins (λ r. a (b r)) (ex.spell_expr (ca.multiplied x ys))
  multiplied_thins ex.no_factor loose th rest rest' h = loose (b rest) rest' (th rest rest' h)
  multiplied_thins (ex.times t is y ys) loose th rest rest' h = times_thin (ex.times t is y ys) th rest rest' h

mutual
  loose_unit_thins : (x : ex.Unit) → Thins (ex.spell_unit x) (ex.spell_expr (ca.loose_unit x))
  loose_unit_thins (ex.single x) rest rest' h = leaf_thins x rest rest' h
  loose_unit_thins (ex.grouped x) rest rest' h = Thinner.leave k.Open refl (expr_thins x (k.Close ∷ rest) rest' (Thinner.leave k.Close refl h))

  first_unit_thins : (x : ex.Unit) → Thins (ex.spell_unit x) (ex.spell_prod (ca.as_prod (ca.loose_unit x)))
  first_unit_thins (ex.single x) rest rest' h = leaf_thins x rest rest' h
  first_unit_thins (ex.grouped x) rest rest' h = grouped_prod (ex.spell_expr x) (ca.canonical_expr x) (expr_thins x) rest rest' h

  unit_thins : (x : ex.Unit) → Thins (ex.spell_unit x) (ex.spell_unit (ca.as_unit (ca.loose_unit x)))
  unit_thins (ex.single x) rest rest' h = leaf_thins x rest rest' h
  unit_thins (ex.grouped x) rest rest' h = grouped_unit (ex.spell_expr x) (ca.canonical_expr x) (expr_thins x) rest rest' h

  factors_thin : (xs : ex.Factors) → Thins (ex.spell_factors xs) (ex.spell_factors (ca.canonical_factors xs))
  factors_thin ex.no_factor rest rest' h = h
  factors_thin (ex.times t is x xs) rest rest' h =
      Thinner.keep t (unit_thins x (ex.spell_factors xs rest) (ex.spell_factors (ca.canonical_factors xs) rest') (factors_thin xs rest rest' h))

  loose_prod_thins : (p : ex.Prod) → Thins (ex.spell_prod p) (ex.spell_expr (ca.loose_prod p))
  loose_prod_thins (ex.prod x xs) =
      multiplied_thins (ex.spell_unit x) (ex.spell_factors xs) (ca.loose_unit x) (first_unit_thins x) (ca.canonical_factors xs) (loose_unit_thins x) (factors_thin xs)

  prod_thins : (p : ex.Prod) → Thins (ex.spell_prod p) (ex.spell_prod (ca.as_prod (ca.loose_prod p)))
  prod_thins (ex.prod x xs) =
      multiplied_firmly (ex.spell_unit x) (ex.spell_factors xs) (ca.loose_unit x) (first_unit_thins x) (ca.canonical_factors xs) (factors_thin xs)

  summands_thin : (ps : ex.Summands) → Thins (ex.spell_summands ps) (ex.spell_summands (ca.canonical_summands ps))
  summands_thin ex.no_summand rest rest' h = h
  summands_thin (ex.plus t is p ps) rest rest' h =
      Thinner.keep t (prod_thins p (ex.spell_summands ps rest) (ex.spell_summands (ca.canonical_summands ps) rest') (summands_thin ps rest rest' h))

  pub expr_thins : (x : ex.Expr) → Thins (ex.spell_expr x) (ex.spell_expr (ca.canonical_expr x))
  expr_thins (ex.expr p ps) rest rest' h =
      subst (Thinner (ex.spell_prod p (ex.spell_summands ps rest))) (sym (with_summands_spelled (ca.loose_prod p) (ca.canonical_summands ps) rest'))
      (loose_prod_thins p (ex.spell_summands ps rest) (ex.spell_summands (ca.canonical_summands ps) rest') (summands_thin ps rest rest' h))

-- ---- conditions and items

built_thins : (x : it.Built) → Thins (it.spell_built x) (it.spell_built (ca.canonical_built x))
built_thins (it.same x y) rest rest' h =
    term_thins x (k.Equal ∷ te.spell_term y rest) (k.Equal ∷ te.spell_term (ca.canonical_term y) rest') (Thinner.keep k.Equal (term_thins y rest rest' h))
built_thins (it.differ x y) rest rest' h =
    term_thins x (k.Differ ∷ te.spell_term y rest) (k.Differ ∷ te.spell_term (ca.canonical_term y) rest') (Thinner.keep k.Differ (term_thins y rest rest' h))
built_thins (it.evaluates x y) rest rest' h =
    leaf_thins x (k.Is ∷ ex.spell_expr y rest) (k.Is ∷ ex.spell_expr (ca.canonical_expr y) rest') (Thinner.keep k.Is (expr_thins y rest rest' h))
built_thins (it.compare x t is y) rest rest' h =
    expr_thins x (t ∷ ex.spell_expr y rest) (t ∷ ex.spell_expr (ca.canonical_expr y) rest') (Thinner.keep t (expr_thins y rest rest' h))

cond_thins : (x : it.Cond) → Thins (it.spell_cond x) (it.spell_cond (ca.canonical_cond x))
cond_thins (it.holds a) = atom_thins a
cond_thins (it.fails a) = λ rest rest' h. Thinner.keep k.Not (atom_thins a rest rest' h)
cond_thins (it.built x) = built_thins x

conds_thin : (xs : it.MoreConds) → Thins (it.spell_conds xs) (it.spell_conds (ca.canonical_conds xs))
conds_thin it.no_cond rest rest' h = h
conds_thin (it.also x xs) rest rest' h =
    Thinner.keep k.Comma (cond_thins x (it.spell_conds xs rest) (it.spell_conds (ca.canonical_conds xs) rest') (conds_thin xs rest rest' h))

at_thins : (x : it.At) → Thins (it.spell_at x) (it.spell_at x)
at_thins it.untimed rest rest' h = h
at_thins (it.at t) rest rest' h = Thinner.keep k.At (Thinner.keep (k.Time t) h)

span_thins : (begin until : ℕ) → Thins (it.spell_span begin until) (it.spell_span begin until)
span_thins begin until rest rest' h = Thinner.keep k.From (Thinner.keep (k.Time begin) (Thinner.keep k.To (Thinner.keep (k.Time until) h)))

-- a sign may be left out
add_is_light : (t : Tok) → is_add t ≡ true → is_light t ≡ true
add_is_light k.Plus is = refl
add_is_light k.Minus is = refl
add_is_light t is = absurd cc

shift_thins : (x : it.Shift) → Thins (it.spell_shift x) (it.spell_shift (ca.canonical_shift x))
shift_thins it.unshifted rest rest' h = h
shift_thins (it.shifted t is zero small) rest rest' h = Thinner.leave t (add_is_light t is) (Thinner.leave (k.Number 0) refl h)
shift_thins (it.shifted t is (suc n) small) rest rest' h = Thinner.keep t (Thinner.keep (k.Number (suc n)) h)

con_thins : (x : it.Con) → Thins (it.spell_con x) (it.spell_con (ca.canonical_con x))
con_thins (it.con a t is b plus) rest rest' h = Thinner.keep (k.Time a) (Thinner.keep t (Thinner.keep (k.Time b) (shift_thins plus rest rest' h)))

item_thins : {bounds : Bool} (x : it.Item bounds) → Thins (it.spell_item x) (it.spell_item (ca.canonical_item x))
item_thins (it.true_at a w) rest rest' h = atom_thins a (it.spell_at w rest) (it.spell_at w rest') (at_thins w rest rest' h)
item_thins (it.false_at a w) rest rest' h = Thinner.keep k.Not (atom_thins a (it.spell_at w rest) (it.spell_at w rest') (at_thins w rest rest' h))
item_thins (it.spans a begin until) rest rest' h =
    atom_thins a (it.spell_span begin until rest) (it.spell_span begin until rest') (span_thins begin until rest rest' h)
item_thins (it.tests x) rest rest' h = built_thins x rest rest' h
item_thins (it.bound may x) rest rest' h = con_thins x rest rest' h

items_thin : {bounds : Bool} (xs : it.MoreItems bounds) → Thins (it.spell_items xs) (it.spell_items (ca.canonical_items xs))
items_thin it.no_item rest rest' h = h
items_thin (it.then_item x xs) rest rest' h =
    Thinner.keep k.Comma (item_thins x (it.spell_items xs rest) (it.spell_items (ca.canonical_items xs) rest') (items_thin xs rest rest' h))

seq_thins : {bounds : Bool} (x : it.Seq bounds) → Thins (it.spell_seq x) (it.spell_seq (ca.canonical_seq x))
seq_thins (it.seq x xs) rest rest' h = item_thins x (it.spell_items xs rest) (it.spell_items (ca.canonical_items xs) rest') (items_thin xs rest rest' h)

-- ---- statements

decl_thins : (x : st.Decl) → Thins (st.spell_decl x) (st.spell_decl x)
decl_thins (st.decl n arity small) rest rest' h = Thinner.keep (k.Name n) (Thinner.keep k.Slash (Thinner.keep (k.Number arity) h))

decls_thin : (xs : st.MoreDecls) → Thins (st.spell_decls xs) (st.spell_decls xs)
decls_thin st.no_decl rest rest' h = h
decls_thin (st.also_decl x xs) rest rest' h = Thinner.keep k.Comma (decl_thins x (st.spell_decls xs rest) (st.spell_decls xs rest') (decls_thin xs rest rest' h))

mutual
  modes_thin : {n : ℕ} {free : Bool} (x : st.Modes n free) → Thins (st.spell_modes x) (st.spell_modes x)
  modes_thin (st.input xs) rest rest' h = Thinner.keep k.Plus (more_modes_thin xs rest rest' h)
  modes_thin (st.output xs) rest rest' h = Thinner.keep k.Minus (more_modes_thin xs rest rest' h)
  modes_thin (st.falling may xs) rest rest' h = Thinner.keep k.Star (more_modes_thin xs rest rest' h)

  more_modes_thin : {n : ℕ} {free : Bool} (x : st.MoreModes n free) → Thins (st.spell_more_modes x) (st.spell_more_modes x)
  more_modes_thin st.last_mode rest rest' h = Thinner.keep k.Close h
  more_modes_thin (st.also_mode xs) rest rest' h = Thinner.keep k.Comma (modes_thin xs rest rest' h)

mode_list_thins : (x : st.ModeList) → Thins (st.spell_mode_list x) (st.spell_mode_list x)
mode_list_thins st.no_mode rest rest' h = h
mode_list_thins (st.modes xs) rest rest' h = Thinner.keep k.Open (modes_thin xs rest rest' h)

moded_thins : (x : st.Moded) → Thins (st.spell_moded x) (st.spell_moded x)
moded_thins (st.moded n xs) rest rest' h = Thinner.keep (k.Name n) (mode_list_thins xs rest rest' h)

modeds_thin : (xs : st.MoreModed) → Thins (st.spell_modeds xs) (st.spell_modeds xs)
modeds_thin st.no_moded rest rest' h = h
modeds_thin (st.also_moded x xs) rest rest' h = Thinner.keep k.Comma (moded_thins x (st.spell_modeds xs rest) (st.spell_modeds xs rest') (modeds_thin xs rest rest' h))

atoms_thin : (xs : st.MoreAtoms) → Thins (st.spell_atoms xs) (st.spell_atoms (ca.canonical_atoms xs))
atoms_thin st.no_atom rest rest' h = h
atoms_thin (st.also_atom x xs) rest rest' h =
    Thinner.keep k.Comma (atom_thins x (st.spell_atoms xs rest) (st.spell_atoms (ca.canonical_atoms xs) rest') (atoms_thin xs rest rest' h))

conditions_thin : (x : st.Conditions) → Thins (st.spell_conditions x) (st.spell_conditions (ca.canonical_conditions x))
conditions_thin st.always rest rest' h = h
conditions_thin (st.when x xs) rest rest' h =
    Thinner.keep k.If (cond_thins x (it.spell_conds xs rest) (it.spell_conds (ca.canonical_conds xs) rest') (conds_thin xs rest rest' h))

alternatives_thin : (xs : st.Alternatives) → Thins (st.spell_alternatives xs) (st.spell_alternatives (ca.canonical_alternatives xs))
alternatives_thin st.no_other rest rest' h = h
alternatives_thin (st.or_else x xs) rest rest' h =
    Thinner.keep k.Or (seq_thins x (st.spell_alternatives xs rest) (st.spell_alternatives (ca.canonical_alternatives xs) rest') (alternatives_thin xs rest rest' h))

pub statement_thins : (x : st.Statement) → Thins (st.spell_statement x) (st.spell_statement (ca.canonical_statement x))
statement_thins (st.declares t is x xs) rest rest' h = Thinner.keep t (decl_thins x (st.spell_decls xs rest) (st.spell_decls xs rest') (decls_thin xs rest rest' h))
statement_thins (st.declares_modes t is x xs) rest rest' h =
    Thinner.keep t (moded_thins x (st.spell_modeds xs rest) (st.spell_modeds xs rest') (modeds_thin xs rest rest' h))
statement_thins (st.initially x xs) rest rest' h =
    Thinner.keep k.Initially (atom_thins x (st.spell_atoms xs rest) (st.spell_atoms (ca.canonical_atoms xs) rest') (atoms_thin xs rest rest' h))
statement_thins (st.denial x) rest rest' h = Thinner.keep k.False (seq_thins x rest rest' h)
statement_thins (st.rule x y ys) rest rest' h =
    let after = it.spell_seq y (st.spell_alternatives ys rest) in
    let after' = it.spell_seq (ca.canonical_seq y) (st.spell_alternatives (ca.canonical_alternatives ys) rest') in
    let last : Thinner after after' = seq_thins y (st.spell_alternatives ys rest) (st.spell_alternatives (ca.canonical_alternatives ys) rest') (alternatives_thin ys rest rest' h) in
    Thinner.keep k.If (seq_thins x (k.Then ∷ after) (k.Then ∷ after') (Thinner.keep k.Then last))
statement_thins (st.law event t is fluent cs) rest rest' h =
    let after = te.spell_atom fluent (st.spell_conditions cs rest) in
    let after' = te.spell_atom (ca.canonical_atom fluent) (st.spell_conditions (ca.canonical_conditions cs) rest') in
    let last : Thinner after after' = atom_thins fluent (st.spell_conditions cs rest) (st.spell_conditions (ca.canonical_conditions cs) rest') (conditions_thin cs rest rest' h) in
    atom_thins event (t ∷ after) (t ∷ after') (Thinner.keep t last)
statement_thins (st.macro_clause a begin until x) rest rest' h =
    let after = k.If ∷ it.spell_seq x rest in
    let after' = k.If ∷ it.spell_seq (ca.canonical_seq x) rest' in
    let last : Thinner after after' = Thinner.keep k.If (seq_thins x rest rest' h) in
    atom_thins a (it.spell_span begin until after) (it.spell_span begin until after') (span_thins begin until after after' last)
statement_thins (st.clause a cs) rest rest' h =
    atom_thins a (st.spell_conditions cs rest) (st.spell_conditions (ca.canonical_conditions cs) rest') (conditions_thin cs rest rest' h)

pub text_thins : (x : st.Text) → Thins (st.spell_text x) (st.spell_text (ca.canonical_text x))
text_thins st.done rest rest' h = h
text_thins (st.next x xs) rest rest' h =
    statement_thins x (k.Dot ∷ st.spell_text xs rest) (k.Dot ∷ st.spell_text (ca.canonical_text xs) rest') (Thinner.keep k.Dot (text_thins xs rest rest' h))

-- tokens are themselves with none left out
pub none_left_out : (ts : List Tok) → Thinner ts ts
none_left_out [] = Thinner.none
none_left_out (t ∷ ts) = Thinner.keep t (none_left_out ts)

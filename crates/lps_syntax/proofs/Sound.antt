-- What running goes through can be gone on with to the tokens of a tree.
use Rattle.std.specs.Prelude.{ℕ, zero, suc, ◌≡◌, Bool, true, false, List, [], ◌∷◌, ◌++◌, Option, Some, None, nat_le, nat_lt, ◌^◌, refl, if◌then◌else◌, ◌⊎◌}
use Rattle.std.proofs.Common.{◌∙◌, sym, ap, subst, inl, inr, append-nil}
use Rattle.lps_grammar.specs.declared.tok.Tok.{Tok}
use Rattle.lps_grammar.specs.declared.tok.Tok.TheVariants as k
use Rattle.lps_grammar.specs.Signs.{is_mul, is_add, is_op, is_rel, is_time_rel, is_effect}
use Rattle.lps_grammar.specs.Terms as te
use Rattle.lps_grammar.specs.Expressions as ex
use Rattle.lps_grammar.specs.Items as it
use Rattle.lps_grammar.specs.Statements as st
use Rattle.lps_grammar.specs.Statements.{IsText, BeginsText}
use Rattle.lps_grammar.specs.Lines as li
use Rattle.lps_grammar.specs.Lines.{IsLine, BeginsLine}
use Rattle.lps_syntax.specs.declared.frame.Frame.{Frame}
use Rattle.lps_syntax.specs.declared.frame.Frame.TheVariants as f
use Rattle.lps_syntax.specs.declared.moved.Move.{Move}
use Rattle.lps_syntax.specs.declared.moved.Move.TheVariants as m
use Rattle.lps_syntax.specs.Moves as mv
use Rattle.lps_syntax.specs.Moves.{move_of}
use Rattle.lps_syntax.specs.Runs.{run, step, moved, then_on}

some_same : {v u : List Frame} → Some v ≡ Some u → v ≡ u
some_same e = cc

-- ---- units after the first, without their binding

data Flat : Type 0 where
  no_more : Flat
  op_then : (t : Tok) → is_op t ≡ true → ex.Unit → Flat → Flat

abbrev spell_flat : Flat → List Tok → List Tok
spell_flat no_more rest = rest
spell_flat (op_then t is x xs) rest = t ∷ ex.spell_unit x (spell_flat xs rest)

op_split : (t : Tok) → is_op t ≡ true → (is_mul t ≡ true) ⊎ (is_add t ≡ true)
op_split k.Plus e = inr refl
op_split k.Minus e = inr refl
op_split k.Star e = inl refl
op_split k.Div e = inl refl
op_split k.Mod e = inl refl
op_split t e = absurd cc

abbrev glue : ex.Unit → (t : Tok) → (is_mul t ≡ true) ⊎ (is_add t ≡ true) → ex.Expr → ex.Expr
glue x t (inl is) (ex.expr (ex.prod y ys) ps) = ex.expr (ex.prod x (ex.times t is y ys)) ps
glue x t (inr is) (ex.expr p ps) = ex.expr (ex.prod x ex.no_factor) (ex.plus t is p ps)

glue_spells : (x : ex.Unit) (t : Tok) (is : (is_mul t ≡ true) ⊎ (is_add t ≡ true)) (e : ex.Expr) (rest : List Tok) →
    ex.spell_expr (glue x t is e) rest ≡ ex.spell_unit x (t ∷ ex.spell_expr e rest)
glue_spells x t (inl is) (ex.expr (ex.prod y ys) ps) rest = refl
glue_spells x t (inr is) (ex.expr p ps) rest = refl

abbrev to_expr : ex.Unit → Flat → ex.Expr
to_expr x no_more = ex.expr (ex.prod x ex.no_factor) ex.no_summand
to_expr x (op_then t is y ys) = glue x t (op_split t is) (to_expr y ys)

expr_spells : (x : ex.Unit) (xs : Flat) (rest : List Tok) → ex.spell_expr (to_expr x xs) rest ≡ ex.spell_unit x (spell_flat xs rest)
expr_spells x no_more rest = refl
expr_spells x (op_then t is y ys) rest =
    glue_spells x t (op_split t is) (to_expr y ys) rest ∙ ap (λ us. ex.spell_unit x (t ∷ us)) (expr_spells y ys rest)

-- ---- what may follow a part that has begun

data After : Type 0 where
  no_side : After
  is_same : te.Term true → After
  is_other : te.Term true → After

abbrev spell_after : After → List Tok → List Tok
spell_after no_side rest = rest
spell_after (is_same y) rest = k.Equal ∷ te.spell_term y rest
spell_after (is_other y) rest = k.Differ ∷ te.spell_term y rest

data ItemAfter : Type 0 where
  placed : it.At → ItemAfter
  placed_span : ℕ → ℕ → ItemAfter
  item_same : te.Term true → ItemAfter
  item_other : te.Term true → ItemAfter

abbrev spell_item_after : ItemAfter → List Tok → List Tok
spell_item_after (placed x) rest = it.spell_at x rest
spell_item_after (placed_span begin until) rest = it.spell_span begin until rest
spell_item_after (item_same y) rest = k.Equal ∷ te.spell_term y rest
spell_item_after (item_other y) rest = k.Differ ∷ te.spell_term y rest

data Tail : Type 0 where
  tail : Flat → (t : Tok) → is_rel t ≡ true → ex.Unit → Flat → Tail

abbrev spell_tail : Tail → List Tok → List Tok
spell_tail (tail xs t is y ys) rest = spell_flat xs (t ∷ ex.spell_unit y (spell_flat ys rest))

data Side : Type 0 where
  side_same : te.Term true → Side
  side_other : te.Term true → Side
  side_is : ex.Unit → Flat → Side
  side_tail : Tail → Side

abbrev spell_side : Side → List Tok → List Tok
spell_side (side_same y) rest = k.Equal ∷ te.spell_term y rest
spell_side (side_other y) rest = k.Differ ∷ te.spell_term y rest
spell_side (side_is y ys) rest = k.Is ∷ ex.spell_unit y (spell_flat ys rest)
spell_side (side_tail x) rest = spell_tail x rest

data RuleRest : Type 0 where
  rule_rest : it.MoreItems true → it.Seq true → st.Alternatives → RuleRest

abbrev spell_rule_rest : RuleRest → List Tok → List Tok
spell_rule_rest (rule_rest xs y ys) rest = it.spell_items xs (k.Then ∷ it.spell_seq y (st.spell_alternatives ys rest))

data HeadRest : Type 0 where
  head_law : (t : Tok) → is_effect t ≡ true → te.Atom true → st.Conditions → HeadRest
  head_macro : ℕ → ℕ → it.Seq true → HeadRest
  head_clause : st.Conditions → HeadRest

abbrev spell_head : HeadRest → List Tok → List Tok
spell_head (head_law t is fluent cs) rest = t ∷ te.spell_atom fluent (st.spell_conditions cs rest)
spell_head (head_macro begin until x) rest = it.spell_span begin until (k.If ∷ it.spell_seq x rest)
spell_head (head_clause cs) rest = st.spell_conditions cs rest

-- ---- phrases

-- ts is an expected phrase, and then rest
abbrev In : Frame → List Tok → List Tok → Type 0
In f.Text ts rest = (x : st.Text) × (ts ≡ st.spell_text x rest)
In f.End ts rest = (x : st.Text) × (ts ≡ k.Dot ∷ st.spell_text x rest)
In f.Decl ts rest = (x : st.Decl) × (ts ≡ st.spell_decl x rest)
In f.Slash ts rest = ts ≡ k.Slash ∷ rest
In f.Arity ts rest = (n : ℕ) × (nat_le n 64 ≡ true) × (ts ≡ k.Number n ∷ rest)
In f.MoreDecls ts rest = (x : st.MoreDecls) × (ts ≡ st.spell_decls x rest)
In f.Moded ts rest = (x : st.Moded) × (ts ≡ st.spell_moded x rest)
In f.ModeList ts rest = (x : st.ModeList) × (ts ≡ st.spell_mode_list x rest)
In (f.Modes n free) ts rest = (x : st.Modes n free) × (ts ≡ st.spell_modes x rest)
In (f.MoreModes n free) ts rest = (x : st.MoreModes n free) × (ts ≡ st.spell_more_modes x rest)
In f.MoreModed ts rest = (x : st.MoreModed) × (ts ≡ st.spell_modeds x rest)
In (f.Atom vars) ts rest = (x : te.Atom vars) × (ts ≡ te.spell_atom x rest)
In (f.Args vars) ts rest = (x : te.Args vars) × (ts ≡ te.spell_args x rest)
In (f.Term vars) ts rest = (x : te.Term vars) × (ts ≡ te.spell_term x rest)
In (f.Terms vars n) ts rest = (x : te.Terms vars n) × (ts ≡ te.spell_terms x rest)
In f.Negative ts rest = (n : ℕ) × (nat_le n (2 ^ 63) ≡ true) × (ts ≡ k.Number n ∷ rest)
In f.MoreAtoms ts rest = (x : st.MoreAtoms) × (ts ≡ st.spell_atoms x rest)
In f.Head ts rest = (x : HeadRest) × (ts ≡ spell_head x rest)
In f.Conditions ts rest = (x : st.Conditions) × (ts ≡ st.spell_conditions x rest)
In f.Cond ts rest = (x : it.Cond) × (ts ≡ it.spell_cond x rest)
In f.MoreConds ts rest = (x : it.MoreConds) × (ts ≡ it.spell_conds x rest)
In f.AfterAtom ts rest = (x : After) × (ts ≡ spell_after x rest)
In f.AfterLeaf ts rest = (x : Side) × (ts ≡ spell_side x rest)
In f.Unit ts rest = (x : ex.Unit) × (ts ≡ ex.spell_unit x rest)
In f.Rest ts rest = (x : Flat) × (ts ≡ spell_flat x rest)
In f.RestThenRel ts rest = (x : Tail) × (ts ≡ spell_tail x rest)
In f.RestThenClose ts rest = (x : Flat) × (ts ≡ spell_flat x (k.Close ∷ rest))
In (f.Item bounds) ts rest = (x : it.Item bounds) × (ts ≡ it.spell_item x rest)
In (f.MoreItems bounds) ts rest = (x : it.MoreItems bounds) × (ts ≡ it.spell_items x rest)
In f.AfterItemAtom ts rest = (x : ItemAfter) × (ts ≡ spell_item_after x rest)
In f.At ts rest = (x : it.At) × (ts ≡ it.spell_at x rest)
In f.Span ts rest = (b : ℕ) × (u : ℕ) × (ts ≡ k.Time b ∷ k.To ∷ k.Time u ∷ rest)
In f.To ts rest = ts ≡ k.To ∷ rest
In f.Time ts rest = (n : ℕ) × (ts ≡ k.Time n ∷ rest)
In f.Antecedent ts rest = (x : RuleRest) × (ts ≡ spell_rule_rest x rest)
In f.Alternatives ts rest = (x : st.Alternatives) × (ts ≡ st.spell_alternatives x rest)
In f.MacroBody ts rest = (x : it.Seq true) × (ts ≡ k.If ∷ it.spell_seq x rest)
In f.TimeRel ts rest = (t : Tok) × (is_time_rel t ≡ true) × (ts ≡ t ∷ rest)
In f.Shift ts rest = (x : it.Shift) × (ts ≡ it.spell_shift x rest)
In f.Constant ts rest = (n : ℕ) × (nat_le n 1000000 ≡ true) × (ts ≡ k.Number n ∷ rest)
In f.Line ts rest = (x : li.Line) × (ts ≡ li.spell_line x rest)
In f.Colon ts rest = ts ≡ k.Colon ∷ rest
In f.Events ts rest = (x : li.Events) × (ts ≡ li.spell_events x rest)
In f.Event ts rest = (x : te.Atom false) × (ts ≡ te.spell_atom x rest)
In f.MoreEvents ts rest = (x : li.MoreEvents) × (ts ≡ li.spell_more_events x rest)
In f.LineEnd ts rest = ts ≡ k.Dot ∷ rest

abbrev InAll : List Frame → List Tok → Type 0
InAll [] ts = ts ≡ []
InAll (a ∷ s) ts = (rest : List Tok) × In a ts rest × InAll s rest

-- what a move at a token promises
abbrev Node : Frame → Tok → Move → Type 0
Node a t m.Take = (ts : List Tok) → In a (t ∷ ts) ts
Node a t (m.One b) = (ts rest : List Tok) → In b ts rest → In a (t ∷ ts) rest
Node a t (m.Two b c) = (ts r rest : List Tok) → In b ts r → In c r rest → In a (t ∷ ts) rest
Node a t (m.Three b c d) = (ts q r rest : List Tok) → In b ts q → In c q r → In d r rest → In a (t ∷ ts) rest
Node a t m.Pass = (ts : List Tok) → In a ts ts
Node a t m.Refuse = Unit {0}

node_if : (a : Frame) (t : Tok) (b : Bool) (x y : Move) → (b ≡ true → Node a t x) → Node a t y → Node a t (if b then x else y)
node_if a t true x y p q = p refl
node_if a t false x y p q = q

-- ---- terms and atoms

node_atom : (vars : Bool) (t : Tok) → Node (f.Atom vars) t (mv.move_atom vars t)
node_atom vars (k.Name n) = λ ts rest x. (te.atom n x.0, ap (λ us. k.Name n ∷ us) x.1)
node_atom vars t = tt

node_args : (vars : Bool) (t : Tok) → Node (f.Args vars) t (mv.move_args vars t)
node_args vars k.Open = λ ts r rest x y. (te.args x.0 y.0, ap (λ us. k.Open ∷ us) (x.1 ∙ ap (te.spell_term x.0) y.1))
node_args vars t = λ ts. (te.bare, refl)

node_terms : (vars : Bool) (n : ℕ) (t : Tok) → Node (f.Terms vars n) t (mv.move_terms vars n t)
node_terms vars zero k.Close = λ ts. (te.end, refl)
node_terms vars (suc n) k.Close = λ ts. (te.end, refl)
node_terms vars zero t = tt
node_terms vars (suc n) k.Comma = λ ts r rest x y. (te.more x.0 y.0, ap (λ us. k.Comma ∷ us) (x.1 ∙ ap (te.spell_term x.0) y.1))
node_terms vars (suc n) t = tt

node_term : (vars : Bool) (t : Tok) → Node (f.Term vars) t (mv.move_term vars t)
node_term vars (k.Name n) = λ ts rest x. (te.named n x.0, ap (λ us. k.Name n ∷ us) x.1)
node_term vars (k.Variable n) = node_if (f.Term vars) (k.Variable n) vars m.Take m.Refuse (λ h ts. (te.leaf (te.variable h n), refl)) tt
node_term vars (k.Number n) = node_if (f.Term vars) (k.Number n) (nat_lt n (2 ^ 63)) m.Take m.Refuse (λ h ts. (te.leaf (te.number n h), refl)) tt
node_term vars k.Minus = λ ts rest x. (te.leaf (te.negative x.0 x.1), ap (λ us. k.Minus ∷ us) x.2)
node_term vars t = tt

node_negative : (t : Tok) → Node f.Negative t (mv.move_negative t)
node_negative (k.Number n) = node_if f.Negative (k.Number n) (nat_le n (2 ^ 63)) m.Take m.Refuse (λ h ts. (n, h, refl)) tt
node_negative t = tt

-- ---- expressions

node_unit : (t : Tok) → Node f.Unit t (mv.move_unit t)
node_unit (k.Variable n) = λ ts. (ex.single (te.variable refl n), refl)
node_unit (k.Number n) = node_if f.Unit (k.Number n) (nat_lt n (2 ^ 63)) m.Take m.Refuse (λ h ts. (ex.single (te.number n h), refl)) tt
node_unit k.Minus = λ ts rest x. (ex.single (te.negative x.0 x.1), ap (λ us. k.Minus ∷ us) x.2)
node_unit k.Open = λ ts r rest x y. (
  ex.grouped (to_expr x.0 y.0),
  ap (λ us. k.Open ∷ us) (x.1 ∙ ap (ex.spell_unit x.0) y.1 ∙ sym (expr_spells x.0 y.0 (k.Close ∷ rest))),
)
node_unit t = tt

flat_more : (t : Tok) → is_op t ≡ true → (ts r : List Tok) (rest : List Tok) → In f.Unit ts r → (x : Flat) → r ≡ spell_flat x rest →
    (y : Flat) × (t ∷ ts ≡ spell_flat y rest)
flat_more t is ts r rest u x e = (op_then t is u.0 x, ap (λ us. t ∷ us) (u.1 ∙ ap (ex.spell_unit u.0) e))

no_more_spells : (rest : List Tok) → rest ≡ spell_flat no_more rest
no_more_spells rest = refl

node_rest : (t : Tok) → Node f.Rest t (mv.move_rest t)
node_rest t = node_if f.Rest t (is_op t) (m.Two f.Unit f.Rest) m.Pass (λ h ts r rest x y. flat_more t h ts r rest x y.0 y.1) (λ ts. (no_more, no_more_spells ts))

tail_more : (t : Tok) → is_op t ≡ true → (ts r : List Tok) (rest : List Tok) → In f.Unit ts r → (x : Tail) → r ≡ spell_tail x rest →
    (y : Tail) × (t ∷ ts ≡ spell_tail y rest)
tail_more t is ts r rest u (tail xs v iv y ys) e = (tail (op_then t is u.0 xs) v iv y ys, ap (λ us. t ∷ us) (u.1 ∙ ap (ex.spell_unit u.0) e))

tail_first : (t : Tok) → is_rel t ≡ true → (ts r : List Tok) (rest : List Tok) → In f.Unit ts r → In f.Rest r rest → In f.RestThenRel (t ∷ ts) rest
tail_first t is ts r rest u x = (tail no_more t is u.0 x.0, ap (λ us. t ∷ us) (u.1 ∙ ap (ex.spell_unit u.0) x.1))

node_rest_then_rel : (t : Tok) → Node f.RestThenRel t (mv.move_rest_then_rel t)
node_rest_then_rel t = node_if f.RestThenRel t (is_op t) (m.Two f.Unit f.RestThenRel) (if is_rel t then m.Two f.Unit f.Rest else m.Refuse)
    (λ h ts r rest x y. tail_more t h ts r rest x y.0 y.1)
    (node_if f.RestThenRel t (is_rel t) (m.Two f.Unit f.Rest) m.Refuse (λ h ts r rest x y. tail_first t h ts r rest x y) tt)

close_op : (t : Tok) → Node f.RestThenClose t (if is_op t then m.Two f.Unit f.RestThenClose else m.Refuse)
close_op t = node_if f.RestThenClose t (is_op t) (m.Two f.Unit f.RestThenClose) m.Refuse
    (λ h ts r rest x y. flat_more t h ts r (k.Close ∷ rest) x y.0 y.1) tt

node_rest_then_close : (t : Tok) → Node f.RestThenClose t (mv.move_rest_then_close t)
node_rest_then_close k.Close = λ ts. (no_more, no_more_spells (k.Close ∷ ts))
node_rest_then_close t = close_op t

-- ---- built-ins

side_node : (t : Tok) (b : Move) → Node f.RestThenRel t b → Node f.AfterLeaf t b
side_node t m.Take p = λ ts. let y = p ts in (side_tail y.0, y.1)
side_node t (m.One b) p = λ ts rest x. let y = p ts rest x in (side_tail y.0, y.1)
side_node t (m.Two b c) p = λ ts r rest x y. let z = p ts r rest x y in (side_tail z.0, z.1)
side_node t (m.Three b c d) p = λ ts q r rest x y z. let w = p ts q r rest x y z in (side_tail w.0, w.1)
side_node t m.Pass p = λ ts. let y = p ts in (side_tail y.0, y.1)
side_node t m.Refuse p = tt

side_rest : (t : Tok) → Node f.AfterLeaf t (mv.move_rest_then_rel t)
side_rest t = side_node t (mv.move_rest_then_rel t) (node_rest_then_rel t)

node_after_leaf : (t : Tok) → Node f.AfterLeaf t (mv.move_after_leaf t)
node_after_leaf k.Equal = λ ts rest x. (side_same x.0, ap (λ us. k.Equal ∷ us) x.1)
node_after_leaf k.Differ = λ ts rest x. (side_other x.0, ap (λ us. k.Differ ∷ us) x.1)
node_after_leaf k.Is = λ ts r rest x y. (side_is x.0 y.0, ap (λ us. k.Is ∷ us) (x.1 ∙ ap (ex.spell_unit x.0) y.1))
node_after_leaf t = side_rest t

abbrev InBuilt : List Tok → List Tok → Type 0
InBuilt ts rest = (x : it.Built) × (ts ≡ it.spell_built x rest)

abbrev tail_built : ex.Unit → Tail → it.Built
tail_built u (tail xs t is y ys) = it.compare (to_expr u xs) t is (to_expr y ys)

tail_spells : (u : ex.Unit) (x : Tail) (rest : List Tok) → it.spell_built (tail_built u x) rest ≡ ex.spell_unit u (spell_tail x rest)
tail_spells u (tail xs t is y ys) rest =
    expr_spells u xs (t ∷ ex.spell_expr (to_expr y ys) rest) ∙ ap (λ us. ex.spell_unit u (spell_flat xs (t ∷ us))) (expr_spells y ys rest)

abbrev leaf_built : te.Leaf true → Side → it.Built
leaf_built a (side_same y) = it.same (te.leaf a) y
leaf_built a (side_other y) = it.differ (te.leaf a) y
leaf_built a (side_is y ys) = it.evaluates a (to_expr y ys)
leaf_built a (side_tail x) = tail_built (ex.single a) x

leaf_spells : (a : te.Leaf true) (x : Side) (rest : List Tok) → it.spell_built (leaf_built a x) rest ≡ te.spell_leaf a (spell_side x rest)
leaf_spells a (side_same y) rest = refl
leaf_spells a (side_other y) rest = refl
leaf_spells a (side_is y ys) rest = ap (λ us. te.spell_leaf a (k.Is ∷ us)) (expr_spells y ys rest)
leaf_spells a (side_tail x) rest = tail_spells (ex.single a) x rest

leaf_then : (a : te.Leaf true) (ts rest : List Tok) → In f.AfterLeaf ts rest → InBuilt (te.spell_leaf a ts) rest
leaf_then a ts rest x = (leaf_built a x.0, ap (te.spell_leaf a) x.1 ∙ sym (leaf_spells a x.0 rest))

-- where every built-in is a phrase, a built-in that begins with no name is taken
module _ (a : Frame) (may : (ts rest : List Tok) → InBuilt ts rest → In a ts rest) where
  node_built : (t : Tok) → Node a t (mv.move_built t)
  node_built (k.Variable n) = λ ts rest x. may (k.Variable n ∷ ts) rest (leaf_then (te.variable refl n) ts rest x)
  node_built (k.Number n) = node_if a (k.Number n) (nat_lt n (2 ^ 63)) (m.One f.AfterLeaf) m.Refuse
      (λ h ts rest x. may (k.Number n ∷ ts) rest (leaf_then (te.number n h) ts rest x)) tt
  node_built k.Minus = λ ts r rest x y. may (k.Minus ∷ ts) rest
      (let b = leaf_then (te.negative x.0 x.1) r rest y in (b.0, ap (λ us. k.Minus ∷ us) x.2 ∙ b.1))
  node_built k.Open = λ ts q r rest x y z. may (k.Open ∷ ts) rest (
    tail_built (ex.grouped (to_expr x.0 y.0)) z.0,
    ap (λ us. k.Open ∷ us) (x.1 ∙ ap (ex.spell_unit x.0) (y.1 ∙ ap (λ us. spell_flat y.0 (k.Close ∷ us)) z.1)
        ∙ sym (expr_spells x.0 y.0 (k.Close ∷ spell_tail z.0 rest))) ∙ sym (tail_spells (ex.grouped (to_expr x.0 y.0)) z.0 rest),
  )
  node_built t = tt

-- ---- conditions

node_after_atom : (t : Tok) → Node f.AfterAtom t (mv.move_after_atom t)
node_after_atom k.Equal = λ ts rest x. (is_same x.0, ap (λ us. k.Equal ∷ us) x.1)
node_after_atom k.Differ = λ ts rest x. (is_other x.0, ap (λ us. k.Differ ∷ us) x.1)
node_after_atom t = λ ts. (no_side, refl)

abbrev atom_cond : List ℕ → te.Args true → After → it.Cond
atom_cond n xs no_side = it.holds (te.atom n xs)
atom_cond n xs (is_same y) = it.built (it.same (te.named n xs) y)
atom_cond n xs (is_other y) = it.built (it.differ (te.named n xs) y)

atom_cond_spells : (n : List ℕ) (xs : te.Args true) (x : After) (rest : List Tok) →
    it.spell_cond (atom_cond n xs x) rest ≡ k.Name n ∷ te.spell_args xs (spell_after x rest)
atom_cond_spells n xs no_side rest = refl
atom_cond_spells n xs (is_same y) rest = refl
atom_cond_spells n xs (is_other y) rest = refl

cond_built : (ts rest : List Tok) → InBuilt ts rest → In f.Cond ts rest
cond_built ts rest x = (it.built x.0, x.1)

cond_by_built : (t : Tok) → Node f.Cond t (mv.move_built t)
cond_by_built t = node_built f.Cond cond_built t

node_cond : (t : Tok) → Node f.Cond t (mv.move_cond t)
node_cond k.Not = λ ts rest x. (it.fails x.0, ap (λ us. k.Not ∷ us) x.1)
node_cond (k.Name n) = λ ts r rest x y. (
  atom_cond n x.0 y.0,
  ap (λ us. k.Name n ∷ us) (x.1 ∙ ap (te.spell_args x.0) y.1) ∙ sym (atom_cond_spells n x.0 y.0 rest),
)
node_cond t = cond_by_built t

node_more_conds : (t : Tok) → Node f.MoreConds t (mv.move_more_conds t)
node_more_conds k.Comma = λ ts r rest x y. (it.also x.0 y.0, ap (λ us. k.Comma ∷ us) (x.1 ∙ ap (it.spell_cond x.0) y.1))
node_more_conds t = λ ts. (it.no_cond, refl)

node_conditions : (t : Tok) → Node f.Conditions t (mv.move_conditions t)
node_conditions k.If = λ ts r rest x y. (st.when x.0 y.0, ap (λ us. k.If ∷ us) (x.1 ∙ ap (it.spell_cond x.0) y.1))
node_conditions t = λ ts. (st.always, refl)

-- ---- items

node_after_item_atom : (t : Tok) → Node f.AfterItemAtom t (mv.move_after_item_atom t)
node_after_item_atom k.Equal = λ ts rest x. (item_same x.0, ap (λ us. k.Equal ∷ us) x.1)
node_after_item_atom k.Differ = λ ts rest x. (item_other x.0, ap (λ us. k.Differ ∷ us) x.1)
node_after_item_atom k.At = λ ts rest x. (placed (it.at x.0), ap (λ us. k.At ∷ us) x.1)
node_after_item_atom k.From = λ ts rest x. (placed_span x.0 x.1, ap (λ us. k.From ∷ us) x.2)
node_after_item_atom t = λ ts. (placed it.untimed, refl)

abbrev atom_item : {bounds : Bool} → List ℕ → te.Args true → ItemAfter → it.Item bounds
atom_item n xs (placed w) = it.true_at (te.atom n xs) w
atom_item n xs (placed_span begin until) = it.spans (te.atom n xs) begin until
atom_item n xs (item_same y) = it.tests (it.same (te.named n xs) y)
atom_item n xs (item_other y) = it.tests (it.differ (te.named n xs) y)

atom_item_spells : (bounds : Bool) (n : List ℕ) (xs : te.Args true) (x : ItemAfter) (rest : List Tok) →
    it.spell_item (atom_item {bounds = bounds} n xs x) rest ≡ k.Name n ∷ te.spell_args xs (spell_item_after x rest)
atom_item_spells bounds n xs (placed w) rest = refl
atom_item_spells bounds n xs (placed_span begin until) rest = refl
atom_item_spells bounds n xs (item_same y) rest = refl
atom_item_spells bounds n xs (item_other y) rest = refl

item_built : (bounds : Bool) (ts rest : List Tok) → InBuilt ts rest → In (f.Item bounds) ts rest
item_built bounds ts rest x = (it.tests x.0, x.1)

item_by_built : (bounds : Bool) (t : Tok) → Node (f.Item bounds) t (mv.move_built t)
item_by_built bounds t = node_built (f.Item bounds) (item_built bounds) t

node_item : (bounds : Bool) (t : Tok) → Node (f.Item bounds) t (mv.move_item bounds t)
node_item bounds k.Not = λ ts r rest x y. (it.false_at x.0 y.0, ap (λ us. k.Not ∷ us) (x.1 ∙ ap (te.spell_atom x.0) y.1))
node_item bounds (k.Name n) = λ ts r rest x y. (
  atom_item n x.0 y.0,
  ap (λ us. k.Name n ∷ us) (x.1 ∙ ap (te.spell_args x.0) y.1) ∙ sym (atom_item_spells bounds n x.0 y.0 rest),
)
node_item bounds (k.Time n) = node_if (f.Item bounds) (k.Time n) bounds (m.Three f.TimeRel f.Time f.Shift) m.Refuse
    (λ h ts q r rest x y z. (
      it.bound h (it.con n x.0 x.1 y.0 z.0),
      ap (λ us. k.Time n ∷ us) (x.2 ∙ ap (λ us. x.0 ∷ us) (y.1 ∙ ap (λ us. k.Time y.0 ∷ us) z.1)),
    )) tt
node_item bounds t = item_by_built bounds t

node_more_items : (bounds : Bool) (t : Tok) → Node (f.MoreItems bounds) t (mv.move_more_items bounds t)
node_more_items bounds k.Comma = λ ts r rest x y. (it.then_item x.0 y.0, ap (λ us. k.Comma ∷ us) (x.1 ∙ ap (it.spell_item x.0) y.1))
node_more_items bounds t = λ ts. (it.no_item, refl)

node_at : (t : Tok) → Node f.At t (mv.move_at t)
node_at k.At = λ ts rest x. (it.at x.0, ap (λ us. k.At ∷ us) x.1)
node_at t = λ ts. (it.untimed, refl)

node_span : (t : Tok) → Node f.Span t (mv.move_span t)
node_span (k.Time n) = λ ts r rest x y. (n, y.0, ap (λ us. k.Time n ∷ us) (x ∙ ap (λ us. k.To ∷ us) y.1))
node_span t = tt

node_to : (t : Tok) → Node f.To t (mv.move_to t)
node_to k.To = λ ts. refl
node_to t = tt

node_time : (t : Tok) → Node f.Time t (mv.move_time t)
node_time (k.Time n) = λ ts. (n, refl)
node_time t = tt

node_time_rel : (t : Tok) → Node f.TimeRel t (mv.move_time_rel t)
node_time_rel k.Less = λ ts. (k.Less, refl, refl)
node_time_rel k.AtMost = λ ts. (k.AtMost, refl, refl)
node_time_rel k.Equal = λ ts. (k.Equal, refl, refl)
node_time_rel k.Greater = λ ts. (k.Greater, refl, refl)
node_time_rel k.AtLeast = λ ts. (k.AtLeast, refl, refl)
node_time_rel t = tt

node_shift : (t : Tok) → Node f.Shift t (mv.move_shift t)
node_shift k.Plus = λ ts rest x. (it.shifted k.Plus refl x.0 x.1, ap (λ us. k.Plus ∷ us) x.2)
node_shift k.Minus = λ ts rest x. (it.shifted k.Minus refl x.0 x.1, ap (λ us. k.Minus ∷ us) x.2)
node_shift t = λ ts. (it.unshifted, refl)

node_constant : (t : Tok) → Node f.Constant t (mv.move_constant t)
node_constant (k.Number n) = node_if f.Constant (k.Number n) (nat_le n 1000000) m.Take m.Refuse (λ h ts. (n, h, refl)) tt
node_constant t = tt

-- ---- statements

abbrev head_statement : List ℕ → te.Args true → HeadRest → st.Statement
head_statement n xs (head_law t is fluent cs) = st.law (te.atom n xs) t is fluent cs
head_statement n xs (head_macro begin until x) = st.macro_clause (te.atom n xs) begin until x
head_statement n xs (head_clause cs) = st.clause (te.atom n xs) cs

head_spells : (n : List ℕ) (xs : te.Args true) (x : HeadRest) (rest : List Tok) →
    st.spell_statement (head_statement n xs x) rest ≡ k.Name n ∷ te.spell_args xs (spell_head x rest)
head_spells n xs (head_law t is fluent cs) rest = refl
head_spells n xs (head_macro begin until x) rest = refl
head_spells n xs (head_clause cs) rest = refl

abbrev rule_statement : it.Item true → RuleRest → st.Statement
rule_statement x (rule_rest xs y ys) = st.rule (it.seq x xs) y ys

rule_spells : (x : it.Item true) (xs : RuleRest) (rest : List Tok) →
    st.spell_statement (rule_statement x xs) rest ≡ k.If ∷ it.spell_item x (spell_rule_rest xs rest)
rule_spells x (rule_rest xs y ys) rest = refl

node_text : (t : Tok) → Node f.Text t (mv.move_text t)
node_text k.Fluent = λ ts q r rest d ds x. (st.next (st.declares k.Fluent refl d.0 ds.0) x.0, ap (λ us. k.Fluent ∷ us) (d.1 ∙ ap (st.spell_decl d.0) (ds.1 ∙ ap (st.spell_decls ds.0) x.1)))
node_text k.Event = λ ts q r rest d ds x. (st.next (st.declares k.Event refl d.0 ds.0) x.0, ap (λ us. k.Event ∷ us) (d.1 ∙ ap (st.spell_decl d.0) (ds.1 ∙ ap (st.spell_decls ds.0) x.1)))
node_text k.Action = λ ts q r rest d ds x. (st.next (st.declares k.Action refl d.0 ds.0) x.0, ap (λ us. k.Action ∷ us) (d.1 ∙ ap (st.spell_decl d.0) (ds.1 ∙ ap (st.spell_decls ds.0) x.1)))
node_text k.Timeless = λ ts q r rest d ds x. (st.next (st.declares_modes k.Timeless refl d.0 ds.0) x.0, ap (λ us. k.Timeless ∷ us) (d.1 ∙ ap (st.spell_moded d.0) (ds.1 ∙ ap (st.spell_modeds ds.0) x.1)))
node_text k.Derived = λ ts q r rest d ds x. (st.next (st.declares_modes k.Derived refl d.0 ds.0) x.0, ap (λ us. k.Derived ∷ us) (d.1 ∙ ap (st.spell_moded d.0) (ds.1 ∙ ap (st.spell_modeds ds.0) x.1)))
node_text k.Macro = λ ts q r rest d ds x. (st.next (st.declares_modes k.Macro refl d.0 ds.0) x.0, ap (λ us. k.Macro ∷ us) (d.1 ∙ ap (st.spell_moded d.0) (ds.1 ∙ ap (st.spell_modeds ds.0) x.1)))
node_text k.Initially = λ ts q r rest d ds x. (st.next (st.initially d.0 ds.0) x.0, ap (λ us. k.Initially ∷ us) (d.1 ∙ ap (te.spell_atom d.0) (ds.1 ∙ ap (st.spell_atoms ds.0) x.1)))
node_text k.False = λ ts q r rest d ds x. (st.next (st.denial (it.seq d.0 ds.0)) x.0, ap (λ us. k.False ∷ us) (d.1 ∙ ap (it.spell_item d.0) (ds.1 ∙ ap (it.spell_items ds.0) x.1)))
node_text k.If = λ ts q r rest d ds x. (
  st.next (rule_statement d.0 ds.0) x.0,
  ap (λ us. k.If ∷ us) (d.1 ∙ ap (it.spell_item d.0) (ds.1 ∙ ap (spell_rule_rest ds.0) x.1)) ∙ sym (rule_spells d.0 ds.0 (k.Dot ∷ st.spell_text x.0 rest)),
)
node_text (k.Name n) = λ ts q r rest d ds x. (
  st.next (head_statement n d.0 ds.0) x.0,
  ap (λ us. k.Name n ∷ us) (d.1 ∙ ap (te.spell_args d.0) (ds.1 ∙ ap (spell_head ds.0) x.1)) ∙ sym (head_spells n d.0 ds.0 (k.Dot ∷ st.spell_text x.0 rest)),
)
node_text t = tt

node_end : (t : Tok) → Node f.End t (mv.move_end t)
node_end k.Dot = λ ts rest x. (x.0, ap (λ us. k.Dot ∷ us) x.1)
node_end t = tt

node_decl : (t : Tok) → Node f.Decl t (mv.move_decl t)
node_decl (k.Name n) = λ ts r rest x y. (st.decl n y.0 y.1, ap (λ us. k.Name n ∷ us) (x ∙ ap (λ us. k.Slash ∷ us) y.2))
node_decl t = tt

node_slash : (t : Tok) → Node f.Slash t (mv.move_slash t)
node_slash k.Slash = λ ts. refl
node_slash t = tt

node_arity : (t : Tok) → Node f.Arity t (mv.move_arity t)
node_arity (k.Number n) = node_if f.Arity (k.Number n) (nat_le n 64) m.Take m.Refuse (λ h ts. (n, h, refl)) tt
node_arity t = tt

node_more_decls : (t : Tok) → Node f.MoreDecls t (mv.move_more_decls t)
node_more_decls k.Comma = λ ts r rest x y. (st.also_decl x.0 y.0, ap (λ us. k.Comma ∷ us) (x.1 ∙ ap (st.spell_decl x.0) y.1))
node_more_decls t = λ ts. (st.no_decl, refl)

node_moded : (t : Tok) → Node f.Moded t (mv.move_moded t)
node_moded (k.Name n) = λ ts rest x. (st.moded n x.0, ap (λ us. k.Name n ∷ us) x.1)
node_moded t = tt

node_mode_list : (t : Tok) → Node f.ModeList t (mv.move_mode_list t)
node_mode_list k.Open = λ ts rest x. (st.modes x.0, ap (λ us. k.Open ∷ us) x.1)
node_mode_list t = λ ts. (st.no_mode, refl)

node_modes : (n : ℕ) (free : Bool) (t : Tok) → Node (f.Modes n free) t (mv.move_modes n free t)
node_modes n free k.Plus = λ ts rest x. (st.input x.0, ap (λ us. k.Plus ∷ us) x.1)
node_modes n free k.Minus = λ ts rest x. (st.output x.0, ap (λ us. k.Minus ∷ us) x.1)
node_modes n free k.Star = node_if (f.Modes n free) k.Star free (m.One (f.MoreModes n false)) m.Refuse
    (λ h ts rest x. (st.falling h x.0, ap (λ us. k.Star ∷ us) x.1)) tt
node_modes n free t = tt

node_more_modes : (n : ℕ) (free : Bool) (t : Tok) → Node (f.MoreModes n free) t (mv.move_more_modes n free t)
node_more_modes zero free k.Close = λ ts. (st.last_mode, refl)
node_more_modes (suc n) free k.Close = λ ts. (st.last_mode, refl)
node_more_modes zero free t = tt
node_more_modes (suc n) free k.Comma = λ ts rest x. (st.also_mode x.0, ap (λ us. k.Comma ∷ us) x.1)
node_more_modes (suc n) free t = tt

node_more_moded : (t : Tok) → Node f.MoreModed t (mv.move_more_moded t)
node_more_moded k.Comma = λ ts r rest x y. (st.also_moded x.0 y.0, ap (λ us. k.Comma ∷ us) (x.1 ∙ ap (st.spell_moded x.0) y.1))
node_more_moded t = λ ts. (st.no_moded, refl)

node_more_atoms : (t : Tok) → Node f.MoreAtoms t (mv.move_more_atoms t)
node_more_atoms k.Comma = λ ts r rest x y. (st.also_atom x.0 y.0, ap (λ us. k.Comma ∷ us) (x.1 ∙ ap (te.spell_atom x.0) y.1))
node_more_atoms t = λ ts. (st.no_atom, refl)

node_head : (t : Tok) → Node f.Head t (mv.move_head t)
node_head k.Initiates = λ ts r rest x y. (head_law k.Initiates refl x.0 y.0, ap (λ us. k.Initiates ∷ us) (x.1 ∙ ap (te.spell_atom x.0) y.1))
node_head k.Terminates = λ ts r rest x y. (head_law k.Terminates refl x.0 y.0, ap (λ us. k.Terminates ∷ us) (x.1 ∙ ap (te.spell_atom x.0) y.1))
node_head k.From = λ ts r rest x y. (
  head_macro x.0 x.1 y.0,
  ap (λ us. k.From ∷ us) (x.2 ∙ ap (λ us. k.Time x.0 ∷ k.To ∷ k.Time x.1 ∷ us) y.1),
)
node_head k.If = λ ts r rest x y. (head_clause (st.when x.0 y.0), ap (λ us. k.If ∷ us) (x.1 ∙ ap (it.spell_cond x.0) y.1))
node_head t = λ ts. (head_clause st.always, refl)

abbrev rule_more : it.Item true → RuleRest → RuleRest
rule_more x (rule_rest xs y ys) = rule_rest (it.then_item x xs) y ys

rule_more_spells : (x : it.Item true) (xs : RuleRest) (rest : List Tok) →
    spell_rule_rest (rule_more x xs) rest ≡ k.Comma ∷ it.spell_item x (spell_rule_rest xs rest)
rule_more_spells x (rule_rest xs y ys) rest = refl

node_antecedent : (t : Tok) → Node f.Antecedent t (mv.move_antecedent t)
node_antecedent k.Comma = λ ts r rest x y. (
  rule_more x.0 y.0,
  ap (λ us. k.Comma ∷ us) (x.1 ∙ ap (it.spell_item x.0) y.1) ∙ sym (rule_more_spells x.0 y.0 rest),
)
node_antecedent k.Then = λ ts q r rest x y z. (
  rule_rest it.no_item (it.seq x.0 y.0) z.0,
  ap (λ us. k.Then ∷ us) (x.1 ∙ ap (it.spell_item x.0) (y.1 ∙ ap (it.spell_items y.0) z.1)),
)
node_antecedent t = tt

node_alternatives : (t : Tok) → Node f.Alternatives t (mv.move_alternatives t)
node_alternatives k.Or = λ ts q r rest x y z. (
  st.or_else (it.seq x.0 y.0) z.0,
  ap (λ us. k.Or ∷ us) (x.1 ∙ ap (it.spell_item x.0) (y.1 ∙ ap (it.spell_items y.0) z.1)),
)
node_alternatives t = λ ts. (st.no_other, refl)

node_macro_body : (t : Tok) → Node f.MacroBody t (mv.move_macro_body t)
node_macro_body k.If = λ ts r rest x y. (it.seq x.0 y.0, ap (λ us. k.If ∷ us) (x.1 ∙ ap (it.spell_item x.0) y.1))
node_macro_body t = tt

-- ---- lines of events

node_line : (t : Tok) → Node f.Line t (mv.move_line t)
node_line (k.Number n) = λ ts q r rest x y z. (
  li.line n y.0,
  ap (λ us. k.Number n ∷ us) (x ∙ ap (λ us. k.Colon ∷ us) (y.1 ∙ ap (li.spell_events y.0) z)),
)
node_line t = tt

node_colon : (t : Tok) → Node f.Colon t (mv.move_colon t)
node_colon k.Colon = λ ts. refl
node_colon t = tt

node_events : (t : Tok) → Node f.Events t (mv.move_events t)
node_events (k.Name n) = λ ts r rest x y. (li.events (te.atom n x.0) y.0, ap (λ us. k.Name n ∷ us) (x.1 ∙ ap (te.spell_args x.0) y.1))
node_events t = λ ts. (li.none, refl)

node_event : (t : Tok) → Node f.Event t (mv.move_event t)
node_event (k.Name n) = λ ts rest x. (te.atom n x.0, ap (λ us. k.Name n ∷ us) x.1)
node_event t = tt

node_more_events : (t : Tok) → Node f.MoreEvents t (mv.move_more_events t)
node_more_events k.Comma = λ ts r rest x y. (li.also_event x.0 y.0, ap (λ us. k.Comma ∷ us) (x.1 ∙ ap (te.spell_atom x.0) y.1))
node_more_events t = λ ts. (li.no_event, refl)

node_line_end : (t : Tok) → Node f.LineEnd t (mv.move_line_end t)
node_line_end k.Dot = λ ts. refl
node_line_end t = tt

-- ---- all phrases

node_of : (a : Frame) (t : Tok) → Node a t (move_of a t)
node_of f.Text t = node_text t
node_of f.End t = node_end t
node_of f.Decl t = node_decl t
node_of f.Slash t = node_slash t
node_of f.Arity t = node_arity t
node_of f.MoreDecls t = node_more_decls t
node_of f.Moded t = node_moded t
node_of f.ModeList t = node_mode_list t
node_of (f.Modes n free) t = node_modes n free t
node_of (f.MoreModes n free) t = node_more_modes n free t
node_of f.MoreModed t = node_more_moded t
node_of (f.Atom vars) t = node_atom vars t
node_of (f.Args vars) t = node_args vars t
node_of (f.Term vars) t = node_term vars t
node_of (f.Terms vars n) t = node_terms vars n t
node_of f.Negative t = node_negative t
node_of f.MoreAtoms t = node_more_atoms t
node_of f.Head t = node_head t
node_of f.Conditions t = node_conditions t
node_of f.Cond t = node_cond t
node_of f.MoreConds t = node_more_conds t
node_of f.AfterAtom t = node_after_atom t
node_of f.AfterLeaf t = node_after_leaf t
node_of f.Unit t = node_unit t
node_of f.Rest t = node_rest t
node_of f.RestThenRel t = node_rest_then_rel t
node_of f.RestThenClose t = node_rest_then_close t
node_of (f.Item bounds) t = node_item bounds t
node_of (f.MoreItems bounds) t = node_more_items bounds t
node_of f.AfterItemAtom t = node_after_item_atom t
node_of f.At t = node_at t
node_of f.Span t = node_span t
node_of f.To t = node_to t
node_of f.Time t = node_time t
node_of f.Antecedent t = node_antecedent t
node_of f.Alternatives t = node_alternatives t
node_of f.MacroBody t = node_macro_body t
node_of f.TimeRel t = node_time_rel t
node_of f.Shift t = node_shift t
node_of f.Constant t = node_constant t
node_of f.Line t = node_line t
node_of f.Colon t = node_colon t
node_of f.Events t = node_events t
node_of f.Event t = node_event t
node_of f.MoreEvents t = node_more_events t
node_of f.LineEnd t = node_line_end t

in_moved : (a : Frame) (t : Tok) (b : Move) → Node a t b → (s : List Frame) (o : Option (List Frame)) (v : List Frame) (ts : List Tok) →
    (o ≡ Some v → InAll v ts → InAll s (t ∷ ts)) → moved b s o ≡ Some v → InAll v ts → InAll (a ∷ s) (t ∷ ts)
in_moved a t m.Take p s o v ts below e h = let h' : InAll s ts = subst (λ u. InAll u ts) (sym (some_same e)) h in (ts, p ts, h')
in_moved a t (m.One b) p s o v ts below e h = let h' : InAll (b ∷ s) ts = subst (λ u. InAll u ts) (sym (some_same e)) h in (h'.0, p ts h'.0 h'.1, h'.2)
in_moved a t (m.Two b c) p s o v ts below e h =
    let h' : InAll (b ∷ c ∷ s) ts = subst (λ u. InAll u ts) (sym (some_same e)) h in
    (h'.2.0, p ts h'.0 h'.2.0 h'.1 h'.2.1, h'.2.2)
in_moved a t (m.Three b c d) p s o v ts below e h =
    let h' : InAll (b ∷ c ∷ d ∷ s) ts = subst (λ u. InAll u ts) (sym (some_same e)) h in
    (h'.2.2.0, p ts h'.0 h'.2.0 h'.2.2.0 h'.1 h'.2.1 h'.2.2.1, h'.2.2.2)
in_moved a t m.Pass p s o v ts below e h = (t ∷ ts, p (t ∷ ts), below e h)
in_moved a t m.Refuse p s o v ts below e h = absurd cc

in_step : (s : List Frame) (t : Tok) (v : List Frame) (ts : List Tok) → step s t ≡ Some v → InAll v ts → InAll s (t ∷ ts)
in_step [] t v ts e h = absurd cc
in_step (a ∷ s) t v ts e h = in_moved a t (move_of a t) (node_of a t) s (step s t) v ts (λ e' h'. in_step s t v ts e' h') e h

in_then : (o : Option (List Frame)) (go : List Frame → Option (List Frame)) (u : List Frame) → then_on o go ≡ Some u → (v : List Frame) × (o ≡ Some v) × (go v ≡ Some u)
in_then None go u e = absurd cc
in_then (Some v) go u e = (v, refl, e)

in_run : (ts : List Tok) (s u : List Frame) (more : List Tok) → run s ts ≡ Some u → InAll u more → InAll s (ts ++ more)
in_run [] s u more e h = subst (λ v. InAll v more) (sym (some_same e)) h
in_run (t ∷ ts) s u more e h =
    let w = in_then (step s t) (λ v. run v ts) u e in
    in_step s t w.0 (ts ++ more) w.1 (in_run ts w.0 u more w.2 h)

-- ---- each phrase can be completed

-- a name
abbrev some_name : List ℕ
some_name = 97 ∷ []

abbrev some_atom : {vars : Bool} → te.Atom vars
some_atom = te.atom some_name te.bare

abbrev some_item : {bounds : Bool} → it.Item bounds
some_item = it.true_at some_atom it.untimed

-- the shortest phrase
least : (a : Frame) (rest : List Tok) → (ts : List Tok) × In a ts rest
least f.Text rest = (rest, (st.done, refl))
least f.End rest = (_, (st.done, refl))
least f.Decl rest = (_, (st.decl some_name 0 refl, refl))
least f.Slash rest = (_, refl)
least f.Arity rest = (_, (0, refl, refl))
least f.MoreDecls rest = (rest, (st.no_decl, refl))
least f.Moded rest = (_, (st.moded some_name st.no_mode, refl))
least f.ModeList rest = (rest, (st.no_mode, refl))
least (f.Modes n free) rest = (_, (st.input st.last_mode, refl))
least (f.MoreModes n free) rest = (_, (st.last_mode, refl))
least f.MoreModed rest = (rest, (st.no_moded, refl))
least (f.Atom vars) rest = (_, (some_atom, refl))
least (f.Args vars) rest = (rest, (te.bare, refl))
least (f.Term vars) rest = (_, (te.named some_name te.bare, refl))
least (f.Terms vars n) rest = (_, (te.end, refl))
least f.Negative rest = (_, (0, refl, refl))
least f.MoreAtoms rest = (rest, (st.no_atom, refl))
least f.Head rest = (rest, (head_clause st.always, refl))
least f.Conditions rest = (rest, (st.always, refl))
least f.Cond rest = (_, (it.holds some_atom, refl))
least f.MoreConds rest = (rest, (it.no_cond, refl))
least f.AfterAtom rest = (rest, (no_side, refl))
least f.AfterLeaf rest = (_, (side_same (te.named some_name te.bare), refl))
least f.Unit rest = (_, (ex.single (te.number 0 refl), refl))
least f.Rest rest = (rest, (no_more, refl))
least f.RestThenRel rest = (_, (tail no_more k.Less refl (ex.single (te.number 0 refl)) no_more, refl))
least f.RestThenClose rest = (_, (no_more, refl))
least (f.Item bounds) rest = (_, (some_item, refl))
least (f.MoreItems bounds) rest = (rest, (it.no_item, refl))
least f.AfterItemAtom rest = (rest, (placed it.untimed, refl))
least f.At rest = (rest, (it.untimed, refl))
least f.Span rest = (_, (0, 0, refl))
least f.To rest = (_, refl)
least f.Time rest = (_, (0, refl))
least f.Antecedent rest = (_, (rule_rest it.no_item (it.seq some_item it.no_item) st.no_other, refl))
least f.Alternatives rest = (rest, (st.no_other, refl))
least f.MacroBody rest = (_, (it.seq some_item it.no_item, refl))
least f.TimeRel rest = (_, (k.Less, refl, refl))
least f.Shift rest = (rest, (it.unshifted, refl))
least f.Constant rest = (_, (0, refl, refl))
least f.Line rest = (_, (li.line 0 li.none, refl))
least f.Colon rest = (_, refl)
least f.Events rest = (rest, (li.none, refl))
least f.Event rest = (_, (some_atom, refl))
least f.MoreEvents rest = (rest, (li.no_event, refl))
least f.LineEnd rest = (_, refl)

least_all : (s : List Frame) → (ts : List Tok) × InAll s ts
least_all [] = ([], refl)
least_all (a ∷ s) = let below = least_all s in let here = least a below.0 in (here.0, (below.0, here.1, below.1))

-- ---- texts and lines

one_text : (ts : List Tok) → InAll (f.Text ∷ []) ts → IsText ts
one_text ts h = (h.1.0, h.1.1 ∙ ap (st.spell_text h.1.0) h.2)

one_line : (ts : List Tok) → InAll (f.Line ∷ []) ts → IsLine ts
one_line ts h = (h.1.0, h.1.1 ∙ ap (li.spell_line h.1.0) h.2)

-- what can be run through begins a text
pub begins_text : (ts : List Tok) (u : List Frame) → run (f.Text ∷ []) ts ≡ Some u → BeginsText ts
begins_text ts u e = let all = least_all u in (all.0, one_text (ts ++ all.0) (in_run ts (f.Text ∷ []) u all.0 e all.1))

pub is_text : (ts : List Tok) → run (f.Text ∷ []) ts ≡ Some (f.Text ∷ []) → IsText ts
is_text ts e = subst IsText (append-nil ts) (one_text (ts ++ []) (in_run ts (f.Text ∷ []) (f.Text ∷ []) [] e ([], (st.done, refl), refl)))

-- what can be run through begins a line
pub begins_line : (ts : List Tok) (u : List Frame) → run (f.Line ∷ []) ts ≡ Some u → BeginsLine ts
begins_line ts u e = let all = least_all u in (all.0, one_line (ts ++ all.0) (in_run ts (f.Line ∷ []) u all.0 e all.1))

pub is_line : (ts : List Tok) → run (f.Line ∷ []) ts ≡ Some [] → IsLine ts
is_line ts e = subst IsLine (append-nil ts) (one_line (ts ++ []) (in_run ts (f.Line ∷ []) [] [] e refl))

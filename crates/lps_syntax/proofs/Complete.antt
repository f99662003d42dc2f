-- Running goes through the tokens of each tree, to what is expected after it.
use Rattle.std.specs.Prelude.{ℕ, suc, ◌≡◌, Bool, true, false, List, ◌∷◌, refl}
use Rattle.std.proofs.Common.{◌∙◌}
use Rattle.lps_grammar.specs.declared.tok.Tok.{Tok}
use Rattle.lps_grammar.specs.declared.tok.Tok.TheVariants as k
use Rattle.lps_grammar.specs.Signs.{is_mul, is_add, is_op, is_rel, is_time_rel, is_kind, is_moded_kind, is_effect}
use Rattle.lps_grammar.specs.Terms as te
use Rattle.lps_grammar.specs.Expressions as ex
use Rattle.lps_grammar.specs.Items as it
use Rattle.lps_grammar.specs.Statements as st
use Rattle.lps_grammar.specs.Lines as li
use Rattle.lps_syntax.specs.declared.frame.Frame.{Frame}
use Rattle.lps_syntax.specs.declared.frame.Frame.TheVariants as f
use Rattle.lps_syntax.specs.Runs.{run}

-- these tokens go past the phrase, which may be empty
abbrev Passes : Frame → List Tok → Type 0
Passes a rest = (s : List Frame) → run (a ∷ s) rest ≡ run s rest

-- ---- terms and atoms

terms_pass : {vars : Bool} {n : ℕ} (xs : te.Terms vars n) (rest : List Tok) → Passes (f.Args vars) (te.spell_terms xs rest)
terms_pass te.end rest s = refl
terms_pass (te.more x xs) rest s = refl

through_leaf : {vars : Bool} (x : te.Leaf vars) (rest : List Tok) (s : List Frame) → run (f.Term vars ∷ s) (te.spell_leaf x rest) ≡ run s rest
through_leaf (te.variable may n) rest s = rw may refl
through_leaf (te.number n small) rest s = rw small refl
through_leaf (te.negative n small) rest s = rw small refl

mutual
  through_term : {vars : Bool} (x : te.Term vars) (rest : List Tok) → Passes (f.Args vars) rest → (s : List Frame) →
      run (f.Term vars ∷ s) (te.spell_term x rest) ≡ run s rest
  through_term (te.named n xs) rest p s = through_args xs rest p s
  through_term (te.leaf x) rest p s = through_leaf x rest s

  through_args : {vars : Bool} (x : te.Args vars) (rest : List Tok) → Passes (f.Args vars) rest → (s : List Frame) →
      run (f.Args vars ∷ s) (te.spell_args x rest) ≡ run s rest
  through_args te.bare rest p s = p s
  through_args {vars = vars} (te.args x xs) rest p s =
      through_term x (te.spell_terms xs rest) (terms_pass xs rest) (f.Terms vars 63 ∷ s) ∙ through_terms xs rest s

  through_terms : {vars : Bool} {n : ℕ} (xs : te.Terms vars n) (rest : List Tok) (s : List Frame) →
      run (f.Terms vars n ∷ s) (te.spell_terms xs rest) ≡ run s rest
  through_terms te.end rest s = refl
  through_terms {vars = vars} {n = suc n} (te.more x xs) rest s =
      through_term x (te.spell_terms xs rest) (terms_pass xs rest) (f.Terms vars n ∷ s) ∙ through_terms xs rest s

through_atom : {vars : Bool} (x : te.Atom vars) (rest : List Tok) → Passes (f.Args vars) rest → (s : List Frame) →
    run (f.Atom vars ∷ s) (te.spell_atom x rest) ≡ run s rest
through_atom (te.atom n xs) rest p s = through_args xs rest p s

-- ---- expressions

-- the phrase takes an operator, and then a unit and itself are expected
abbrev TakesOps : Frame → Type 0
TakesOps r = (t : Tok) → is_op t ≡ true → (s : List Frame) (ts : List Tok) → run (r ∷ s) (t ∷ ts) ≡ run (f.Unit ∷ r ∷ s) ts

pub mul_is_op : (t : Tok) → is_mul t ≡ true → is_op t ≡ true
mul_is_op k.Star e = refl
mul_is_op k.Div e = refl
mul_is_op k.Mod e = refl
mul_is_op t e = absurd cc

pub add_is_op : (t : Tok) → is_add t ≡ true → is_op t ≡ true
add_is_op k.Plus e = refl
add_is_op k.Minus e = refl
add_is_op t e = absurd cc

rest_ops : TakesOps f.Rest
rest_ops t e s ts = rw e refl

rest_then_rel_ops : TakesOps f.RestThenRel
rest_then_rel_ops t e s ts = rw e refl

rest_then_close_ops : TakesOps f.RestThenClose
rest_then_close_ops k.Plus e s ts = refl
rest_then_close_ops k.Minus e s ts = refl
rest_then_close_ops k.Star e s ts = refl
rest_then_close_ops k.Div e s ts = refl
rest_then_close_ops k.Mod e s ts = refl
rest_then_close_ops t e s ts = absurd cc

through_single : (x : te.Leaf true) (rest : List Tok) (s : List Frame) → run (f.Unit ∷ s) (te.spell_leaf x rest) ≡ run s rest
through_single (te.variable may n) rest s = refl
through_single (te.number n small) rest s = rw small refl
through_single (te.negative n small) rest s = rw small refl

mutual
  through_unit : (x : ex.Unit) (rest : List Tok) (s : List Frame) → run (f.Unit ∷ s) (ex.spell_unit x rest) ≡ run s rest
  through_unit (ex.single x) rest s = through_single x rest s
  through_unit (ex.grouped e) rest s = through_expr e f.RestThenClose rest_then_close_ops (k.Close ∷ rest) s

  through_factors : (x : ex.Factors) (r : Frame) → TakesOps r → (rest : List Tok) (s : List Frame) →
      run (r ∷ s) (ex.spell_factors x rest) ≡ run (r ∷ s) rest
  through_factors ex.no_factor r ops rest s = refl
  through_factors (ex.times t is x xs) r ops rest s =
      ops t (mul_is_op t is) s (ex.spell_unit x (ex.spell_factors xs rest))
      ∙ through_unit x (ex.spell_factors xs rest) (r ∷ s) ∙ through_factors xs r ops rest s

  through_prod : (x : ex.Prod) (r : Frame) → TakesOps r → (rest : List Tok) (s : List Frame) →
      run (f.Unit ∷ r ∷ s) (ex.spell_prod x rest) ≡ run (r ∷ s) rest
  through_prod (ex.prod x xs) r ops rest s =
      through_unit x (ex.spell_factors xs rest) (r ∷ s) ∙ through_factors xs r ops rest s

  through_summands : (x : ex.Summands) (r : Frame) → TakesOps r → (rest : List Tok) (s : List Frame) →
      run (r ∷ s) (ex.spell_summands x rest) ≡ run (r ∷ s) rest
  through_summands ex.no_summand r ops rest s = refl
  through_summands (ex.plus t is p ps) r ops rest s =
      ops t (add_is_op t is) s (ex.spell_prod p (ex.spell_summands ps rest))
      ∙ through_prod p r ops (ex.spell_summands ps rest) s ∙ through_summands ps r ops rest s

  through_expr : (x : ex.Expr) (r : Frame) → TakesOps r → (rest : List Tok) (s : List Frame) →
      run (f.Unit ∷ r ∷ s) (ex.spell_expr x rest) ≡ run (r ∷ s) rest
  through_expr (ex.expr p ps) r ops rest s =
      through_prod p r ops (ex.spell_summands ps rest) s ∙ through_summands ps r ops rest s

-- ---- built-ins

-- after a first leaf an operator or a relation does what it does after any unit
leaf_op : (t : Tok) → is_op t ≡ true → (s : List Frame) (ts : List Tok) → run (f.AfterLeaf ∷ s) (t ∷ ts) ≡ run (f.RestThenRel ∷ s) (t ∷ ts)
leaf_op k.Equal e s ts = absurd cc
leaf_op k.Differ e s ts = absurd cc
leaf_op k.Is e s ts = absurd cc
leaf_op t e s ts = refl

leaf_rel : (t : Tok) → is_rel t ≡ true → (s : List Frame) (ts : List Tok) → run (f.AfterLeaf ∷ s) (t ∷ ts) ≡ run (f.RestThenRel ∷ s) (t ∷ ts)
leaf_rel k.Equal e s ts = absurd cc
leaf_rel k.Differ e s ts = absurd cc
leaf_rel k.Is e s ts = absurd cc
leaf_rel t e s ts = refl

takes_rel : (t : Tok) → is_rel t ≡ true → (s : List Frame) (ts : List Tok) → run (f.RestThenRel ∷ s) (t ∷ ts) ≡ run (f.Unit ∷ f.Rest ∷ s) ts
takes_rel k.Less e s ts = refl
takes_rel k.AtMost e s ts = refl
takes_rel k.Greater e s ts = refl
takes_rel k.AtLeast e s ts = refl
takes_rel t e s ts = absurd cc

leaf_summands : (ps : ex.Summands) (t : Tok) → is_rel t ≡ true → (ts : List Tok) (s : List Frame) →
    run (f.AfterLeaf ∷ s) (ex.spell_summands ps (t ∷ ts)) ≡ run (f.RestThenRel ∷ s) (ex.spell_summands ps (t ∷ ts))
leaf_summands ex.no_summand t is ts s = leaf_rel t is s ts
leaf_summands (ex.plus u by p ps) t is ts s = leaf_op u (add_is_op u by) s (ex.spell_prod p (ex.spell_summands ps (t ∷ ts)))

leaf_factors : (xs : ex.Factors) (ps : ex.Summands) (t : Tok) → is_rel t ≡ true → (ts : List Tok) (s : List Frame) →
    run (f.AfterLeaf ∷ s) (ex.spell_factors xs (ex.spell_summands ps (t ∷ ts))) ≡ run (f.RestThenRel ∷ s) (ex.spell_factors xs (ex.spell_summands ps (t ∷ ts)))
leaf_factors ex.no_factor ps t is ts s = leaf_summands ps t is ts s
leaf_factors (ex.times u by x xs) ps t is ts s =
    leaf_op u (mul_is_op u by) s (ex.spell_unit x (ex.spell_factors xs (ex.spell_summands ps (t ∷ ts))))

-- a comparison from after its first unit on
through_compare : (xs : ex.Factors) (ps : ex.Summands) (t : Tok) → is_rel t ≡ true → (b : ex.Expr) (rest : List Tok) → Passes f.Rest rest → (s : List Frame) →
    run (f.RestThenRel ∷ s) (ex.spell_factors xs (ex.spell_summands ps (t ∷ ex.spell_expr b rest))) ≡ run s rest
through_compare xs ps t is b rest p s =
    through_factors xs f.RestThenRel rest_then_rel_ops (ex.spell_summands ps (t ∷ ex.spell_expr b rest)) s
    ∙ through_summands ps f.RestThenRel rest_then_rel_ops (t ∷ ex.spell_expr b rest) s
    ∙ takes_rel t is s (ex.spell_expr b rest) ∙ through_expr b f.Rest rest_ops rest s ∙ p s

-- these tokens end a condition or an item
record Stops (rest : List Tok) : Type 0 where
  args : Passes (f.Args true) rest
  after_atom : Passes f.AfterAtom rest
  after_item_atom : Passes f.AfterItemAtom rest
  at : Passes f.At rest
  operators : Passes f.Rest rest
  shift : Passes f.Shift rest

stops_comma : (ts : List Tok) → Stops (k.Comma ∷ ts)
stops_comma ts = record {
  args = λ s. refl;
  after_atom = λ s. refl;
  after_item_atom = λ s. refl;
  at = λ s. refl;
  operators = λ s. refl;
  shift = λ s. refl;
}

stops_dot : (ts : List Tok) → Stops (k.Dot ∷ ts)
stops_dot ts = record {
  args = λ s. refl;
  after_atom = λ s. refl;
  after_item_atom = λ s. refl;
  at = λ s. refl;
  operators = λ s. refl;
  shift = λ s. refl;
}

stops_then : (ts : List Tok) → Stops (k.Then ∷ ts)
stops_then ts = record {
  args = λ s. refl;
  after_atom = λ s. refl;
  after_item_atom = λ s. refl;
  at = λ s. refl;
  operators = λ s. refl;
  shift = λ s. refl;
}

stops_or : (ts : List Tok) → Stops (k.Or ∷ ts)
stops_or ts = record {
  args = λ s. refl;
  after_atom = λ s. refl;
  after_item_atom = λ s. refl;
  at = λ s. refl;
  operators = λ s. refl;
  shift = λ s. refl;
}

-- built-ins may begin where `a` is expected; `after` is what is expected after an atom there
record Admits (a after : Frame) : Type 0 where
  leaf : (x : te.Leaf true) (rest : List Tok) (s : List Frame) → run (a ∷ s) (te.spell_leaf x rest) ≡ run (f.AfterLeaf ∷ s) rest
  name : (n : List ℕ) (rest : List Tok) (s : List Frame) → run (a ∷ s) (k.Name n ∷ rest) ≡ run (f.Args true ∷ after ∷ s) rest
  group : (rest : List Tok) (s : List Frame) → run (a ∷ s) (k.Open ∷ rest) ≡ run (f.Unit ∷ f.RestThenClose ∷ f.RestThenRel ∷ s) rest
  equal : (rest : List Tok) (s : List Frame) → run (after ∷ s) (k.Equal ∷ rest) ≡ run (f.Term true ∷ s) rest
  differ : (rest : List Tok) (s : List Frame) → run (after ∷ s) (k.Differ ∷ rest) ≡ run (f.Term true ∷ s) rest

cond_leaf : (x : te.Leaf true) (rest : List Tok) (s : List Frame) → run (f.Cond ∷ s) (te.spell_leaf x rest) ≡ run (f.AfterLeaf ∷ s) rest
cond_leaf (te.variable may n) rest s = refl
cond_leaf (te.number n small) rest s = rw small refl
cond_leaf (te.negative n small) rest s = rw small refl

item_leaf : (bounds : Bool) (x : te.Leaf true) (rest : List Tok) (s : List Frame) → run (f.Item bounds ∷ s) (te.spell_leaf x rest) ≡ run (f.AfterLeaf ∷ s) rest
item_leaf bounds (te.variable may n) rest s = refl
item_leaf bounds (te.number n small) rest s = rw small refl
item_leaf bounds (te.negative n small) rest s = rw small refl

cond_admits : Admits f.Cond f.AfterAtom
cond_admits = record {
  leaf = cond_leaf;
  name = λ n rest s. refl;
  group = λ rest s. refl;
  equal = λ rest s. refl;
  differ = λ rest s. refl;
}

item_admits : (bounds : Bool) → Admits (f.Item bounds) f.AfterItemAtom
item_admits bounds = record {
  leaf = item_leaf bounds;
  name = λ n rest s. refl;
  group = λ rest s. refl;
  equal = λ rest s. refl;
  differ = λ rest s. refl;
}

through_built : {a after : Frame} → Admits a after → (x : it.Built) (rest : List Tok) → Stops rest → (s : List Frame) →
    run (a ∷ s) (it.spell_built x rest) ≡ run s rest
through_built {after = after} may (it.same (te.named n xs) y) rest stop s =
    may.name n (te.spell_args xs (k.Equal ∷ te.spell_term y rest)) s
    ∙ through_args xs (k.Equal ∷ te.spell_term y rest) (λ u. refl) (after ∷ s)
    ∙ may.equal (te.spell_term y rest) s ∙ through_term y rest stop.args s
through_built may (it.same (te.leaf x) y) rest stop s =
    may.leaf x (k.Equal ∷ te.spell_term y rest) s ∙ through_term y rest stop.args s
through_built {after = after} may (it.differ (te.named n xs) y) rest stop s =
    may.name n (te.spell_args xs (k.Differ ∷ te.spell_term y rest)) s
    ∙ through_args xs (k.Differ ∷ te.spell_term y rest) (λ u. refl) (after ∷ s)
    ∙ may.differ (te.spell_term y rest) s ∙ through_term y rest stop.args s
through_built may (it.differ (te.leaf x) y) rest stop s =
    may.leaf x (k.Differ ∷ te.spell_term y rest) s ∙ through_term y rest stop.args s
through_built may (it.evaluates x e) rest stop s =
    may.leaf x (k.Is ∷ ex.spell_expr e rest) s ∙ through_expr e f.Rest rest_ops rest s ∙ stop.operators s
through_built may (it.compare (ex.expr (ex.prod (ex.single x) xs) ps) t is b) rest stop s =
    may.leaf x (ex.spell_factors xs (ex.spell_summands ps (t ∷ ex.spell_expr b rest))) s
    ∙ leaf_factors xs ps t is (ex.spell_expr b rest) s ∙ through_compare xs ps t is b rest stop.operators s
through_built may (it.compare (ex.expr (ex.prod (ex.grouped e) xs) ps) t is b) rest stop s =
    let tail = ex.spell_factors xs (ex.spell_summands ps (t ∷ ex.spell_expr b rest)) in
    may.group (ex.spell_expr e (k.Close ∷ tail)) s
    ∙ through_expr e f.RestThenClose rest_then_close_ops (k.Close ∷ tail) (f.RestThenRel ∷ s)
    ∙ through_compare xs ps t is b rest stop.operators s

-- ---- conditions

through_cond : (x : it.Cond) (rest : List Tok) → Stops rest → (s : List Frame) → run (f.Cond ∷ s) (it.spell_cond x rest) ≡ run s rest
through_cond (it.holds (te.atom n xs)) rest stop s = through_args xs rest stop.args (f.AfterAtom ∷ s) ∙ stop.after_atom s
through_cond (it.fails a) rest stop s = through_atom a rest stop.args s
through_cond (it.built b) rest stop s = through_built cond_admits b rest stop s

conds_stop : (xs : it.MoreConds) (ts : List Tok) → Stops (it.spell_conds xs (k.Dot ∷ ts))
conds_stop it.no_cond ts = stops_dot ts
conds_stop (it.also x xs) ts = stops_comma (it.spell_cond x (it.spell_conds xs (k.Dot ∷ ts)))

through_conds : (xs : it.MoreConds) (ts : List Tok) (s : List Frame) → run (f.MoreConds ∷ s) (it.spell_conds xs (k.Dot ∷ ts)) ≡ run s (k.Dot ∷ ts)
through_conds it.no_cond ts s = refl
through_conds (it.also x xs) ts s =
    through_cond x (it.spell_conds xs (k.Dot ∷ ts)) (conds_stop xs ts) (f.MoreConds ∷ s) ∙ through_conds xs ts s

through_conditions : (x : st.Conditions) (ts : List Tok) (s : List Frame) → run (f.Conditions ∷ s) (st.spell_conditions x (k.Dot ∷ ts)) ≡ run s (k.Dot ∷ ts)
through_conditions st.always ts s = refl
through_conditions (st.when c cs) ts s =
    through_cond c (it.spell_conds cs (k.Dot ∷ ts)) (conds_stop cs ts) (f.MoreConds ∷ s) ∙ through_conds cs ts s

head_conditions : (x : st.Conditions) (ts : List Tok) (s : List Frame) →
    run (f.Head ∷ s) (st.spell_conditions x (k.Dot ∷ ts)) ≡ run (f.Conditions ∷ s) (st.spell_conditions x (k.Dot ∷ ts))
head_conditions st.always ts s = refl
head_conditions (st.when c cs) ts s = refl

conditions_pass : (x : st.Conditions) (ts : List Tok) → Passes (f.Args true) (st.spell_conditions x (k.Dot ∷ ts))
conditions_pass st.always ts s = refl
conditions_pass (st.when c cs) ts s = refl

-- ---- items

through_item_at : (x : it.At) (rest : List Tok) → Stops rest → (s : List Frame) → run (f.AfterItemAtom ∷ s) (it.spell_at x rest) ≡ run s rest
through_item_at it.untimed rest stop s = stop.after_item_atom s
through_item_at (it.at t) rest stop s = refl

through_at : (x : it.At) (rest : List Tok) → Stops rest → (s : List Frame) → run (f.At ∷ s) (it.spell_at x rest) ≡ run s rest
through_at it.untimed rest stop s = stop.at s
through_at (it.at t) rest stop s = refl

at_passes : (x : it.At) (rest : List Tok) → Stops rest → Passes (f.Args true) (it.spell_at x rest)
at_passes it.untimed rest stop s = stop.args s
at_passes (it.at t) rest stop s = refl

takes_time_rel : (t : Tok) → is_time_rel t ≡ true → (s : List Frame) (ts : List Tok) → run (f.TimeRel ∷ s) (t ∷ ts) ≡ run s ts
takes_time_rel k.Less e s ts = refl
takes_time_rel k.AtMost e s ts = refl
takes_time_rel k.Equal e s ts = refl
takes_time_rel k.Greater e s ts = refl
takes_time_rel k.AtLeast e s ts = refl
takes_time_rel t e s ts = absurd cc

takes_shift : (t : Tok) → is_add t ≡ true → (s : List Frame) (ts : List Tok) → run (f.Shift ∷ s) (t ∷ ts) ≡ run (f.Constant ∷ s) ts
takes_shift k.Plus e s ts = refl
takes_shift k.Minus e s ts = refl
takes_shift t e s ts = absurd cc

through_shift : (x : it.Shift) (rest : List Tok) → Stops rest → (s : List Frame) → run (f.Shift ∷ s) (it.spell_shift x rest) ≡ run s rest
through_shift it.unshifted rest stop s = stop.shift s
through_shift (it.shifted t is n small) rest stop s = takes_shift t is s (k.Number n ∷ rest) ∙ rw small refl

through_con : (x : it.Con) (rest : List Tok) → Stops rest → (s : List Frame) → run (f.Item true ∷ s) (it.spell_con x rest) ≡ run s rest
through_con (it.con a t is b plus) rest stop s =
    takes_time_rel t is (f.Time ∷ f.Shift ∷ s) (k.Time b ∷ it.spell_shift plus rest) ∙ through_shift plus rest stop s

with_bounds : (bounds : Bool) → bounds ≡ true → (x : it.Con) (rest : List Tok) → Stops rest → (s : List Frame) → run (f.Item bounds ∷ s) (it.spell_con x rest) ≡ run s rest
with_bounds true may x rest stop s = through_con x rest stop s
with_bounds false may x rest stop s = absurd cc

through_item : {bounds : Bool} (x : it.Item bounds) (rest : List Tok) → Stops rest → (s : List Frame) → run (f.Item bounds ∷ s) (it.spell_item x rest) ≡ run s rest
through_item (it.true_at (te.atom n xs) w) rest stop s =
    through_args xs (it.spell_at w rest) (at_passes w rest stop) (f.AfterItemAtom ∷ s) ∙ through_item_at w rest stop s
through_item (it.false_at a w) rest stop s =
    through_atom a (it.spell_at w rest) (at_passes w rest stop) (f.At ∷ s) ∙ through_at w rest stop s
through_item (it.spans (te.atom n xs) begin until) rest stop s =
    through_args xs (it.spell_span begin until rest) (λ u. refl) (f.AfterItemAtom ∷ s)
through_item {bounds = bounds} (it.tests b) rest stop s = through_built (item_admits bounds) b rest stop s
through_item {bounds = bounds} (it.bound may c) rest stop s = with_bounds bounds may c rest stop s

-- the phrase takes a comma, and then an item and itself are expected
abbrev TakesItems : Frame → Bool → Type 0
TakesItems r bounds = (s : List Frame) (ts : List Tok) → run (r ∷ s) (k.Comma ∷ ts) ≡ run (f.Item bounds ∷ r ∷ s) ts

items_stop : {bounds : Bool} (xs : it.MoreItems bounds) (rest : List Tok) → Stops rest → Stops (it.spell_items xs rest)
items_stop it.no_item rest stop = stop
items_stop (it.then_item x xs) rest stop = stops_comma (it.spell_item x (it.spell_items xs rest))

through_items : {bounds : Bool} (xs : it.MoreItems bounds) (r : Frame) → TakesItems r bounds → (rest : List Tok) → Stops rest → (s : List Frame) →
    run (r ∷ s) (it.spell_items xs rest) ≡ run (r ∷ s) rest
through_items it.no_item r takes rest stop s = refl
through_items (it.then_item x xs) r takes rest stop s =
    takes s (it.spell_item x (it.spell_items xs rest))
    ∙ through_item x (it.spell_items xs rest) (items_stop xs rest stop) (r ∷ s) ∙ through_items xs r takes rest stop s

through_seq : {bounds : Bool} (x : it.Seq bounds) (r : Frame) → TakesItems r bounds → (rest : List Tok) → Stops rest → (s : List Frame) →
    run (f.Item bounds ∷ r ∷ s) (it.spell_seq x rest) ≡ run (r ∷ s) rest
through_seq (it.seq x xs) r takes rest stop s =
    through_item x (it.spell_items xs rest) (items_stop xs rest stop) (r ∷ s) ∙ through_items xs r takes rest stop s

more_items : (bounds : Bool) → TakesItems (f.MoreItems bounds) bounds
more_items bounds s ts = refl

alternatives_stop : (xs : st.Alternatives) (ts : List Tok) → Stops (st.spell_alternatives xs (k.Dot ∷ ts))
alternatives_stop st.no_other ts = stops_dot ts
alternatives_stop (st.or_else x xs) ts = stops_or (it.spell_seq x (st.spell_alternatives xs (k.Dot ∷ ts)))

alternatives_pass : (xs : st.Alternatives) (ts : List Tok) → Passes (f.MoreItems true) (st.spell_alternatives xs (k.Dot ∷ ts))
alternatives_pass st.no_other ts s = refl
alternatives_pass (st.or_else x xs) ts s = refl

through_alternatives : (xs : st.Alternatives) (ts : List Tok) (s : List Frame) →
    run (f.Alternatives ∷ s) (st.spell_alternatives xs (k.Dot ∷ ts)) ≡ run s (k.Dot ∷ ts)
through_alternatives st.no_other ts s = refl
through_alternatives (st.or_else x xs) ts s =
    through_seq x (f.MoreItems true) (more_items true) (st.spell_alternatives xs (k.Dot ∷ ts)) (alternatives_stop xs ts) (f.Alternatives ∷ s)
    ∙ alternatives_pass xs ts (f.Alternatives ∷ s) ∙ through_alternatives xs ts s

through_consequent : (x : it.Seq true) (xs : st.Alternatives) (ts : List Tok) (s : List Frame) →
    run (f.Item true ∷ f.MoreItems true ∷ f.Alternatives ∷ s) (it.spell_seq x (st.spell_alternatives xs (k.Dot ∷ ts))) ≡ run s (k.Dot ∷ ts)
through_consequent x xs ts s = through_alternatives (st.or_else x xs) ts s

-- ---- statements

through_decl : (x : st.Decl) (rest : List Tok) (s : List Frame) → run (f.Decl ∷ s) (st.spell_decl x rest) ≡ run s rest
through_decl (st.decl n arity small) rest s = rw small refl

through_decls : (xs : st.MoreDecls) (ts : List Tok) (s : List Frame) → run (f.MoreDecls ∷ s) (st.spell_decls xs (k.Dot ∷ ts)) ≡ run s (k.Dot ∷ ts)
through_decls st.no_decl ts s = refl
through_decls (st.also_decl x xs) ts s = through_decl x (st.spell_decls xs (k.Dot ∷ ts)) (f.MoreDecls ∷ s) ∙ through_decls xs ts s

mutual
  through_modes : {n : ℕ} {free : Bool} (x : st.Modes n free) (rest : List Tok) (s : List Frame) → run (f.Modes n free ∷ s) (st.spell_modes x rest) ≡ run s rest
  through_modes (st.input xs) rest s = through_more_modes xs rest s
  through_modes (st.output xs) rest s = through_more_modes xs rest s
  through_modes (st.falling may xs) rest s = rw may (through_more_modes xs rest s)

  through_more_modes : {n : ℕ} {free : Bool} (x : st.MoreModes n free) (rest : List Tok) (s : List Frame) →
      run (f.MoreModes n free ∷ s) (st.spell_more_modes x rest) ≡ run s rest
  through_more_modes st.last_mode rest s = refl
  through_more_modes {n = suc n} (st.also_mode xs) rest s = through_modes xs rest s

through_mode_list : (x : st.ModeList) (rest : List Tok) → Passes f.ModeList rest → (s : List Frame) → run (f.ModeList ∷ s) (st.spell_mode_list x rest) ≡ run s rest
through_mode_list st.no_mode rest p s = p s
through_mode_list (st.modes xs) rest p s = through_modes xs rest s

modeds_pass : (xs : st.MoreModed) (ts : List Tok) → Passes f.ModeList (st.spell_modeds xs (k.Dot ∷ ts))
modeds_pass st.no_moded ts s = refl
modeds_pass (st.also_moded x xs) ts s = refl

through_moded : (x : st.Moded) (rest : List Tok) → Passes f.ModeList rest → (s : List Frame) → run (f.Moded ∷ s) (st.spell_moded x rest) ≡ run s rest
through_moded (st.moded n xs) rest p s = through_mode_list xs rest p s

through_modeds : (xs : st.MoreModed) (ts : List Tok) (s : List Frame) → run (f.MoreModed ∷ s) (st.spell_modeds xs (k.Dot ∷ ts)) ≡ run s (k.Dot ∷ ts)
through_modeds st.no_moded ts s = refl
through_modeds (st.also_moded x xs) ts s =
    through_moded x (st.spell_modeds xs (k.Dot ∷ ts)) (modeds_pass xs ts) (f.MoreModed ∷ s) ∙ through_modeds xs ts s

atoms_pass : (xs : st.MoreAtoms) (ts : List Tok) → Passes (f.Args true) (st.spell_atoms xs (k.Dot ∷ ts))
atoms_pass st.no_atom ts s = refl
atoms_pass (st.also_atom x xs) ts s = refl

through_atoms : (xs : st.MoreAtoms) (ts : List Tok) (s : List Frame) → run (f.MoreAtoms ∷ s) (st.spell_atoms xs (k.Dot ∷ ts)) ≡ run s (k.Dot ∷ ts)
through_atoms st.no_atom ts s = refl
through_atoms (st.also_atom x xs) ts s =
    through_atom x (st.spell_atoms xs (k.Dot ∷ ts)) (atoms_pass xs ts) (f.MoreAtoms ∷ s) ∙ through_atoms xs ts s

takes_kind : (t : Tok) → is_kind t ≡ true → (s : List Frame) (ts : List Tok) → run (f.Text ∷ s) (t ∷ ts) ≡ run (f.Decl ∷ f.MoreDecls ∷ f.End ∷ s) ts
takes_kind k.Fluent e s ts = refl
takes_kind k.Event e s ts = refl
takes_kind k.Action e s ts = refl
takes_kind t e s ts = absurd cc

takes_moded_kind : (t : Tok) → is_moded_kind t ≡ true → (s : List Frame) (ts : List Tok) → run (f.Text ∷ s) (t ∷ ts) ≡ run (f.Moded ∷ f.MoreModed ∷ f.End ∷ s) ts
takes_moded_kind k.Timeless e s ts = refl
takes_moded_kind k.Derived e s ts = refl
takes_moded_kind k.Macro e s ts = refl
takes_moded_kind t e s ts = absurd cc

takes_effect : (t : Tok) → is_effect t ≡ true → (s : List Frame) (ts : List Tok) → run (f.Head ∷ s) (t ∷ ts) ≡ run (f.Atom true ∷ f.Conditions ∷ s) ts
takes_effect k.Initiates e s ts = refl
takes_effect k.Terminates e s ts = refl
takes_effect t e s ts = absurd cc

effect_passes : (t : Tok) → is_effect t ≡ true → (ts : List Tok) → Passes (f.Args true) (t ∷ ts)
effect_passes k.Initiates e ts s = refl
effect_passes k.Terminates e ts s = refl
effect_passes t e ts s = absurd cc

through_statement : (x : st.Statement) (ts : List Tok) (s : List Frame) →
    run (f.Text ∷ s) (st.spell_statement x (k.Dot ∷ ts)) ≡ run (f.End ∷ s) (k.Dot ∷ ts)
through_statement (st.declares t is d ds) ts s =
    takes_kind t is s (st.spell_decl d (st.spell_decls ds (k.Dot ∷ ts)))
    ∙ through_decl d (st.spell_decls ds (k.Dot ∷ ts)) (f.MoreDecls ∷ f.End ∷ s) ∙ through_decls ds ts (f.End ∷ s)
through_statement (st.declares_modes t is d ds) ts s =
    takes_moded_kind t is s (st.spell_moded d (st.spell_modeds ds (k.Dot ∷ ts)))
    ∙ through_moded d (st.spell_modeds ds (k.Dot ∷ ts)) (modeds_pass ds ts) (f.MoreModed ∷ f.End ∷ s) ∙ through_modeds ds ts (f.End ∷ s)
through_statement (st.initially a xs) ts s =
    through_atom a (st.spell_atoms xs (k.Dot ∷ ts)) (atoms_pass xs ts) (f.MoreAtoms ∷ f.End ∷ s) ∙ through_atoms xs ts (f.End ∷ s)
through_statement (st.denial x) ts s = through_seq x (f.MoreItems false) (more_items false) (k.Dot ∷ ts) (stops_dot ts) (f.End ∷ s)
through_statement (st.rule x y ys) ts s =
    let after = it.spell_seq y (st.spell_alternatives ys (k.Dot ∷ ts)) in
    through_seq x f.Antecedent (λ u us. refl) (k.Then ∷ after) (stops_then after) (f.End ∷ s) ∙ through_consequent y ys ts (f.End ∷ s)
through_statement (st.law (te.atom n xs) t is fluent cs) ts s =
    let after = st.spell_conditions cs (k.Dot ∷ ts) in
    through_args xs (t ∷ te.spell_atom fluent after) (effect_passes t is (te.spell_atom fluent after)) (f.Head ∷ f.End ∷ s)
    ∙ takes_effect t is (f.End ∷ s) (te.spell_atom fluent after)
    ∙ through_atom fluent after (conditions_pass cs ts) (f.Conditions ∷ f.End ∷ s) ∙ through_conditions cs ts (f.End ∷ s)
through_statement (st.macro_clause (te.atom n xs) begin until x) ts s =
    through_args xs (it.spell_span begin until (k.If ∷ it.spell_seq x (k.Dot ∷ ts))) (λ u. refl) (f.Head ∷ f.End ∷ s)
    ∙ through_seq x (f.MoreItems true) (more_items true) (k.Dot ∷ ts) (stops_dot ts) (f.End ∷ s)
through_statement (st.clause (te.atom n xs) cs) ts s =
    through_args xs (st.spell_conditions cs (k.Dot ∷ ts)) (conditions_pass cs ts) (f.Head ∷ f.End ∷ s)
    ∙ head_conditions cs ts (f.End ∷ s) ∙ through_conditions cs ts (f.End ∷ s)

pub through_text : (x : st.Text) (rest : List Tok) (s : List Frame) → run (f.Text ∷ s) (st.spell_text x rest) ≡ run (f.Text ∷ s) rest
through_text st.done rest s = refl
through_text (st.next x xs) rest s = through_statement x (st.spell_text xs rest) s ∙ through_text xs rest s

-- ---- lines of events

events_pass : (xs : li.MoreEvents) (ts : List Tok) → Passes (f.Args false) (li.spell_more_events xs (k.Dot ∷ ts))
events_pass li.no_event ts s = refl
events_pass (li.also_event x xs) ts s = refl

through_more_events : (xs : li.MoreEvents) (ts : List Tok) (s : List Frame) → run (f.MoreEvents ∷ s) (li.spell_more_events xs (k.Dot ∷ ts)) ≡ run s (k.Dot ∷ ts)
through_more_events li.no_event ts s = refl
through_more_events (li.also_event (te.atom n x) xs) ts s =
    through_args x (li.spell_more_events xs (k.Dot ∷ ts)) (events_pass xs ts) (f.MoreEvents ∷ s) ∙ through_more_events xs ts s

through_events : (x : li.Events) (ts : List Tok) (s : List Frame) → run (f.Events ∷ s) (li.spell_events x (k.Dot ∷ ts)) ≡ run s (k.Dot ∷ ts)
through_events li.none ts s = refl
through_events (li.events (te.atom n x) xs) ts s =
    through_args x (li.spell_more_events xs (k.Dot ∷ ts)) (events_pass xs ts) (f.MoreEvents ∷ s) ∙ through_more_events xs ts s

pub through_line : (x : li.Line) (rest : List Tok) (s : List Frame) → run (f.Line ∷ s) (li.spell_line x rest) ≡ run s rest
through_line (li.line n xs) rest s = through_events xs rest (f.LineEnd ∷ s)

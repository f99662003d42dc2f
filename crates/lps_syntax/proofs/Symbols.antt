-- The counts of symbols are the numbers of the symbols of each tree.
use Rattle.std.specs.Prelude.{ℕ, suc, ◌+◌, ◌≡◌, Bool, true, false, List, [], ◌∷◌, refl}
use Rattle.std.proofs.Common.{◌∙◌, ap}
use Rattle.lps_grammar.specs.declared.tok.Tok.{Tok}
use Rattle.lps_grammar.specs.declared.tok.Tok.TheVariants as k
use Rattle.lps_grammar.specs.Signs.{is_add, is_op, is_rel, is_time_rel, is_kind, is_moded_kind, is_effect}
use Rattle.lps_grammar.specs.Terms as te
use Rattle.lps_grammar.specs.Expressions as ex
use Rattle.lps_grammar.specs.Items as it
use Rattle.lps_grammar.specs.Statements as st
use Rattle.lps_grammar.specs.Lines as li
use Rattle.lps_grammar.specs.Sizes as sz
use Rattle.lps_syntax.specs.declared.frame.Frame.{Frame}
use Rattle.lps_syntax.specs.declared.frame.Frame.TheVariants as f
use Rattle.lps_syntax.proofs.Complete.{mul_is_op, add_is_op}
use Rattle.lps_syntax.specs.Counts as c

abbrev tally : List Frame → ℕ → List Tok → List ℕ
tally = c.counts c.symbols_after

-- these tokens go past the phrase, and the counts are those of what is below
abbrev Passes : Frame → List Tok → Type 0
Passes a rest = (s : List Frame) (n : ℕ) → tally (a ∷ s) n rest ≡ tally s n rest

-- after these phrases the counts are `left`, whatever the count is
abbrev Leaves : List Frame → List Tok → List ℕ → Type 0
Leaves s rest left = (n : ℕ) → tally s n rest ≡ left

-- ---- terms and atoms

terms_pass : {vars : Bool} {m : ℕ} (xs : te.Terms vars m) (rest : List Tok) → Passes (f.Args vars) (te.spell_terms xs rest)
terms_pass te.end rest s n = refl
terms_pass (te.more x xs) rest s n = refl

leaf_counts : {vars : Bool} (x : te.Leaf vars) (rest : List Tok) (s : List Frame) (n : ℕ) →
    tally (f.Term vars ∷ s) n (te.spell_leaf x rest) ≡ sz.symbols_leaf x n (λ d. tally s d rest)
leaf_counts (te.variable may v) rest s n = rw may refl
leaf_counts (te.number v small) rest s n = rw small refl
leaf_counts (te.negative v small) rest s n = rw small refl

mutual
  term_counts : {vars : Bool} (x : te.Term vars) (rest : List Tok) → Passes (f.Args vars) rest → (s : List Frame) (n : ℕ) →
      tally (f.Term vars ∷ s) n (te.spell_term x rest) ≡ sz.symbols_term x n (λ d. tally s d rest)
  term_counts (te.named v xs) rest p s n = ap (λ us. (n + 1) ∷ us) (args_counts xs rest p s (n + 1))
  term_counts (te.leaf x) rest p s n = leaf_counts x rest s n

  args_counts : {vars : Bool} (x : te.Args vars) (rest : List Tok) → Passes (f.Args vars) rest → (s : List Frame) (n : ℕ) →
      tally (f.Args vars ∷ s) n (te.spell_args x rest) ≡ sz.symbols_args x n (λ d. tally s d rest)
  args_counts te.bare rest p s n = p s n
  args_counts {vars = vars} (te.args x xs) rest p s n = ap (λ us. n ∷ us)
      (term_counts x (te.spell_terms xs rest) (terms_pass xs rest) (f.Terms vars 63 ∷ s) n ∙ (λ i. sz.symbols_term x n (λ d. terms_counts xs rest s d i)))

  terms_counts : {vars : Bool} {m : ℕ} (xs : te.Terms vars m) (rest : List Tok) (s : List Frame) (n : ℕ) →
      tally (f.Terms vars m ∷ s) n (te.spell_terms xs rest) ≡ sz.symbols_terms xs n (λ d. tally s d rest)
  terms_counts te.end rest s n = refl
  terms_counts {vars = vars} {m = suc m} (te.more x xs) rest s n = ap (λ us. n ∷ us)
      (term_counts x (te.spell_terms xs rest) (terms_pass xs rest) (f.Terms vars m ∷ s) n ∙ (λ i. sz.symbols_term x n (λ d. terms_counts xs rest s d i)))

-- the arguments of an atom, whose name was counted
atom_args : {vars : Bool} (xs : te.Args vars) (rest : List Tok) → Passes (f.Args vars) rest → (s : List Frame) (left : List ℕ) → Leaves s rest left →
    tally (f.Args vars ∷ s) 1 (te.spell_args xs rest) ≡ sz.symbols_args xs 1 (λ d. left)
atom_args xs rest p s left e = args_counts xs rest p s 1 ∙ (λ i. sz.symbols_args xs 1 (λ d. e d i))

atom_counts : {vars : Bool} (x : te.Atom vars) (rest : List Tok) → Passes (f.Args vars) rest → (s : List Frame) (left : List ℕ) → Leaves s rest left →
    Leaves (f.Atom vars ∷ s) (te.spell_atom x rest) (sz.symbols_atom x left)
atom_counts (te.atom v xs) rest p s left e n = ap (λ us. 1 ∷ us) (atom_args xs rest p s left e)

side_counts : (x : te.Term true) (rest : List Tok) → Passes (f.Args true) rest → (s : List Frame) (left : List ℕ) → Leaves s rest left →
    tally (f.Term true ∷ s) 0 (te.spell_term x rest) ≡ sz.symbols_term x 0 (λ d. left)
side_counts x rest p s left e = term_counts x rest p s 0 ∙ (λ i. sz.symbols_term x 0 (λ d. e d i))

-- ---- expressions

abbrev TakesOps : Frame → Type 0
TakesOps r = (t : Tok) → is_op t ≡ true → (s : List Frame) (ts : List Tok) (n : ℕ) → tally (r ∷ s) n (t ∷ ts) ≡ (n + 1) ∷ tally (f.Unit ∷ r ∷ s) (n + 1) ts

rest_ops : TakesOps f.Rest
rest_ops t e s ts n = rw e refl

rest_then_rel_ops : TakesOps f.RestThenRel
rest_then_rel_ops k.Plus e s ts n = refl
rest_then_rel_ops k.Minus e s ts n = refl
rest_then_rel_ops k.Star e s ts n = refl
rest_then_rel_ops k.Div e s ts n = refl
rest_then_rel_ops k.Mod e s ts n = refl
rest_then_rel_ops t e s ts n = absurd cc

rest_then_close_ops : TakesOps f.RestThenClose
rest_then_close_ops k.Plus e s ts n = refl
rest_then_close_ops k.Minus e s ts n = refl
rest_then_close_ops k.Star e s ts n = refl
rest_then_close_ops k.Div e s ts n = refl
rest_then_close_ops k.Mod e s ts n = refl
rest_then_close_ops t e s ts n = absurd cc

single_counts : (x : te.Leaf true) (rest : List Tok) (s : List Frame) (n : ℕ) → tally (f.Unit ∷ s) n (te.spell_leaf x rest) ≡ sz.symbols_leaf x n (λ d. tally s d rest)
single_counts (te.variable may v) rest s n = refl
single_counts (te.number v small) rest s n = rw small refl
single_counts (te.negative v small) rest s n = rw small refl

mutual
  unit_counts : (x : ex.Unit) (rest : List Tok) (s : List Frame) (n : ℕ) → tally (f.Unit ∷ s) n (ex.spell_unit x rest) ≡ sz.symbols_unit x n (λ d. tally s d rest)
  unit_counts (ex.single x) rest s n = single_counts x rest s n
  unit_counts (ex.grouped e) rest s n = ap (λ us. (n + 1) ∷ us) (expr_counts e f.RestThenClose rest_then_close_ops (k.Close ∷ rest) s (n + 1))

  factors_counts : (x : ex.Factors) (r : Frame) → TakesOps r → (rest : List Tok) (s : List Frame) (n : ℕ) →
      tally (r ∷ s) n (ex.spell_factors x rest) ≡ sz.symbols_factors x n (λ d. tally (r ∷ s) d rest)
  factors_counts ex.no_factor r ops rest s n = refl
  factors_counts (ex.times t is x xs) r ops rest s n =
      ops t (mul_is_op t is) s (ex.spell_unit x (ex.spell_factors xs rest)) n
      ∙ ap (λ us. (n + 1) ∷ us) (unit_counts x (ex.spell_factors xs rest) (r ∷ s) (n + 1) ∙ (λ i. sz.symbols_unit x (n + 1) (λ d. factors_counts xs r ops rest s d i)))

  prod_counts : (x : ex.Prod) (r : Frame) → TakesOps r → (rest : List Tok) (s : List Frame) (n : ℕ) →
      tally (f.Unit ∷ r ∷ s) n (ex.spell_prod x rest) ≡ sz.symbols_prod x n (λ d. tally (r ∷ s) d rest)
  prod_counts (ex.prod x xs) r ops rest s n =
      unit_counts x (ex.spell_factors xs rest) (r ∷ s) n ∙ (λ i. sz.symbols_unit x n (λ d. factors_counts xs r ops rest s d i))

  summands_counts : (x : ex.Summands) (r : Frame) → TakesOps r → (rest : List Tok) (s : List Frame) (n : ℕ) →
      tally (r ∷ s) n (ex.spell_summands x rest) ≡ sz.symbols_summands x n (λ d. tally (r ∷ s) d rest)
  summands_counts ex.no_summand r ops rest s n = refl
  summands_counts (ex.plus t is p ps) r ops rest s n =
      ops t (add_is_op t is) s (ex.spell_prod p (ex.spell_summands ps rest)) n
      ∙ ap (λ us. (n + 1) ∷ us) (prod_counts p r ops (ex.spell_summands ps rest) s (n + 1) ∙ (λ i. sz.symbols_prod p (n + 1) (λ d. summands_counts ps r ops rest s d i)))

  expr_counts : (x : ex.Expr) (r : Frame) → TakesOps r → (rest : List Tok) (s : List Frame) (n : ℕ) →
      tally (f.Unit ∷ r ∷ s) n (ex.spell_expr x rest) ≡ sz.symbols_expr x n (λ d. tally (r ∷ s) d rest)
  expr_counts (ex.expr p ps) r ops rest s n =
      prod_counts p r ops (ex.spell_summands ps rest) s n ∙ (λ i. sz.symbols_prod p n (λ d. summands_counts ps r ops rest s d i))

-- an expression that is the last side
last_expr : (x : ex.Expr) (rest : List Tok) → Passes f.Rest rest → (s : List Frame) (left : List ℕ) → Leaves s rest left →
    tally (f.Unit ∷ f.Rest ∷ s) 0 (ex.spell_expr x rest) ≡ sz.symbols_expr x 0 (λ d. left)
last_expr x rest p s left e = expr_counts x f.Rest rest_ops rest s 0 ∙ (λ i. sz.symbols_expr x 0 (λ d. (p s d ∙ e d) i))

-- ---- built-ins

leaf_op : (t : Tok) → is_op t ≡ true → (s : List Frame) (ts : List Tok) (n : ℕ) → tally (f.AfterLeaf ∷ s) n (t ∷ ts) ≡ tally (f.RestThenRel ∷ s) n (t ∷ ts)
leaf_op k.Equal e s ts n = absurd cc
leaf_op k.Differ e s ts n = absurd cc
leaf_op k.Is e s ts n = absurd cc
leaf_op t e s ts n = refl

leaf_rel : (t : Tok) → is_rel t ≡ true → (s : List Frame) (ts : List Tok) (n : ℕ) → tally (f.AfterLeaf ∷ s) n (t ∷ ts) ≡ tally (f.RestThenRel ∷ s) n (t ∷ ts)
leaf_rel k.Equal e s ts n = absurd cc
leaf_rel k.Differ e s ts n = absurd cc
leaf_rel k.Is e s ts n = absurd cc
leaf_rel t e s ts n = refl

takes_rel : (t : Tok) → is_rel t ≡ true → (s : List Frame) (ts : List Tok) (n : ℕ) → tally (f.RestThenRel ∷ s) n (t ∷ ts) ≡ 0 ∷ tally (f.Unit ∷ f.Rest ∷ s) 0 ts
takes_rel k.Less e s ts n = refl
takes_rel k.AtMost e s ts n = refl
takes_rel k.Greater e s ts n = refl
takes_rel k.AtLeast e s ts n = refl
takes_rel t e s ts n = absurd cc

leaf_summands : (ps : ex.Summands) (t : Tok) → is_rel t ≡ true → (ts : List Tok) (s : List Frame) (n : ℕ) →
    tally (f.AfterLeaf ∷ s) n (ex.spell_summands ps (t ∷ ts)) ≡ tally (f.RestThenRel ∷ s) n (ex.spell_summands ps (t ∷ ts))
leaf_summands ex.no_summand t is ts s n = leaf_rel t is s ts n
leaf_summands (ex.plus u by p ps) t is ts s n = leaf_op u (add_is_op u by) s (ex.spell_prod p (ex.spell_summands ps (t ∷ ts))) n

leaf_factors : (xs : ex.Factors) (ps : ex.Summands) (t : Tok) → is_rel t ≡ true → (ts : List Tok) (s : List Frame) (n : ℕ) →
    tally (f.AfterLeaf ∷ s) n (ex.spell_factors xs (ex.spell_summands ps (t ∷ ts))) ≡ tally (f.RestThenRel ∷ s) n (ex.spell_factors xs (ex.spell_summands ps (t ∷ ts)))
leaf_factors ex.no_factor ps t is ts s n = leaf_summands ps t is ts s n
leaf_factors (ex.times u by x xs) ps t is ts s n =
    leaf_op u (mul_is_op u by) s (ex.spell_unit x (ex.spell_factors xs (ex.spell_summands ps (t ∷ ts)))) n

-- these tokens end a condition or an item
record Stops (rest : List Tok) : Type 0 where
  args : Passes (f.Args true) rest
  after_atom : Passes f.AfterAtom rest
  after_item_atom : Passes f.AfterItemAtom rest
  at : Passes f.At rest
  operators : Passes f.Rest rest
  shift : Passes f.Shift rest

stops_comma : (ts : List Tok) → Stops (k.Comma ∷ ts)
stops_comma ts = record {
  args = λ s n. refl;
  after_atom = λ s n. refl;
  after_item_atom = λ s n. refl;
  at = λ s n. refl;
  operators = λ s n. refl;
  shift = λ s n. refl;
}

stops_dot : (ts : List Tok) → Stops (k.Dot ∷ ts)
stops_dot ts = record {
  args = λ s n. refl;
  after_atom = λ s n. refl;
  after_item_atom = λ s n. refl;
  at = λ s n. refl;
  operators = λ s n. refl;
  shift = λ s n. refl;
}

stops_then : (ts : List Tok) → Stops (k.Then ∷ ts)
stops_then ts = record {
  args = λ s n. refl;
  after_atom = λ s n. refl;
  after_item_atom = λ s n. refl;
  at = λ s n. refl;
  operators = λ s n. refl;
  shift = λ s n. refl;
}

stops_or : (ts : List Tok) → Stops (k.Or ∷ ts)
stops_or ts = record {
  args = λ s n. refl;
  after_atom = λ s n. refl;
  after_item_atom = λ s n. refl;
  at = λ s n. refl;
  operators = λ s n. refl;
  shift = λ s n. refl;
}

-- a comparison from after its first unit on
module _ (t : Tok) (is : is_rel t ≡ true) (b : ex.Expr) (rest : List Tok) (p : Passes f.Rest rest) (s : List Frame) (left : List ℕ) (e : Leaves s rest left) where
  right_counts : (n : ℕ) → tally (f.RestThenRel ∷ s) n (t ∷ ex.spell_expr b rest) ≡ 0 ∷ sz.symbols_expr b 0 (λ h. left)
  right_counts n = takes_rel t is s (ex.spell_expr b rest) n ∙ ap (λ us. 0 ∷ us) (last_expr b rest p s left e)

  compare_counts : (xs : ex.Factors) (ps : ex.Summands) (n : ℕ) → tally (f.RestThenRel ∷ s) n (ex.spell_factors xs (ex.spell_summands ps (t ∷ ex.spell_expr b rest)))
      ≡ sz.symbols_factors xs n (λ d. sz.symbols_summands ps d (λ h. 0 ∷ sz.symbols_expr b 0 (λ j. left)))
  compare_counts xs ps n =
      factors_counts xs f.RestThenRel rest_then_rel_ops (ex.spell_summands ps (t ∷ ex.spell_expr b rest)) s n
      ∙ (λ i. sz.symbols_factors xs n (λ d. (summands_counts ps f.RestThenRel rest_then_rel_ops (t ∷ ex.spell_expr b rest) s d) i))
      ∙ (λ i. sz.symbols_factors xs n (λ d. sz.symbols_summands ps d (λ h. right_counts h i)))

  compare_leaf : (xs : ex.Factors) (ps : ex.Summands) (n : ℕ) → tally (f.AfterLeaf ∷ s) n (ex.spell_factors xs (ex.spell_summands ps (t ∷ ex.spell_expr b rest)))
      ≡ sz.symbols_factors xs n (λ d. sz.symbols_summands ps d (λ h. 0 ∷ sz.symbols_expr b 0 (λ j. left)))
  compare_leaf xs ps n = leaf_factors xs ps t is (ex.spell_expr b rest) s n ∙ compare_counts xs ps n

-- built-ins may begin where `a` is expected; `after` is what is expected after an atom there
record Admits (a after : Frame) : Type 0 where
  leaf : (x : te.Leaf true) (rest : List Tok) (s : List Frame) (n : ℕ) → tally (a ∷ s) n (te.spell_leaf x rest) ≡ sz.symbols_leaf x 0 (λ d. tally (f.AfterLeaf ∷ s) d rest)
  name : (v : List ℕ) (rest : List Tok) (s : List Frame) (n : ℕ) → tally (a ∷ s) n (k.Name v ∷ rest) ≡ 1 ∷ tally (f.Args true ∷ after ∷ s) 1 rest
  group : (rest : List Tok) (s : List Frame) (n : ℕ) → tally (a ∷ s) n (k.Open ∷ rest) ≡ 1 ∷ tally (f.Unit ∷ f.RestThenClose ∷ f.RestThenRel ∷ s) 1 rest
  equal : (rest : List Tok) (s : List Frame) (n : ℕ) → tally (after ∷ s) n (k.Equal ∷ rest) ≡ 0 ∷ tally (f.Term true ∷ s) 0 rest
  differ : (rest : List Tok) (s : List Frame) (n : ℕ) → tally (after ∷ s) n (k.Differ ∷ rest) ≡ 0 ∷ tally (f.Term true ∷ s) 0 rest

cond_leaf : (x : te.Leaf true) (rest : List Tok) (s : List Frame) (n : ℕ) → tally (f.Cond ∷ s) n (te.spell_leaf x rest) ≡ sz.symbols_leaf x 0 (λ d. tally (f.AfterLeaf ∷ s) d rest)
cond_leaf (te.variable may v) rest s n = refl
cond_leaf (te.number v small) rest s n = rw small refl
cond_leaf (te.negative v small) rest s n = rw small refl

item_leaf : (bounds : Bool) (x : te.Leaf true) (rest : List Tok) (s : List Frame) (n : ℕ) →
    tally (f.Item bounds ∷ s) n (te.spell_leaf x rest) ≡ sz.symbols_leaf x 0 (λ d. tally (f.AfterLeaf ∷ s) d rest)
item_leaf bounds (te.variable may v) rest s n = refl
item_leaf bounds (te.number v small) rest s n = rw small refl
item_leaf bounds (te.negative v small) rest s n = rw small refl

cond_admits : Admits f.Cond f.AfterAtom
cond_admits = record {
  leaf = cond_leaf;
  name = λ v rest s n. refl;
  group = λ rest s n. refl;
  equal = λ rest s n. refl;
  differ = λ rest s n. refl;
}

item_admits : (bounds : Bool) → Admits (f.Item bounds) f.AfterItemAtom
item_admits bounds = record {
  leaf = item_leaf bounds;
  name = λ v rest s n. refl;
  group = λ rest s n. refl;
  equal = λ rest s n. refl;
  differ = λ rest s n. refl;
}

built_counts : {a after : Frame} → Admits a after → (x : it.Built) (rest : List Tok) → Stops rest → (s : List Frame) (left : List ℕ) → Leaves s rest left →
    Leaves (a ∷ s) (it.spell_built x rest) (sz.symbols_built x left)
built_counts {after = after} may (it.same (te.named v xs) y) rest stop s left e n =
    let on : (d : ℕ) → tally (after ∷ s) d (k.Equal ∷ te.spell_term y rest) ≡ 0 ∷ sz.symbols_term y 0 (λ h. left) =
    λ d. may.equal (te.spell_term y rest) s d ∙ ap (λ us. 0 ∷ us) (side_counts y rest stop.args s left e) in
    may.name v (te.spell_args xs (k.Equal ∷ te.spell_term y rest)) s n
    ∙ ap (λ us. 1 ∷ us) (atom_args xs (k.Equal ∷ te.spell_term y rest) (λ u d. refl) (after ∷ s) (0 ∷ sz.symbols_term y 0 (λ h. left)) on)
built_counts may (it.same (te.leaf x) y) rest stop s left e n =
    may.leaf x (k.Equal ∷ te.spell_term y rest) s n ∙ (λ i. sz.symbols_leaf x 0 (λ d. 0 ∷ side_counts y rest stop.args s left e i))
built_counts {after = after} may (it.differ (te.named v xs) y) rest stop s left e n =
    let on : (d : ℕ) → tally (after ∷ s) d (k.Differ ∷ te.spell_term y rest) ≡ 0 ∷ sz.symbols_term y 0 (λ h. left) =
    λ d. may.differ (te.spell_term y rest) s d ∙ ap (λ us. 0 ∷ us) (side_counts y rest stop.args s left e) in
    may.name v (te.spell_args xs (k.Differ ∷ te.spell_term y rest)) s n
    ∙ ap (λ us. 1 ∷ us) (atom_args xs (k.Differ ∷ te.spell_term y rest) (λ u d. refl) (after ∷ s) (0 ∷ sz.symbols_term y 0 (λ h. left)) on)
built_counts may (it.differ (te.leaf x) y) rest stop s left e n =
    may.leaf x (k.Differ ∷ te.spell_term y rest) s n ∙ (λ i. sz.symbols_leaf x 0 (λ d. 0 ∷ side_counts y rest stop.args s left e i))
built_counts may (it.evaluates x y) rest stop s left e n =
    may.leaf x (k.Is ∷ ex.spell_expr y rest) s n ∙ (λ i. sz.symbols_leaf x 0 (λ d. 0 ∷ last_expr y rest stop.operators s left e i))
built_counts may (it.compare (ex.expr (ex.prod (ex.single x) xs) ps) t is b) rest stop s left e n =
    may.leaf x (ex.spell_factors xs (ex.spell_summands ps (t ∷ ex.spell_expr b rest))) s n
    ∙ (λ i. sz.symbols_leaf x 0 (λ d. compare_leaf t is b rest stop.operators s left e xs ps d i))
built_counts may (it.compare (ex.expr (ex.prod (ex.grouped y) xs) ps) t is b) rest stop s left e n =
    let tail = ex.spell_factors xs (ex.spell_summands ps (t ∷ ex.spell_expr b rest)) in
    may.group (ex.spell_expr y (k.Close ∷ tail)) s n
    ∙ ap (λ us. 1 ∷ us) (expr_counts y f.RestThenClose rest_then_close_ops (k.Close ∷ tail) (f.RestThenRel ∷ s) 1
    ∙ (λ i. sz.symbols_expr y 1 (λ d. d ∷ compare_counts t is b rest stop.operators s left e xs ps d i)))

-- ---- conditions

cond_counts : (x : it.Cond) (rest : List Tok) → Stops rest → (s : List Frame) (left : List ℕ) → Leaves s rest left →
    Leaves (f.Cond ∷ s) (it.spell_cond x rest) (sz.symbols_cond x left)
cond_counts (it.holds (te.atom v xs)) rest stop s left e n =
    ap (λ us. 1 ∷ us) (atom_args xs rest stop.args (f.AfterAtom ∷ s) left (λ d. stop.after_atom s d ∙ e d))
cond_counts (it.fails a) rest stop s left e n = ap (λ us. 0 ∷ us) (atom_counts a rest stop.args s left e 0)
cond_counts (it.built b) rest stop s left e n = built_counts cond_admits b rest stop s left e n

conds_stop : (xs : it.MoreConds) (ts : List Tok) → Stops (it.spell_conds xs (k.Dot ∷ ts))
conds_stop it.no_cond ts = stops_dot ts
conds_stop (it.also x xs) ts = stops_comma (it.spell_cond x (it.spell_conds xs (k.Dot ∷ ts)))

conds_counts : (xs : it.MoreConds) (ts : List Tok) (s : List Frame) (left : List ℕ) → Leaves s (k.Dot ∷ ts) left →
    Leaves (f.MoreConds ∷ s) (it.spell_conds xs (k.Dot ∷ ts)) (sz.symbols_conds xs left)
conds_counts it.no_cond ts s left e n = e n
conds_counts (it.also x xs) ts s left e n =
    ap (λ us. 0 ∷ us) (cond_counts x (it.spell_conds xs (k.Dot ∷ ts)) (conds_stop xs ts) (f.MoreConds ∷ s) (sz.symbols_conds xs left) (λ d. conds_counts xs ts s left e d) 0)

conditions_counts : (x : st.Conditions) (ts : List Tok) (s : List Frame) (left : List ℕ) → Leaves s (k.Dot ∷ ts) left →
    Leaves (f.Conditions ∷ s) (st.spell_conditions x (k.Dot ∷ ts)) (sz.symbols_conditions x left)
conditions_counts st.always ts s left e n = e n
conditions_counts (st.when x xs) ts s left e n =
    ap (λ us. 0 ∷ us) (cond_counts x (it.spell_conds xs (k.Dot ∷ ts)) (conds_stop xs ts) (f.MoreConds ∷ s) (sz.symbols_conds xs left) (λ d. conds_counts xs ts s left e d) 0)

head_conditions : (x : st.Conditions) (ts : List Tok) (s : List Frame) (n : ℕ) →
    tally (f.Head ∷ s) n (st.spell_conditions x (k.Dot ∷ ts)) ≡ tally (f.Conditions ∷ s) n (st.spell_conditions x (k.Dot ∷ ts))
head_conditions st.always ts s n = refl
head_conditions (st.when c cs) ts s n = refl

conditions_pass : (x : st.Conditions) (ts : List Tok) → Passes (f.Args true) (st.spell_conditions x (k.Dot ∷ ts))
conditions_pass st.always ts s n = refl
conditions_pass (st.when c cs) ts s n = refl

-- ---- items

item_at_counts : (x : it.At) (rest : List Tok) → Stops rest → (s : List Frame) (left : List ℕ) → Leaves s rest left →
    Leaves (f.AfterItemAtom ∷ s) (it.spell_at x rest) (sz.symbols_at x left)
item_at_counts it.untimed rest stop s left e n = stop.after_item_atom s n ∙ e n
item_at_counts (it.at t) rest stop s left e n = ap (λ us. 0 ∷ 0 ∷ us) (e 0)

at_counts : (x : it.At) (rest : List Tok) → Stops rest → (s : List Frame) (left : List ℕ) → Leaves s rest left →
    Leaves (f.At ∷ s) (it.spell_at x rest) (sz.symbols_at x left)
at_counts it.untimed rest stop s left e n = stop.at s n ∙ e n
at_counts (it.at t) rest stop s left e n = ap (λ us. 0 ∷ 0 ∷ us) (e 0)

at_passes : (x : it.At) (rest : List Tok) → Stops rest → Passes (f.Args true) (it.spell_at x rest)
at_passes it.untimed rest stop s n = stop.args s n
at_passes (it.at t) rest stop s n = refl

takes_time_rel : (t : Tok) → is_time_rel t ≡ true → (s : List Frame) (ts : List Tok) (n : ℕ) → tally (f.TimeRel ∷ s) n (t ∷ ts) ≡ 0 ∷ tally s 0 ts
takes_time_rel k.Less e s ts n = refl
takes_time_rel k.AtMost e s ts n = refl
takes_time_rel k.Equal e s ts n = refl
takes_time_rel k.Greater e s ts n = refl
takes_time_rel k.AtLeast e s ts n = refl
takes_time_rel t e s ts n = absurd cc

takes_shift : (t : Tok) → is_add t ≡ true → (s : List Frame) (ts : List Tok) (n : ℕ) → tally (f.Shift ∷ s) n (t ∷ ts) ≡ 0 ∷ tally (f.Constant ∷ s) 0 ts
takes_shift k.Plus e s ts n = refl
takes_shift k.Minus e s ts n = refl
takes_shift t e s ts n = absurd cc

shift_counts : (x : it.Shift) (rest : List Tok) → Stops rest → (s : List Frame) (left : List ℕ) → Leaves s rest left →
    Leaves (f.Shift ∷ s) (it.spell_shift x rest) (sz.symbols_shift x left)
shift_counts it.unshifted rest stop s left e n = stop.shift s n ∙ e n
shift_counts (it.shifted t is v small) rest stop s left e n = takes_shift t is s (k.Number v ∷ rest) n ∙ rw small (ap (λ us. 0 ∷ 0 ∷ us) (e 0))

con_counts : (x : it.Con) (rest : List Tok) → Stops rest → (s : List Frame) (left : List ℕ) → Leaves s rest left →
    Leaves (f.Item true ∷ s) (it.spell_con x rest) (sz.symbols_con x left)
con_counts (it.con a t is b plus) rest stop s left e n = ap (λ us. 0 ∷ us)
    (takes_time_rel t is (f.Time ∷ f.Shift ∷ s) (k.Time b ∷ it.spell_shift plus rest) 0 ∙ ap (λ us. 0 ∷ 0 ∷ us) (shift_counts plus rest stop s left e 0))

with_bounds : (bounds : Bool) → bounds ≡ true → (x : it.Con) (rest : List Tok) → Stops rest → (s : List Frame) (left : List ℕ) → Leaves s rest left →
    Leaves (f.Item bounds ∷ s) (it.spell_con x rest) (sz.symbols_con x left)
with_bounds true may x rest stop s left e n = con_counts x rest stop s left e n
with_bounds false may x rest stop s left e n = absurd cc

item_counts : {bounds : Bool} (x : it.Item bounds) (rest : List Tok) → Stops rest → (s : List Frame) (left : List ℕ) → Leaves s rest left →
    Leaves (f.Item bounds ∷ s) (it.spell_item x rest) (sz.symbols_item x left)
item_counts (it.true_at (te.atom v xs) w) rest stop s left e n =
    ap (λ us. 1 ∷ us) (atom_args xs (it.spell_at w rest) (at_passes w rest stop) (f.AfterItemAtom ∷ s) (sz.symbols_at w left) (item_at_counts w rest stop s left e))
item_counts (it.false_at a w) rest stop s left e n =
    ap (λ us. 0 ∷ us) (atom_counts a (it.spell_at w rest) (at_passes w rest stop) (f.At ∷ s) (sz.symbols_at w left) (at_counts w rest stop s left e) 0)
item_counts (it.spans (te.atom v xs) begin until) rest stop s left e n =
    ap (λ us. 1 ∷ us) (atom_args xs (it.spell_span begin until rest) (λ u d. refl) (f.AfterItemAtom ∷ s) (0 ∷ 0 ∷ 0 ∷ 0 ∷ left) (λ d. ap (λ us. 0 ∷ 0 ∷ 0 ∷ 0 ∷ us) (e 0)))
item_counts {bounds = bounds} (it.tests b) rest stop s left e n = built_counts (item_admits bounds) b rest stop s left e n
item_counts {bounds = bounds} (it.bound may c) rest stop s left e n = with_bounds bounds may c rest stop s left e n

-- the phrase takes a comma, and then an item and itself are expected
abbrev TakesItems : Frame → Bool → Type 0
TakesItems r bounds = (s : List Frame) (ts : List Tok) (n : ℕ) → tally (r ∷ s) n (k.Comma ∷ ts) ≡ 0 ∷ tally (f.Item bounds ∷ r ∷ s) 0 ts

items_stop : {bounds : Bool} (xs : it.MoreItems bounds) (rest : List Tok) → Stops rest → Stops (it.spell_items xs rest)
items_stop it.no_item rest stop = stop
items_stop (it.then_item x xs) rest stop = stops_comma (it.spell_item x (it.spell_items xs rest))

items_counts : {bounds : Bool} (xs : it.MoreItems bounds) (r : Frame) → TakesItems r bounds → (rest : List Tok) → Stops rest → (s : List Frame) (left : List ℕ) →
    Leaves (r ∷ s) rest left → Leaves (r ∷ s) (it.spell_items xs rest) (sz.symbols_items xs left)
items_counts it.no_item r takes rest stop s left e n = e n
items_counts (it.then_item x xs) r takes rest stop s left e n =
    takes s (it.spell_item x (it.spell_items xs rest)) n
    ∙ ap (λ us. 0 ∷ us) (item_counts x (it.spell_items xs rest) (items_stop xs rest stop) (r ∷ s) (sz.symbols_items xs left) (λ d. items_counts xs r takes rest stop s left e d) 0)

seq_counts : {bounds : Bool} (x : it.Seq bounds) (r : Frame) → TakesItems r bounds → (rest : List Tok) → Stops rest → (s : List Frame) (left : List ℕ) →
    Leaves (r ∷ s) rest left → Leaves (f.Item bounds ∷ r ∷ s) (it.spell_seq x rest) (sz.symbols_seq x left)
seq_counts (it.seq x xs) r takes rest stop s left e n =
    item_counts x (it.spell_items xs rest) (items_stop xs rest stop) (r ∷ s) (sz.symbols_items xs left) (items_counts xs r takes rest stop s left e) n

more_items : (bounds : Bool) → TakesItems (f.MoreItems bounds) bounds
more_items bounds s ts n = refl

alternatives_stop : (xs : st.Alternatives) (ts : List Tok) → Stops (st.spell_alternatives xs (k.Dot ∷ ts))
alternatives_stop st.no_other ts = stops_dot ts
alternatives_stop (st.or_else x xs) ts = stops_or (it.spell_seq x (st.spell_alternatives xs (k.Dot ∷ ts)))

alternatives_pass : (xs : st.Alternatives) (ts : List Tok) → Passes (f.MoreItems true) (st.spell_alternatives xs (k.Dot ∷ ts))
alternatives_pass st.no_other ts s n = refl
alternatives_pass (st.or_else x xs) ts s n = refl

alternatives_counts : (xs : st.Alternatives) (ts : List Tok) (s : List Frame) (left : List ℕ) → Leaves s (k.Dot ∷ ts) left →
    Leaves (f.Alternatives ∷ s) (st.spell_alternatives xs (k.Dot ∷ ts)) (sz.symbols_alternatives xs left)
alternatives_counts st.no_other ts s left e n = e n
alternatives_counts (st.or_else x xs) ts s left e n = ap (λ us. 0 ∷ us)
    (seq_counts x (f.MoreItems true) (more_items true) (st.spell_alternatives xs (k.Dot ∷ ts)) (alternatives_stop xs ts) (f.Alternatives ∷ s) (sz.symbols_alternatives xs left)
    (λ d. alternatives_pass xs ts (f.Alternatives ∷ s) d ∙ alternatives_counts xs ts s left e d) 0)

-- ---- statements

decl_counts : (x : st.Decl) (rest : List Tok) (s : List Frame) (left : List ℕ) → Leaves s rest left → Leaves (f.Decl ∷ s) (st.spell_decl x rest) (sz.symbols_decl x left)
decl_counts (st.decl v arity small) rest s left e n = rw small (ap (λ us. 0 ∷ 0 ∷ 0 ∷ us) (e 0))

decls_counts : (xs : st.MoreDecls) (ts : List Tok) (s : List Frame) (left : List ℕ) → Leaves s (k.Dot ∷ ts) left →
    Leaves (f.MoreDecls ∷ s) (st.spell_decls xs (k.Dot ∷ ts)) (sz.symbols_decls xs left)
decls_counts st.no_decl ts s left e n = e n
decls_counts (st.also_decl x xs) ts s left e n =
    ap (λ us. 0 ∷ us) (decl_counts x (st.spell_decls xs (k.Dot ∷ ts)) (f.MoreDecls ∷ s) (sz.symbols_decls xs left) (λ d. decls_counts xs ts s left e d) 0)

mutual
  modes_counts : {m : ℕ} {free : Bool} (x : st.Modes m free) (rest : List Tok) (s : List Frame) (left : List ℕ) → Leaves s rest left → (n : ℕ) →
      tally (f.Modes m free ∷ s) n (st.spell_modes x rest) ≡ sz.symbols_modes x left
  modes_counts (st.input xs) rest s left e n = ap (λ us. 0 ∷ us) (more_modes_counts xs rest s left e 0)
  modes_counts (st.output xs) rest s left e n = ap (λ us. 0 ∷ us) (more_modes_counts xs rest s left e 0)
  modes_counts (st.falling may xs) rest s left e n = rw may (ap (λ us. 0 ∷ us) (more_modes_counts xs rest s left e 0))

  more_modes_counts : {m : ℕ} {free : Bool} (x : st.MoreModes m free) (rest : List Tok) (s : List Frame) (left : List ℕ) → Leaves s rest left → (n : ℕ) →
      tally (f.MoreModes m free ∷ s) n (st.spell_more_modes x rest) ≡ sz.symbols_more_modes x left
  more_modes_counts st.last_mode rest s left e n = ap (λ us. 0 ∷ us) (e 0)
  more_modes_counts {m = suc m} (st.also_mode xs) rest s left e n = ap (λ us. 0 ∷ us) (modes_counts xs rest s left e 0)

mode_list_counts : (x : st.ModeList) (rest : List Tok) → Passes f.ModeList rest → (s : List Frame) (left : List ℕ) → Leaves s rest left →
    Leaves (f.ModeList ∷ s) (st.spell_mode_list x rest) (sz.symbols_mode_list x left)
mode_list_counts st.no_mode rest p s left e n = p s n ∙ e n
mode_list_counts (st.modes xs) rest p s left e n = ap (λ us. 0 ∷ us) (modes_counts xs rest s left e 0)

modeds_pass : (xs : st.MoreModed) (ts : List Tok) → Passes f.ModeList (st.spell_modeds xs (k.Dot ∷ ts))
modeds_pass st.no_moded ts s n = refl
modeds_pass (st.also_moded x xs) ts s n = refl

moded_counts : (x : st.Moded) (rest : List Tok) → Passes f.ModeList rest → (s : List Frame) (left : List ℕ) → Leaves s rest left →
    Leaves (f.Moded ∷ s) (st.spell_moded x rest) (sz.symbols_moded x left)
moded_counts (st.moded v xs) rest p s left e n = ap (λ us. 0 ∷ us) (mode_list_counts xs rest p s left e 0)

modeds_counts : (xs : st.MoreModed) (ts : List Tok) (s : List Frame) (left : List ℕ) → Leaves s (k.Dot ∷ ts) left →
    Leaves (f.MoreModed ∷ s) (st.spell_modeds xs (k.Dot ∷ ts)) (sz.symbols_modeds xs left)
modeds_counts st.no_moded ts s left e n = e n
modeds_counts (st.also_moded x xs) ts s left e n = ap (λ us. 0 ∷ us)
    (moded_counts x (st.spell_modeds xs (k.Dot ∷ ts)) (modeds_pass xs ts) (f.MoreModed ∷ s) (sz.symbols_modeds xs left) (λ d. modeds_counts xs ts s left e d) 0)

atoms_pass : (xs : st.MoreAtoms) (ts : List Tok) → Passes (f.Args true) (st.spell_atoms xs (k.Dot ∷ ts))
atoms_pass st.no_atom ts s n = refl
atoms_pass (st.also_atom x xs) ts s n = refl

atoms_counts : (xs : st.MoreAtoms) (ts : List Tok) (s : List Frame) (left : List ℕ) → Leaves s (k.Dot ∷ ts) left →
    Leaves (f.MoreAtoms ∷ s) (st.spell_atoms xs (k.Dot ∷ ts)) (sz.symbols_atoms xs left)
atoms_counts st.no_atom ts s left e n = e n
atoms_counts (st.also_atom x xs) ts s left e n = ap (λ us. 0 ∷ us)
    (atom_counts x (st.spell_atoms xs (k.Dot ∷ ts)) (atoms_pass xs ts) (f.MoreAtoms ∷ s) (sz.symbols_atoms xs left) (λ d. atoms_counts xs ts s left e d) 0)

takes_kind : (t : Tok) → is_kind t ≡ true → (s : List Frame) (ts : List Tok) (n : ℕ) → tally (f.Text ∷ s) n (t ∷ ts) ≡ 0 ∷ tally (f.Decl ∷ f.MoreDecls ∷ f.End ∷ s) 0 ts
takes_kind k.Fluent e s ts n = refl
takes_kind k.Event e s ts n = refl
takes_kind k.Action e s ts n = refl
takes_kind t e s ts n = absurd cc

takes_moded_kind : (t : Tok) → is_moded_kind t ≡ true → (s : List Frame) (ts : List Tok) (n : ℕ) → tally (f.Text ∷ s) n (t ∷ ts) ≡ 0 ∷ tally (f.Moded ∷ f.MoreModed ∷ f.End ∷ s) 0 ts
takes_moded_kind k.Timeless e s ts n = refl
takes_moded_kind k.Derived e s ts n = refl
takes_moded_kind k.Macro e s ts n = refl
takes_moded_kind t e s ts n = absurd cc

takes_effect : (t : Tok) → is_effect t ≡ true → (s : List Frame) (ts : List Tok) (n : ℕ) → tally (f.Head ∷ s) n (t ∷ ts) ≡ 0 ∷ tally (f.Atom true ∷ f.Conditions ∷ s) 0 ts
takes_effect k.Initiates e s ts n = refl
takes_effect k.Terminates e s ts n = refl
takes_effect t e s ts n = absurd cc

effect_passes : (t : Tok) → is_effect t ≡ true → (ts : List Tok) → Passes (f.Args true) (t ∷ ts)
effect_passes k.Initiates e ts s n = refl
effect_passes k.Terminates e ts s n = refl
effect_passes t e ts s n = absurd cc

statement_counts : (x : st.Statement) (ts : List Tok) (s : List Frame) (left : List ℕ) → Leaves (f.End ∷ s) (k.Dot ∷ ts) left →
    Leaves (f.Text ∷ s) (st.spell_statement x (k.Dot ∷ ts)) (sz.symbols_statement x left)
statement_counts (st.declares t is d ds) ts s left e n =
    takes_kind t is s (st.spell_decl d (st.spell_decls ds (k.Dot ∷ ts))) n
    ∙ ap (λ us. 0 ∷ us) (decl_counts d (st.spell_decls ds (k.Dot ∷ ts)) (f.MoreDecls ∷ f.End ∷ s) (sz.symbols_decls ds left) (decls_counts ds ts (f.End ∷ s) left e) 0)
statement_counts (st.declares_modes t is d ds) ts s left e n =
    takes_moded_kind t is s (st.spell_moded d (st.spell_modeds ds (k.Dot ∷ ts))) n
    ∙ ap (λ us. 0 ∷ us) (moded_counts d (st.spell_modeds ds (k.Dot ∷ ts)) (modeds_pass ds ts) (f.MoreModed ∷ f.End ∷ s) (sz.symbols_modeds ds left) (modeds_counts ds ts (f.End ∷ s) left e) 0)
statement_counts (st.initially a xs) ts s left e n =
    ap (λ us. 0 ∷ us) (atom_counts a (st.spell_atoms xs (k.Dot ∷ ts)) (atoms_pass xs ts) (f.MoreAtoms ∷ f.End ∷ s) (sz.symbols_atoms xs left) (atoms_counts xs ts (f.End ∷ s) left e) 0)
statement_counts (st.denial x) ts s left e n =
    ap (λ us. 0 ∷ us) (seq_counts x (f.MoreItems false) (more_items false) (k.Dot ∷ ts) (stops_dot ts) (f.End ∷ s) left (λ d. e d) 0)
statement_counts (st.rule x y ys) ts s left e n =
    let after = it.spell_seq y (st.spell_alternatives ys (k.Dot ∷ ts)) in
    ap (λ us. 0 ∷ us) (seq_counts x f.Antecedent (λ u us d. refl) (k.Then ∷ after) (stops_then after) (f.End ∷ s) (0 ∷ sz.symbols_seq y (sz.symbols_alternatives ys left))
    (λ d. alternatives_counts (st.or_else y ys) ts (f.End ∷ s) left e 0) 0)
statement_counts (st.law (te.atom v xs) t is fluent cs) ts s left e n =
    let after = st.spell_conditions cs (k.Dot ∷ ts) in
    ap (λ us. 1 ∷ us) (atom_args xs (t ∷ te.spell_atom fluent after) (effect_passes t is (te.spell_atom fluent after)) (f.Head ∷ f.End ∷ s)
    (0 ∷ sz.symbols_atom fluent (sz.symbols_conditions cs left))
    (λ d. takes_effect t is (f.End ∷ s) (te.spell_atom fluent after) d
    ∙ ap (λ us. 0 ∷ us) (atom_counts fluent after (conditions_pass cs ts) (f.Conditions ∷ f.End ∷ s) (sz.symbols_conditions cs left) (conditions_counts cs ts (f.End ∷ s) left e) 0)))
statement_counts (st.macro_clause (te.atom v xs) begin until x) ts s left e n =
    ap (λ us. 1 ∷ us) (atom_args xs (it.spell_span begin until (k.If ∷ it.spell_seq x (k.Dot ∷ ts))) (λ u d. refl) (f.Head ∷ f.End ∷ s)
    (0 ∷ 0 ∷ 0 ∷ 0 ∷ 0 ∷ sz.symbols_seq x left)
    (λ d. ap (λ us. 0 ∷ 0 ∷ 0 ∷ 0 ∷ 0 ∷ us) (seq_counts x (f.MoreItems true) (more_items true) (k.Dot ∷ ts) (stops_dot ts) (f.End ∷ s) left (λ h. e h) 0)))
statement_counts (st.clause (te.atom v xs) cs) ts s left e n =
    ap (λ us. 1 ∷ us) (atom_args xs (st.spell_conditions cs (k.Dot ∷ ts)) (conditions_pass cs ts) (f.Head ∷ f.End ∷ s) (sz.symbols_conditions cs left)
    (λ d. head_conditions cs ts (f.End ∷ s) d ∙ conditions_counts cs ts (f.End ∷ s) left e d))

texts_counts : (x : st.Text) (rest : List Tok) (s : List Frame) (left : List ℕ) → Leaves (f.Text ∷ s) rest left → Leaves (f.Text ∷ s) (st.spell_text x rest) (sz.symbols_text x left)
texts_counts st.done rest s left e n = e n
texts_counts (st.next x xs) rest s left e n =
    statement_counts x (st.spell_text xs rest) s (0 ∷ sz.symbols_text xs left) (λ d. ap (λ us. 0 ∷ us) (texts_counts xs rest s left e 0)) n

pub text_symbols : (x : st.Text) → c.counts c.symbols_after (f.Text ∷ []) 0 (st.spell_text x []) ≡ sz.symbols_text x []
text_symbols x = texts_counts x [] [] [] (λ d. refl) 0

-- ---- lines of events

events_pass : (xs : li.MoreEvents) (ts : List Tok) → Passes (f.Args false) (li.spell_more_events xs (k.Dot ∷ ts))
events_pass li.no_event ts s n = refl
events_pass (li.also_event x xs) ts s n = refl

more_events_counts : (xs : li.MoreEvents) (ts : List Tok) (s : List Frame) (left : List ℕ) → Leaves s (k.Dot ∷ ts) left →
    Leaves (f.MoreEvents ∷ s) (li.spell_more_events xs (k.Dot ∷ ts)) (sz.symbols_more_events xs left)
more_events_counts li.no_event ts s left e n = e n
more_events_counts (li.also_event (te.atom v x) xs) ts s left e n = ap (λ us. 0 ∷ 1 ∷ us)
    (atom_args x (li.spell_more_events xs (k.Dot ∷ ts)) (events_pass xs ts) (f.MoreEvents ∷ s) (sz.symbols_more_events xs left) (λ d. more_events_counts xs ts s left e d))

events_counts : (x : li.Events) (ts : List Tok) (s : List Frame) (left : List ℕ) → Leaves s (k.Dot ∷ ts) left →
    Leaves (f.Events ∷ s) (li.spell_events x (k.Dot ∷ ts)) (sz.symbols_events x left)
events_counts li.none ts s left e n = e n
events_counts (li.events (te.atom v x) xs) ts s left e n = ap (λ us. 1 ∷ us)
    (atom_args x (li.spell_more_events xs (k.Dot ∷ ts)) (events_pass xs ts) (f.MoreEvents ∷ s) (sz.symbols_more_events xs left) (more_events_counts xs ts s left e))

pub line_symbols : (x : li.Line) → c.counts c.symbols_after (f.Line ∷ []) 0 (li.spell_line x []) ≡ sz.symbols_line x []
line_symbols (li.line v xs) = ap (λ us. 0 ∷ 0 ∷ us) (events_counts xs [] (f.LineEnd ∷ []) (0 ∷ []) (λ d. refl) 0)

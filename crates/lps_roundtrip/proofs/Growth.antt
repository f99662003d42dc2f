-- No count of symbols is greater in a canonical tree than in the tree.
use Rattle.std.specs.Prelude.{ℕ, zero, suc, ◌≡◌, ◌+◌, ◌≤◌, Bool, List, ◌∷◌, All, refl}
use Rattle.std.proofs.Common.{sym, subst, arith}
use Rattle.std.proofs.lemmas.List.Elements.{All-cons, All-head, All-tail}
use Rattle.lps_grammar.specs.Terms as te
use Rattle.lps_grammar.specs.Expressions as ex
use Rattle.lps_grammar.specs.Items as it
use Rattle.lps_grammar.specs.Statements as st
use Rattle.lps_grammar.specs.Sizes as sz
use Rattle.lps_roundtrip.specs.Canonical as ca

-- ---- counts

-- what bounds the first counts bounds the second
abbrev pub Bounds : List ℕ → List ℕ → Type 0
Bounds ms ns = (limit : ℕ) → All (λ n. n ≤ limit) ms → All (λ n. n ≤ limit) ns

both : (m n : ℕ) (ms ns : List ℕ) → n ≤ m → Bounds ms ns → Bounds (m ∷ ms) (n ∷ ns)
both m n ms ns le h limit all =
    let low : m ≤ limit = All-head (λ i. i ≤ limit) m ms all in
    All-cons (λ i. i ≤ limit) n ns (omega arith) (h limit (All-tail (λ i. i ≤ limit) m ms all))

first : (m : ℕ) (ms ns : List ℕ) → Bounds ms ns → Bounds (m ∷ ms) ns
first m ms ns h limit all = h limit (All-tail (λ i. i ≤ limit) m ms all)

same : (n : ℕ) (ms ns : List ℕ) → Bounds ms ns → Bounds (n ∷ ms) (n ∷ ns)
same n ms ns h = both n n ms ns (omega arith) h

-- counts that go on from the number that they are given
abbrev Going : Type 0
Going = ℕ → List ℕ

-- the second goes on from no greater number to no greater counts
abbrev Under : Going → Going → Type 0
Under go go' = (d d' : ℕ) → d' ≤ d → Bounds (go d) (go' d')

-- whatever follows, the second counts are no greater than the first
abbrev Shrinks : (ℕ → Going → List ℕ) → (ℕ → Going → List ℕ) → Type 0
Shrinks a b = (c c' : ℕ) (go go' : Going) → c' ≤ c → Under go go' → Bounds (a c go) (b c' go')

-- the same of what begins anew
abbrev Lessens : (List ℕ → List ℕ) → (List ℕ → List ℕ) → Type 0
Lessens a b = (go go' : List ℕ) → Bounds go go' → Bounds (a go) (b go')

-- ---- terms

leaf_shrinks : {vars : Bool} (x : te.Leaf vars) → Shrinks (sz.symbols_leaf x) (sz.symbols_leaf (ca.canonical_leaf x))
leaf_shrinks (te.variable may n) c c' go go' le h = both (c + 1) (c' + 1) (go (c + 1)) (go' (c' + 1)) (omega arith) (h (c + 1) (c' + 1) (omega arith))
leaf_shrinks (te.number n small) c c' go go' le h = both (c + 1) (c' + 1) (go (c + 1)) (go' (c' + 1)) (omega arith) (h (c + 1) (c' + 1) (omega arith))
leaf_shrinks (te.negative zero small) c c' go go' le h =
    first (c + 1) ((c + 1) ∷ go (c + 1)) ((c' + 1) ∷ go' (c' + 1)) (both (c + 1) (c' + 1) (go (c + 1)) (go' (c' + 1)) (omega arith) (h (c + 1) (c' + 1) (omega arith)))
leaf_shrinks (te.negative (suc n) small) c c' go go' le h =
    both (c + 1) (c' + 1) ((c + 1) ∷ go (c + 1)) ((c' + 1) ∷ go' (c' + 1)) (omega arith)
    (both (c + 1) (c' + 1) (go (c + 1)) (go' (c' + 1)) (omega arith) (h (c + 1) (c' + 1) (omega arith)))

mutual
  term_shrinks : {vars : Bool} (x : te.Term vars) → Shrinks (sz.symbols_term x) (sz.symbols_term (ca.canonical_term x))
  term_shrinks (te.named n xs) c c' go go' le h =
      both (c + 1) (c' + 1) (sz.symbols_args xs (c + 1) go) (sz.symbols_args (ca.canonical_args xs) (c' + 1) go') (omega arith) (args_shrink xs (c + 1) (c' + 1) go go' (omega arith) h)
  term_shrinks (te.leaf x) c c' go go' le h = leaf_shrinks x c c' go go' le h

  args_shrink : {vars : Bool} (xs : te.Args vars) → Shrinks (sz.symbols_args xs) (sz.symbols_args (ca.canonical_args xs))
  args_shrink te.bare c c' go go' le h = h c c' le
  args_shrink (te.args x xs) c c' go go' le h =
      both c c' (sz.symbols_term x c (λ d. sz.symbols_terms xs d go)) (sz.symbols_term (ca.canonical_term x) c' (λ d. sz.symbols_terms (ca.canonical_terms xs) d go')) le
      (term_shrinks x c c' (λ d. sz.symbols_terms xs d go) (λ d. sz.symbols_terms (ca.canonical_terms xs) d go') le (λ d d' under. terms_shrink xs d d' go go' under h))

  terms_shrink : {vars : Bool} {n : ℕ} (xs : te.Terms vars n) → Shrinks (sz.symbols_terms xs) (sz.symbols_terms (ca.canonical_terms xs))
  terms_shrink te.end c c' go go' le h = both c c' (go c) (go' c') le (h c c' le)
  terms_shrink (te.more x xs) c c' go go' le h =
      both c c' (sz.symbols_term x c (λ d. sz.symbols_terms xs d go)) (sz.symbols_term (ca.canonical_term x) c' (λ d. sz.symbols_terms (ca.canonical_terms xs) d go')) le
      (term_shrinks x c c' (λ d. sz.symbols_terms xs d go) (λ d. sz.symbols_terms (ca.canonical_terms xs) d go') le (λ d d' under. terms_shrink xs d d' go go' under h))

atom_lessens : {vars : Bool} (x : te.Atom vars) → Lessens (sz.symbols_atom x) (sz.symbols_atom (ca.canonical_atom x))
atom_lessens (te.atom n xs) go go' h =
    same 1 (sz.symbols_args xs 1 (λ d. go)) (sz.symbols_args (ca.canonical_args xs) 1 (λ d. go'))
    (args_shrink xs 1 1 (λ d. go) (λ d. go') (omega arith) (λ d d' under. h))

-- ---- expressions

-- the counts of something in parentheses
abbrev In : (ℕ → Going → List ℕ) → ℕ → Going → List ℕ
In a c go = (c + 1) ∷ a (c + 1) (λ d. d ∷ go d)

-- the parentheses go
opened : (a b : ℕ → Going → List ℕ) → Shrinks a b → Shrinks (In a) b
opened a b sh c c' go go' le h =
    first (c + 1) (a (c + 1) (λ d. d ∷ go d)) (b c' go') (sh (c + 1) c' (λ d. d ∷ go d) go' (omega arith) (λ d d' under. first d (go d) (go' d') (h d d' under)))

-- the parentheses stay
closed : (a b : ℕ → Going → List ℕ) → Shrinks a b → Shrinks (In a) (In b)
closed a b sh c c' go go' le h =
    both (c + 1) (c' + 1) (a (c + 1) (λ d. d ∷ go d)) (b (c' + 1) (λ d. d ∷ go' d)) (omega arith)
    (sh (c + 1) (c' + 1) (λ d. d ∷ go d) (λ d. d ∷ go' d) (omega arith) (λ d d' under. both d d' (go d) (go' d') under (h d d' under)))

-- something in parentheses where a unit has to stand
grouped_unit : (a : ℕ → Going → List ℕ) (x : ex.Expr) → Shrinks a (sz.symbols_expr x) → Shrinks (In a) (sz.symbols_unit (ca.as_unit x))
grouped_unit a (ex.expr (ex.prod x ex.no_factor) ex.no_summand) sh = opened a (sz.symbols_unit x) sh
grouped_unit a (ex.expr (ex.prod x (ex.times t is y ys)) ps) sh = closed a (sz.symbols_expr (ex.expr (ex.prod x (ex.times t is y ys)) ps)) sh
grouped_unit a (ex.expr p (ex.plus t is q qs)) sh = closed a (sz.symbols_expr (ex.expr p (ex.plus t is q qs))) sh

-- something in parentheses where a product has to stand
grouped_prod : (a : ℕ → Going → List ℕ) (x : ex.Expr) → Shrinks a (sz.symbols_expr x) → Shrinks (In a) (sz.symbols_prod (ca.as_prod x))
grouped_prod a (ex.expr p ex.no_summand) sh = opened a (sz.symbols_prod p) sh
grouped_prod a (ex.expr p (ex.plus t is q qs)) sh = closed a (sz.symbols_expr (ex.expr p (ex.plus t is q qs))) sh

append_factors_counted : (xs ys : ex.Factors) (c : ℕ) (go : Going) →
    sz.symbols_factors (ca.append_factors xs ys) c go ≡ sz.symbols_factors xs c (λ d. sz.symbols_factors ys d go)
append_factors_counted ex.no_factor ys c go = refl
append_factors_counted (ex.times t is x xs) ys c go = λ i. (c + 1) ∷ sz.symbols_unit x (c + 1) (λ d. append_factors_counted xs ys d go i)

with_factors_counted : (p : ex.Prod) (ys : ex.Factors) (c : ℕ) (go : Going) → sz.symbols_prod (ca.with_factors p ys) c go ≡ sz.symbols_prod p c (λ d. sz.symbols_factors ys d go)
with_factors_counted (ex.prod x xs) ys c go = λ i. sz.symbols_unit x c (λ d. append_factors_counted xs ys d go i)

append_summands_counted : (ps qs : ex.Summands) (c : ℕ) (go : Going) →
    sz.symbols_summands (ca.append_summands ps qs) c go ≡ sz.symbols_summands ps c (λ d. sz.symbols_summands qs d go)
append_summands_counted ex.no_summand qs c go = refl
append_summands_counted (ex.plus t is p ps) qs c go = λ i. (c + 1) ∷ sz.symbols_prod p (c + 1) (λ d. append_summands_counted ps qs d go i)

with_summands_counted : (x : ex.Expr) (qs : ex.Summands) (c : ℕ) (go : Going) →
    sz.symbols_expr (ca.with_summands x qs) c go ≡ sz.symbols_expr x c (λ d. sz.symbols_summands qs d go)
with_summands_counted (ex.expr p ps) qs c go = λ i. sz.symbols_prod p c (λ d. append_summands_counted ps qs d go i)

-- something and factors after it, where a product has to stand
module _ (a b : ℕ → Going → List ℕ) (x : ex.Expr) (firm : Shrinks a (sz.symbols_prod (ca.as_prod x))) where
  times_shrink : (ys : ex.Factors) → Shrinks b (sz.symbols_factors ys) → Shrinks (λ c go. a c (λ d. b d go)) (sz.symbols_prod (ca.with_factors (ca.as_prod x) ys))
  times_shrink ys sh c c' go go' le h =
      subst (Bounds (a c (λ d. b d go))) (sym (with_factors_counted (ca.as_prod x) ys c' go'))
      (firm c c' (λ d. b d go) (λ d. sz.symbols_factors ys d go') le (λ d d' under. sh d d' go go' under h))

  multiplied_firmly : (ys : ex.Factors) → Shrinks b (sz.symbols_factors ys) → Shrinks (λ c go. a c (λ d. b d go)) (sz.symbols_prod (ca.as_prod (ca.multiplied x ys)))
  multiplied_firmly ex.no_factor sh c c' go go' le h = firm c c' (λ d. b d go) go' le (λ d d' under. sh d d' go go' under h)
  multiplied_firmly (ex.times t is y ys) sh c c' go go' le h = times_shrink (ex.times t is y ys) sh c c' go go' le h

  multiplied_shrinks : (ys : ex.Factors) → Shrinks a (sz.symbols_expr x) → Shrinks b (sz.symbols_factors ys) →
      Shrinks (λ c go. a c (λ d. b d go)) (sz.symbols_expr (ca.multiplied x ys))
  multiplied_shrinks ex.no_factor loose sh c c' go go' le h = loose c c' (λ d. b d go) go' le (λ d d' under. sh d d' go go' under h)
  multiplied_shrinks (ex.times t is y ys) loose sh c c' go go' le h = times_shrink (ex.times t is y ys) sh c c' go go' le h

mutual
  loose_unit_shrinks : (x : ex.Unit) → Shrinks (sz.symbols_unit x) (sz.symbols_expr (ca.loose_unit x))
  loose_unit_shrinks (ex.single x) = leaf_shrinks x
  loose_unit_shrinks (ex.grouped x) = opened (sz.symbols_expr x) (sz.symbols_expr (ca.canonical_expr x)) (expr_shrinks x)

  first_unit_shrinks : (x : ex.Unit) → Shrinks (sz.symbols_unit x) (sz.symbols_prod (ca.as_prod (ca.loose_unit x)))
  first_unit_shrinks (ex.single x) = leaf_shrinks x
  first_unit_shrinks (ex.grouped x) = grouped_prod (sz.symbols_expr x) (ca.canonical_expr x) (expr_shrinks x)

  unit_shrinks : (x : ex.Unit) → Shrinks (sz.symbols_unit x) (sz.symbols_unit (ca.as_unit (ca.loose_unit x)))
  unit_shrinks (ex.single x) = leaf_shrinks x
  unit_shrinks (ex.grouped x) = grouped_unit (sz.symbols_expr x) (ca.canonical_expr x) (expr_shrinks x)

  factors_shrink : (xs : ex.Factors) → Shrinks (sz.symbols_factors xs) (sz.symbols_factors (ca.canonical_factors xs))
  factors_shrink ex.no_factor c c' go go' le h = h c c' le
  factors_shrink (ex.times t is x xs) c c' go go' le h =
      both (c + 1) (c' + 1) (sz.symbols_unit x (c + 1) (λ d. sz.symbols_factors xs d go))
      (sz.symbols_unit (ca.as_unit (ca.loose_unit x)) (c' + 1) (λ d. sz.symbols_factors (ca.canonical_factors xs) d go')) (omega arith)
      (unit_shrinks x (c + 1) (c' + 1) (λ d. sz.symbols_factors xs d go) (λ d. sz.symbols_factors (ca.canonical_factors xs) d go') (omega arith)
      (λ d d' under. factors_shrink xs d d' go go' under h))

  loose_prod_shrinks : (p : ex.Prod) → Shrinks (sz.symbols_prod p) (sz.symbols_expr (ca.loose_prod p))
  loose_prod_shrinks (ex.prod x xs) =
      multiplied_shrinks (sz.symbols_unit x) (sz.symbols_factors xs) (ca.loose_unit x) (first_unit_shrinks x) (ca.canonical_factors xs) (loose_unit_shrinks x) (factors_shrink xs)

  prod_shrinks : (p : ex.Prod) → Shrinks (sz.symbols_prod p) (sz.symbols_prod (ca.as_prod (ca.loose_prod p)))
  prod_shrinks (ex.prod x xs) =
      multiplied_firmly (sz.symbols_unit x) (sz.symbols_factors xs) (ca.loose_unit x) (first_unit_shrinks x) (ca.canonical_factors xs) (factors_shrink xs)

  summands_shrink : (ps : ex.Summands) → Shrinks (sz.symbols_summands ps) (sz.symbols_summands (ca.canonical_summands ps))
  summands_shrink ex.no_summand c c' go go' le h = h c c' le
  summands_shrink (ex.plus t is p ps) c c' go go' le h =
      both (c + 1) (c' + 1) (sz.symbols_prod p (c + 1) (λ d. sz.symbols_summands ps d go))
      (sz.symbols_prod (ca.as_prod (ca.loose_prod p)) (c' + 1) (λ d. sz.symbols_summands (ca.canonical_summands ps) d go')) (omega arith)
      (prod_shrinks p (c + 1) (c' + 1) (λ d. sz.symbols_summands ps d go) (λ d. sz.symbols_summands (ca.canonical_summands ps) d go') (omega arith)
      (λ d d' under. summands_shrink ps d d' go go' under h))

  expr_shrinks : (x : ex.Expr) → Shrinks (sz.symbols_expr x) (sz.symbols_expr (ca.canonical_expr x))
  expr_shrinks (ex.expr p ps) c c' go go' le h =
      subst (Bounds (sz.symbols_prod p c (λ d. sz.symbols_summands ps d go))) (sym (with_summands_counted (ca.loose_prod p) (ca.canonical_summands ps) c' go'))
      (loose_prod_shrinks p c c' (λ d. sz.symbols_summands ps d go) (λ d. sz.symbols_summands (ca.canonical_summands ps) d go') le
      (λ d d' under. summands_shrink ps d d' go go' under h))

-- ---- conditions and items

-- two sides of a built-in
sides : (a a' b b' : ℕ → Going → List ℕ) → Shrinks a a' → Shrinks b b' → Lessens (λ go. a 0 (λ d. 0 ∷ b 0 (λ j. go))) (λ go. a' 0 (λ d. 0 ∷ b' 0 (λ j. go)))
sides a a' b b' left right go go' h =
    let last : Bounds (0 ∷ b 0 (λ j. go)) (0 ∷ b' 0 (λ j. go')) =
    same 0 (b 0 (λ j. go)) (b' 0 (λ j. go')) (right 0 0 (λ j. go) (λ j. go') (omega arith) (λ d d' under. h)) in
    left 0 0 (λ d. 0 ∷ b 0 (λ j. go)) (λ d. 0 ∷ b' 0 (λ j. go')) (omega arith) (λ d d' under. last)

built_lessens : (x : it.Built) → Lessens (sz.symbols_built x) (sz.symbols_built (ca.canonical_built x))
built_lessens (it.same x y) =
    sides (sz.symbols_term x) (sz.symbols_term (ca.canonical_term x)) (sz.symbols_term y) (sz.symbols_term (ca.canonical_term y)) (term_shrinks x) (term_shrinks y)
built_lessens (it.differ x y) =
    sides (sz.symbols_term x) (sz.symbols_term (ca.canonical_term x)) (sz.symbols_term y) (sz.symbols_term (ca.canonical_term y)) (term_shrinks x) (term_shrinks y)
built_lessens (it.evaluates x y) =
    sides (sz.symbols_leaf x) (sz.symbols_leaf (ca.canonical_leaf x)) (sz.symbols_expr y) (sz.symbols_expr (ca.canonical_expr y)) (leaf_shrinks x) (expr_shrinks y)
built_lessens (it.compare x t is y) =
    sides (sz.symbols_expr x) (sz.symbols_expr (ca.canonical_expr x)) (sz.symbols_expr y) (sz.symbols_expr (ca.canonical_expr y)) (expr_shrinks x) (expr_shrinks y)

cond_lessens : (x : it.Cond) → Lessens (sz.symbols_cond x) (sz.symbols_cond (ca.canonical_cond x))
cond_lessens (it.holds a) go go' h = atom_lessens a go go' h
cond_lessens (it.fails a) go go' h = same 0 (sz.symbols_atom a go) (sz.symbols_atom (ca.canonical_atom a) go') (atom_lessens a go go' h)
cond_lessens (it.built x) go go' h = built_lessens x go go' h

conds_lessen : (xs : it.MoreConds) → Lessens (sz.symbols_conds xs) (sz.symbols_conds (ca.canonical_conds xs))
conds_lessen it.no_cond go go' h = h
conds_lessen (it.also x xs) go go' h =
    let rest = sz.symbols_conds xs go in
    let rest' = sz.symbols_conds (ca.canonical_conds xs) go' in
    same 0 (sz.symbols_cond x rest) (sz.symbols_cond (ca.canonical_cond x) rest') (cond_lessens x rest rest' (conds_lessen xs go go' h))

two : (go go' : List ℕ) → Bounds go go' → Bounds (0 ∷ 0 ∷ go) (0 ∷ 0 ∷ go')
two go go' h = same 0 (0 ∷ go) (0 ∷ go') (same 0 go go' h)

at_lessens : (x : it.At) → Lessens (sz.symbols_at x) (sz.symbols_at x)
at_lessens it.untimed go go' h = h
at_lessens (it.at t) go go' h = two go go' h

shift_lessens : (x : it.Shift) → Lessens (sz.symbols_shift x) (sz.symbols_shift (ca.canonical_shift x))
shift_lessens it.unshifted go go' h = h
shift_lessens (it.shifted t is zero small) go go' h = first 0 (0 ∷ go) go' (first 0 go go' h)
shift_lessens (it.shifted t is (suc n) small) go go' h = two go go' h

con_lessens : (x : it.Con) → Lessens (sz.symbols_con x) (sz.symbols_con (ca.canonical_con x))
con_lessens (it.con a t is b plus) go go' h =
    let rest = sz.symbols_shift plus go in
    let rest' = sz.symbols_shift (ca.canonical_shift plus) go' in
    same 0 (0 ∷ 0 ∷ rest) (0 ∷ 0 ∷ rest') (two rest rest' (shift_lessens plus go go' h))

item_lessens : {bounds : Bool} (x : it.Item bounds) → Lessens (sz.symbols_item x) (sz.symbols_item (ca.canonical_item x))
item_lessens (it.true_at a w) go go' h = atom_lessens a (sz.symbols_at w go) (sz.symbols_at w go') (at_lessens w go go' h)
item_lessens (it.false_at a w) go go' h =
    same 0 (sz.symbols_atom a (sz.symbols_at w go)) (sz.symbols_atom (ca.canonical_atom a) (sz.symbols_at w go'))
    (atom_lessens a (sz.symbols_at w go) (sz.symbols_at w go') (at_lessens w go go' h))
item_lessens (it.spans a begin until) go go' h = atom_lessens a (0 ∷ 0 ∷ 0 ∷ 0 ∷ go) (0 ∷ 0 ∷ 0 ∷ 0 ∷ go') (two (0 ∷ 0 ∷ go) (0 ∷ 0 ∷ go') (two go go' h))
item_lessens (it.tests x) go go' h = built_lessens x go go' h
item_lessens (it.bound may x) go go' h = con_lessens x go go' h

items_lessen : {bounds : Bool} (xs : it.MoreItems bounds) → Lessens (sz.symbols_items xs) (sz.symbols_items (ca.canonical_items xs))
items_lessen it.no_item go go' h = h
items_lessen (it.then_item x xs) go go' h =
    let rest = sz.symbols_items xs go in
    let rest' = sz.symbols_items (ca.canonical_items xs) go' in
    same 0 (sz.symbols_item x rest) (sz.symbols_item (ca.canonical_item x) rest') (item_lessens x rest rest' (items_lessen xs go go' h))

seq_lessens : {bounds : Bool} (x : it.Seq bounds) → Lessens (sz.symbols_seq x) (sz.symbols_seq (ca.canonical_seq x))
seq_lessens (it.seq x xs) go go' h = item_lessens x (sz.symbols_items xs go) (sz.symbols_items (ca.canonical_items xs) go') (items_lessen xs go go' h)

-- ---- statements

decl_lessens : (x : st.Decl) → Lessens (sz.symbols_decl x) (sz.symbols_decl x)
decl_lessens (st.decl n arity small) go go' h = same 0 (0 ∷ 0 ∷ go) (0 ∷ 0 ∷ go') (two go go' h)

decls_lessen : (xs : st.MoreDecls) → Lessens (sz.symbols_decls xs) (sz.symbols_decls xs)
decls_lessen st.no_decl go go' h = h
decls_lessen (st.also_decl x xs) go go' h =
    let rest = sz.symbols_decls xs go in
    let rest' = sz.symbols_decls xs go' in
    same 0 (sz.symbols_decl x rest) (sz.symbols_decl x rest') (decl_lessens x rest rest' (decls_lessen xs go go' h))

mutual
  modes_lessen : {n : ℕ} {free : Bool} (x : st.Modes n free) → Lessens (sz.symbols_modes x) (sz.symbols_modes x)
  modes_lessen (st.input xs) go go' h = same 0 (sz.symbols_more_modes xs go) (sz.symbols_more_modes xs go') (more_modes_lessen xs go go' h)
  modes_lessen (st.output xs) go go' h = same 0 (sz.symbols_more_modes xs go) (sz.symbols_more_modes xs go') (more_modes_lessen xs go go' h)
  modes_lessen (st.falling may xs) go go' h = same 0 (sz.symbols_more_modes xs go) (sz.symbols_more_modes xs go') (more_modes_lessen xs go go' h)

  more_modes_lessen : {n : ℕ} {free : Bool} (x : st.MoreModes n free) → Lessens (sz.symbols_more_modes x) (sz.symbols_more_modes x)
  more_modes_lessen st.last_mode go go' h = same 0 go go' h
  more_modes_lessen (st.also_mode xs) go go' h = same 0 (sz.symbols_modes xs go) (sz.symbols_modes xs go') (modes_lessen xs go go' h)

mode_list_lessens : (x : st.ModeList) → Lessens (sz.symbols_mode_list x) (sz.symbols_mode_list x)
mode_list_lessens st.no_mode go go' h = h
mode_list_lessens (st.modes xs) go go' h = same 0 (sz.symbols_modes xs go) (sz.symbols_modes xs go') (modes_lessen xs go go' h)

moded_lessens : (x : st.Moded) → Lessens (sz.symbols_moded x) (sz.symbols_moded x)
moded_lessens (st.moded n xs) go go' h = same 0 (sz.symbols_mode_list xs go) (sz.symbols_mode_list xs go') (mode_list_lessens xs go go' h)

modeds_lessen : (xs : st.MoreModed) → Lessens (sz.symbols_modeds xs) (sz.symbols_modeds xs)
modeds_lessen st.no_moded go go' h = h
modeds_lessen (st.also_moded x xs) go go' h =
    let rest = sz.symbols_modeds xs go in
    let rest' = sz.symbols_modeds xs go' in
    same 0 (sz.symbols_moded x rest) (sz.symbols_moded x rest') (moded_lessens x rest rest' (modeds_lessen xs go go' h))

atoms_lessen : (xs : st.MoreAtoms) → Lessens (sz.symbols_atoms xs) (sz.symbols_atoms (ca.canonical_atoms xs))
atoms_lessen st.no_atom go go' h = h
atoms_lessen (st.also_atom x xs) go go' h =
    let rest = sz.symbols_atoms xs go in
    let rest' = sz.symbols_atoms (ca.canonical_atoms xs) go' in
    same 0 (sz.symbols_atom x rest) (sz.symbols_atom (ca.canonical_atom x) rest') (atom_lessens x rest rest' (atoms_lessen xs go go' h))

conditions_lessen : (x : st.Conditions) → Lessens (sz.symbols_conditions x) (sz.symbols_conditions (ca.canonical_conditions x))
conditions_lessen st.always go go' h = h
conditions_lessen (st.when x xs) go go' h =
    let rest = sz.symbols_conds xs go in
    let rest' = sz.symbols_conds (ca.canonical_conds xs) go' in
    same 0 (sz.symbols_cond x rest) (sz.symbols_cond (ca.canonical_cond x) rest') (cond_lessens x rest rest' (conds_lessen xs go go' h))

alternatives_lessen : (xs : st.Alternatives) → Lessens (sz.symbols_alternatives xs) (sz.symbols_alternatives (ca.canonical_alternatives xs))
alternatives_lessen st.no_other go go' h = h
alternatives_lessen (st.or_else x xs) go go' h =
    let rest = sz.symbols_alternatives xs go in
    let rest' = sz.symbols_alternatives (ca.canonical_alternatives xs) go' in
    same 0 (sz.symbols_seq x rest) (sz.symbols_seq (ca.canonical_seq x) rest') (seq_lessens x rest rest' (alternatives_lessen xs go go' h))

pub statement_lessens : (x : st.Statement) → Lessens (sz.symbols_statement x) (sz.symbols_statement (ca.canonical_statement x))
statement_lessens (st.declares t is x xs) go go' h =
    let rest = sz.symbols_decls xs go in
    let rest' = sz.symbols_decls xs go' in
    same 0 (sz.symbols_decl x rest) (sz.symbols_decl x rest') (decl_lessens x rest rest' (decls_lessen xs go go' h))
statement_lessens (st.declares_modes t is x xs) go go' h =
    let rest = sz.symbols_modeds xs go in
    let rest' = sz.symbols_modeds xs go' in
    same 0 (sz.symbols_moded x rest) (sz.symbols_moded x rest') (moded_lessens x rest rest' (modeds_lessen xs go go' h))
statement_lessens (st.initially x xs) go go' h =
    let rest = sz.symbols_atoms xs go in
    let rest' = sz.symbols_atoms (ca.canonical_atoms xs) go' in
    same 0 (sz.symbols_atom x rest) (sz.symbols_atom (ca.canonical_atom x) rest') (atom_lessens x rest rest' (atoms_lessen xs go go' h))
statement_lessens (st.denial x) go go' h = same 0 (sz.symbols_seq x go) (sz.symbols_seq (ca.canonical_seq x) go') (seq_lessens x go go' h)
statement_lessens (st.rule x y ys) go go' h =
    let rest = sz.symbols_alternatives ys go in
    let rest' = sz.symbols_alternatives (ca.canonical_alternatives ys) go' in
    let after = sz.symbols_seq y rest in
    let after' = sz.symbols_seq (ca.canonical_seq y) rest' in
    let last : Bounds (0 ∷ after) (0 ∷ after') = same 0 after after' (seq_lessens y rest rest' (alternatives_lessen ys go go' h)) in
    same 0 (sz.symbols_seq x (0 ∷ after)) (sz.symbols_seq (ca.canonical_seq x) (0 ∷ after')) (seq_lessens x (0 ∷ after) (0 ∷ after') last)
statement_lessens (st.law event t is fluent cs) go go' h =
    let rest = sz.symbols_conditions cs go in
    let rest' = sz.symbols_conditions (ca.canonical_conditions cs) go' in
    let after = sz.symbols_atom fluent rest in
    let after' = sz.symbols_atom (ca.canonical_atom fluent) rest' in
    atom_lessens event (0 ∷ after) (0 ∷ after') (same 0 after after' (atom_lessens fluent rest rest' (conditions_lessen cs go go' h)))
statement_lessens (st.macro_clause a begin until x) go go' h =
    let after = 0 ∷ sz.symbols_seq x go in
    let after' = 0 ∷ sz.symbols_seq (ca.canonical_seq x) go' in
    let last : Bounds after after' = same 0 (sz.symbols_seq x go) (sz.symbols_seq (ca.canonical_seq x) go') (seq_lessens x go go' h) in
    atom_lessens a (0 ∷ 0 ∷ 0 ∷ 0 ∷ after) (0 ∷ 0 ∷ 0 ∷ 0 ∷ after') (two (0 ∷ 0 ∷ after) (0 ∷ 0 ∷ after') (two after after' last))
statement_lessens (st.clause a cs) go go' h =
    atom_lessens a (sz.symbols_conditions cs go) (sz.symbols_conditions (ca.canonical_conditions cs) go') (conditions_lessen cs go go' h)

pub text_lessens : (x : st.Text) → Lessens (sz.symbols_text x) (sz.symbols_text (ca.canonical_text x))
text_lessens st.done go go' h = h
text_lessens (st.next x xs) go go' h =
    let rest = sz.symbols_text xs go in
    let rest' = sz.symbols_text (ca.canonical_text xs) go' in
    statement_lessens x (0 ∷ rest) (0 ∷ rest') (same 0 rest rest' (text_lessens xs go go' h))

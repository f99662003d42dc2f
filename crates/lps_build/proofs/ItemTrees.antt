-- The tokens of a condition or an item are read as what its tree means.
use Rattle.std.specs.Prelude.{ℕ, zero, suc, ◌≡◌, ◌++◌, Bool, true, false, List, [], ◌∷◌, Option, Some, refl, if◌then◌else◌}
use Rattle.std.proofs.Common.{◌∙◌, sym, ap, append-nil, append_assoc}
use Rattle.lps_terms.specs.declared.term.Term.{Term}
use Rattle.lps_terms.specs.declared.built.Built.{Built}
use Rattle.lps_terms.specs.declared.built.Built.TheVariants as b
use Rattle.lps_terms.specs.declared.cond.Cond.{Cond}
use Rattle.lps_terms.specs.declared.cond.Cond.TheVariants as c
use Rattle.lps_terms.specs.declared.item.Item.{Item}
use Rattle.lps_terms.specs.declared.item.Item.TheVariants as i
use Rattle.lps_grammar.specs.declared.tok.Tok.{Tok}
use Rattle.lps_grammar.specs.declared.tok.Tok.TheVariants as k
use Rattle.lps_grammar.specs.Signs.{is_mul, is_add, is_rel, is_time_rel}
use Rattle.lps_grammar.specs.Terms as g
use Rattle.lps_grammar.specs.Expressions as ge
use Rattle.lps_grammar.specs.Items as gi
use Rattle.lps_build.specs.Meaning.{leaf_of, term_of, expr_of, atom_of, rel_of, time_rel_of, time_of, lit_of, built_of, cond_of, conds_of, shift_of, con_of, item_of, items_of, seq_of}
use Rattle.lps_build.specs.ReadTerms.{then_in}
use Rattle.lps_build.specs.ReadItems.{is_side, side_in, is_case, leaf_case, built_in, compare_in, rest_in, right_in, rel_in, named_cond, cond_in, named_item, item_in, placed_in, time_in, time_rel_in, shift_in, con_in, more_parts_in, parts_in}
use Rattle.lps_build.specs.Fits.{Fits, EndsName, EndsProd, EndsSum}
use Rattle.lps_build.proofs.Left.{left_leaf, left_atom, left_expr, left_cond, left_item}
use Rattle.lps_build.proofs.TermTrees.{fits_tail, fits_next, no_room, read_leaf, read_term, read_atom}
use Rattle.lps_build.proofs.ExpressionTrees.{read_expr}
use Rattle.lps_build.specs.Ends.{End, Stop}
use Rattle.lps_build.proofs.Stops.{ends_stop, stop_name, stop_prod, stop_sum, stop_cond, stop_item, stop_placed, stop_shift, end_parts}

-- ---- comparisons

rel_is : (t : Tok) → is_rel t ≡ true → rel_in t ≡ Some (rel_of t)
rel_is k.Less is = refl
rel_is k.AtMost is = refl
rel_is k.Greater is = refl
rel_is k.AtLeast is = refl
rel_is t is = absurd (cc)

rel_prod : (t : Tok) (ts : List Tok) → is_rel t ≡ true → EndsProd (t ∷ ts)
rel_prod k.Less ts is = λ before go. refl
rel_prod k.AtMost ts is = λ before go. refl
rel_prod k.Greater ts is = λ before go. refl
rel_prod k.AtLeast ts is = λ before go. refl
rel_prod t ts is = absurd (cc)

rel_sum : (t : Tok) (ts : List Tok) → is_rel t ≡ true → EndsSum (t ∷ ts)
rel_sum k.Less ts is = λ before go. refl
rel_sum k.AtMost ts is = λ before go. refl
rel_sum k.Greater ts is = λ before go. refl
rel_sum k.AtLeast ts is = λ before go. refl
rel_sum t ts is = absurd (cc)

-- after a leaf these say neither that it is a side nor what it is
record IsOperand (ts : List Tok) : Type 0 where
  no_side : is_side ts ≡ false
  no_is : (d : ℕ) (left : Term) (other : Option (Built × List Tok)) → is_case d left ts other ≡ other

operand_mul : (t : Tok) (ts : List Tok) → is_mul t ≡ true → IsOperand (t ∷ ts)
operand_mul k.Star ts is = record { no_side = refl; no_is = λ d l o. refl }
operand_mul k.Div ts is = record { no_side = refl; no_is = λ d l o. refl }
operand_mul k.Mod ts is = record { no_side = refl; no_is = λ d l o. refl }
operand_mul t ts is = absurd (cc)

operand_add : (t : Tok) (ts : List Tok) → is_add t ≡ true → IsOperand (t ∷ ts)
operand_add k.Plus ts is = record { no_side = refl; no_is = λ d l o. refl }
operand_add k.Minus ts is = record { no_side = refl; no_is = λ d l o. refl }
operand_add t ts is = absurd (cc)

operand_rel : (t : Tok) (ts : List Tok) → is_rel t ≡ true → IsOperand (t ∷ ts)
operand_rel k.Less ts is = record { no_side = refl; no_is = λ d l o. refl }
operand_rel k.AtMost ts is = record { no_side = refl; no_is = λ d l o. refl }
operand_rel k.Greater ts is = record { no_side = refl; no_is = λ d l o. refl }
operand_rel k.AtLeast ts is = record { no_side = refl; no_is = λ d l o. refl }
operand_rel t ts is = absurd (cc)

operand_summands : (xs : ge.Summands) (rest : List Tok) → IsOperand rest → IsOperand (ge.spell_summands xs rest)
operand_summands ge.no_summand rest o = o
operand_summands (ge.plus t is x xs) rest o = operand_add t _ is

operand_factors : (xs : ge.Factors) (rest : List Tok) → IsOperand rest → IsOperand (ge.spell_factors xs rest)
operand_factors ge.no_factor rest o = o
operand_factors (ge.times t is x xs) rest o = operand_mul t _ is

read_compare : (x : ge.Expr) (t : Tok) (is : is_rel t ≡ true) (y : ge.Expr) (d : ℕ) (rest : List Tok) → Fits d (gi.spell_built (gi.compare x t is y) rest) → Stop rest →
    compare_in d (gi.spell_built (gi.compare x t is y) rest) ≡ Some (built_of (gi.compare x t is y), rest)
read_compare x t is y d rest p stop =
    let us = ge.spell_expr y rest in
    ap (λ o. then_in o (λ left vs. rest_in d left vs)) (read_expr x d (t ∷ us) p (rel_prod t us is) (rel_sum t us is))
    ∙ ap (λ o. right_in d (expr_of x) o us) (rel_is t is)
    ∙ ap (λ o. then_in o (λ right vs. Some (b.Compare (rel_of t) (expr_of x) right, vs)))
    (read_expr y d rest (fits_tail d t us (left_expr (Fits d) (fits_tail d) x (t ∷ us) p)) (stop_prod rest stop) (stop_sum rest stop))

leaf_operand : (x : g.Leaf true) (d : ℕ) (us : List Tok) → IsOperand us → built_in d (g.spell_leaf x us) ≡ compare_in d (g.spell_leaf x us)
leaf_operand x d us o =
    let other = compare_in d (g.spell_leaf x us) in
    ap (λ m. leaf_case d m other) (read_leaf x us)
    ∙ ap (λ m. if m then side_in d (leaf_of x) us else is_case d (leaf_of x) us other) o.no_side
    ∙ o.no_is d (leaf_of x) other

compares : (x : ge.Expr) (t : Tok) (is : is_rel t ≡ true) (d : ℕ) (us : List Tok) → built_in d (ge.spell_expr x (t ∷ us)) ≡ compare_in d (ge.spell_expr x (t ∷ us))
compares (ge.expr (ge.prod (ge.grouped y) ys) xs) t is d us = refl
compares (ge.expr (ge.prod (ge.single y) ys) xs) t is d us = leaf_operand y d _ (operand_factors ys _ (operand_summands xs _ (operand_rel t us is)))

-- ---- built-ins that begin with a leaf

leaf_side : (x : g.Leaf true) (d : ℕ) (us : List Tok) → is_side us ≡ true → built_in d (g.spell_leaf x us) ≡ side_in d (leaf_of x) us
leaf_side x d us e =
    let other = compare_in d (g.spell_leaf x us) in
    ap (λ m. leaf_case d m other) (read_leaf x us)
    ∙ ap (λ m. if m then side_in d (leaf_of x) us else is_case d (leaf_of x) us other) e

read_same : (left : Term) (y : g.Term true) (d : ℕ) (rest : List Tok) → Fits d (g.spell_term y rest) → Stop rest → side_in d left (k.Equal ∷ g.spell_term y rest) ≡ Some (b.Same left (term_of y), rest)
read_same left y d rest p stop = ap (λ o. then_in o (λ right us. Some (b.Same left right, us))) (read_term y d rest p (stop_name rest stop))

read_differ : (left : Term) (y : g.Term true) (d : ℕ) (rest : List Tok) → Fits d (g.spell_term y rest) → Stop rest → side_in d left (k.Differ ∷ g.spell_term y rest) ≡ Some (b.Differ left (term_of y), rest)
read_differ left y d rest p stop = ap (λ o. then_in o (λ right us. Some (b.Differ left right, us))) (read_term y d rest p (stop_name rest stop))

read_is : (x : g.Leaf true) (y : ge.Expr) (d : ℕ) (rest : List Tok) → Fits d (ge.spell_expr y rest) → Stop rest → built_in d (g.spell_leaf x (k.Is ∷ ge.spell_expr y rest)) ≡ Some (b.Is (leaf_of x) (expr_of y), rest)
read_is x y d rest p stop =
    let us = ge.spell_expr y rest in
    ap (λ m. leaf_case d m (compare_in d (g.spell_leaf x (k.Is ∷ us)))) (read_leaf x (k.Is ∷ us))
    ∙ ap (λ o. then_in o (λ right vs. Some (b.Is (leaf_of x) right, vs))) (read_expr y d rest p (stop_prod rest stop) (stop_sum rest stop))

-- a built-in that begins with no name
data Unnamed : gi.Built → Type 0 where
  same : (x : g.Leaf true) (y : g.Term true) → Unnamed (gi.same (g.leaf x) y)
  differ : (x : g.Leaf true) (y : g.Term true) → Unnamed (gi.differ (g.leaf x) y)
  evaluates : (x : g.Leaf true) (y : ge.Expr) → Unnamed (gi.evaluates x y)
  compare : (x : ge.Expr) (t : Tok) (is : is_rel t ≡ true) (y : ge.Expr) → Unnamed (gi.compare x t is y)

read_built : (x : gi.Built) (d : ℕ) (rest : List Tok) → Unnamed x → Fits d (gi.spell_built x rest) → Stop rest → built_in d (gi.spell_built x rest) ≡ Some (built_of x, rest)
read_built _ d rest (Unnamed.same x y) p stop =
    let us = g.spell_term y rest in
    leaf_side x d (k.Equal ∷ us) refl ∙ read_same (leaf_of x) y d rest (fits_tail d k.Equal us (left_leaf (Fits d) (fits_tail d) x (k.Equal ∷ us) p)) stop
read_built _ d rest (Unnamed.differ x y) p stop =
    let us = g.spell_term y rest in
    leaf_side x d (k.Differ ∷ us) refl ∙ read_differ (leaf_of x) y d rest (fits_tail d k.Differ us (left_leaf (Fits d) (fits_tail d) x (k.Differ ∷ us) p)) stop
read_built _ d rest (Unnamed.evaluates x y) p stop =
    let us = ge.spell_expr y rest in
    read_is x y d rest (fits_tail d k.Is us (left_leaf (Fits d) (fits_tail d) x (k.Is ∷ us) p)) stop
read_built _ d rest (Unnamed.compare x t is y) p stop = compares x t is d (ge.spell_expr y rest) ∙ read_compare x t is y d rest p stop

-- ---- conditions

cond_leaf : (x : g.Leaf true) (d : ℕ) (us : List Tok) → cond_in d (g.spell_leaf x us) ≡ then_in (built_in d (g.spell_leaf x us)) (λ y vs. Some (c.Built y, vs))
cond_leaf (g.variable may n) d us = refl
cond_leaf (g.number n small) d us = refl
cond_leaf (g.negative n small) d us = refl

cond_built : (x : gi.Built) (d : ℕ) (rest : List Tok) → Unnamed x → cond_in d (gi.spell_built x rest) ≡ then_in (built_in d (gi.spell_built x rest)) (λ y vs. Some (c.Built y, vs))
cond_built _ d rest (Unnamed.same x y) = cond_leaf x d _
cond_built _ d rest (Unnamed.differ x y) = cond_leaf x d _
cond_built _ d rest (Unnamed.evaluates x y) = cond_leaf x d _
cond_built _ d rest (Unnamed.compare (ge.expr (ge.prod (ge.grouped z) ys) xs) t is y) = refl
cond_built _ d rest (Unnamed.compare (ge.expr (ge.prod (ge.single z) ys) xs) t is y) = cond_leaf z d _

unnamed_cond : (x : gi.Built) (d : ℕ) (rest : List Tok) → Unnamed x → Fits d (gi.spell_built x rest) → Stop rest → cond_in d (gi.spell_built x rest) ≡ Some (c.Built (built_of x), rest)
unnamed_cond x d rest un p stop = cond_built x d rest un ∙ ap (λ o. then_in o (λ y vs. Some (c.Built y, vs))) (read_built x d rest un p stop)

pub read_cond : (x : gi.Cond) (d : ℕ) (rest : List Tok) → Fits d (gi.spell_cond x rest) → Stop rest → cond_in d (gi.spell_cond x rest) ≡ Some (cond_of x, rest)
read_cond (gi.holds (g.atom n xs)) d rest p stop =
    ap (λ o. then_in o (λ a us. named_cond d a us)) (read_atom (g.atom n xs) d rest p (stop_name rest stop)) ∙ stop_cond d _ rest stop
read_cond (gi.fails a) d rest p stop =
    ap (λ o. then_in o (λ x us. Some (c.Lit (lit_of true x), us))) (read_atom a d rest (fits_tail d _ _ p) (stop_name rest stop))
read_cond (gi.built (gi.same (g.named n xs) y)) d rest p stop =
    let us = g.spell_term y rest in
    let q = left_atom (Fits d) (fits_tail d) (g.atom n xs) (k.Equal ∷ us) p in
    ap (λ o. then_in o (λ a vs. named_cond d a vs)) (read_atom (g.atom n xs) d (k.Equal ∷ us) p (λ some. refl))
    ∙ ap (λ o. then_in o (λ z vs. Some (c.Built z, vs))) (read_same (term_of (g.named n xs)) y d rest (fits_tail d k.Equal us q) stop)
read_cond (gi.built (gi.differ (g.named n xs) y)) d rest p stop =
    let us = g.spell_term y rest in
    let q = left_atom (Fits d) (fits_tail d) (g.atom n xs) (k.Differ ∷ us) p in
    ap (λ o. then_in o (λ a vs. named_cond d a vs)) (read_atom (g.atom n xs) d (k.Differ ∷ us) p (λ some. refl))
    ∙ ap (λ o. then_in o (λ z vs. Some (c.Built z, vs))) (read_differ (term_of (g.named n xs)) y d rest (fits_tail d k.Differ us q) stop)
read_cond (gi.built (gi.same (g.leaf x) y)) d rest p stop = unnamed_cond _ d rest (Unnamed.same x y) p stop
read_cond (gi.built (gi.differ (g.leaf x) y)) d rest p stop = unnamed_cond _ d rest (Unnamed.differ x y) p stop
read_cond (gi.built (gi.evaluates x y)) d rest p stop = unnamed_cond _ d rest (Unnamed.evaluates x y) p stop
read_cond (gi.built (gi.compare x t is y)) d rest p stop = unnamed_cond _ d rest (Unnamed.compare x t is y) p stop

conds_stop : (xs : gi.MoreConds) (rest : List Tok) → End rest → Stop (gi.spell_conds xs rest)
conds_stop gi.no_cond rest end = ends_stop rest end
conds_stop (gi.also x xs) rest end = Stop.comma _

more_conds : (xs : gi.MoreConds) (d : ℕ) (before : List Cond) (rest : List Tok) → Fits d (gi.spell_conds xs rest) → End rest → more_parts_in cond_in d before (gi.spell_conds xs rest) ≡ Some (before ++ conds_of xs, rest)
more_conds gi.no_cond d before rest p end = end_parts cond_in d before rest end ∙ ap (λ z. Some (z, rest)) (sym (append-nil before))
more_conds (gi.also x xs) zero before rest p end = no_room _ _ p
more_conds (gi.also x xs) (suc d) before rest p end =
    let q = fits_next d _ _ p in
    ap (λ o. then_in o (λ y vs. more_parts_in cond_in d (before ++ y ∷ []) vs)) (read_cond x d (gi.spell_conds xs rest) q (conds_stop xs rest end))
    ∙ more_conds xs d (before ++ cond_of x ∷ []) rest (left_cond (Fits d) (fits_tail d) x (gi.spell_conds xs rest) q) end
    ∙ ap (λ z. Some (z, rest)) (append_assoc before (cond_of x ∷ []) (conds_of xs))

pub read_conds : (x : gi.Cond) (xs : gi.MoreConds) (d : ℕ) (rest : List Tok) → Fits d (gi.spell_cond x (gi.spell_conds xs rest)) → End rest → parts_in cond_in d (gi.spell_cond x (gi.spell_conds xs rest)) ≡ Some (cond_of x ∷ conds_of xs, rest)
read_conds x xs d rest p end =
    ap (λ o. then_in o (λ y vs. more_parts_in cond_in d (y ∷ []) vs)) (read_cond x d (gi.spell_conds xs rest) p (conds_stop xs rest end))
    ∙ more_conds xs d (cond_of x ∷ []) rest (left_cond (Fits d) (fits_tail d) x (gi.spell_conds xs rest) p) end

-- ---- items

time_rel_is : (t : Tok) (us : List Tok) → is_time_rel t ≡ true → time_rel_in (t ∷ us) ≡ Some (time_rel_of t, us)
time_rel_is k.Less us is = refl
time_rel_is k.AtMost us is = refl
time_rel_is k.Equal us is = refl
time_rel_is k.Greater us is = refl
time_rel_is k.AtLeast us is = refl
time_rel_is t us is = absurd (cc)

read_shift : (x : gi.Shift) (rest : List Tok) → Stop rest → shift_in (gi.spell_shift x rest) ≡ Some (shift_of x, rest)
read_shift gi.unshifted rest stop = stop_shift rest stop
read_shift (gi.shifted k.Plus is n small) rest stop = rw small refl
read_shift (gi.shifted k.Minus is n small) rest stop = rw small refl
read_shift (gi.shifted t is n small) rest stop = absurd (cc)

read_con : (x : gi.Con) (rest : List Tok) → Stop rest → con_in (gi.spell_con x rest) ≡ Some (con_of x, rest)
read_con (gi.con x t is y plus) rest stop =
    ap (λ o. then_in o (λ rel vs. then_in (time_in vs) (λ z ws. then_in (shift_in ws) (λ w more. Some (record { left = time_of x; rel = rel; right = z; plus = w }, more))))) (time_rel_is t _ is)
    ∙ ap (λ o. then_in o (λ w more. Some (record { left = time_of x; rel = time_rel_of t; right = time_of y; plus = w }, more))) (read_shift plus rest stop)

item_leaf : (x : g.Leaf true) (d : ℕ) (us : List Tok) → item_in d (g.spell_leaf x us) ≡ then_in (built_in d (g.spell_leaf x us)) (λ y vs. Some (i.Built y, vs))
item_leaf (g.variable may n) d us = refl
item_leaf (g.number n small) d us = refl
item_leaf (g.negative n small) d us = refl

item_built : (x : gi.Built) (d : ℕ) (rest : List Tok) → Unnamed x → item_in d (gi.spell_built x rest) ≡ then_in (built_in d (gi.spell_built x rest)) (λ y vs. Some (i.Built y, vs))
item_built _ d rest (Unnamed.same x y) = item_leaf x d _
item_built _ d rest (Unnamed.differ x y) = item_leaf x d _
item_built _ d rest (Unnamed.evaluates x y) = item_leaf x d _
item_built _ d rest (Unnamed.compare (ge.expr (ge.prod (ge.grouped z) ys) xs) t is y) = refl
item_built _ d rest (Unnamed.compare (ge.expr (ge.prod (ge.single z) ys) xs) t is y) = item_leaf z d _

unnamed_item : (x : gi.Built) (d : ℕ) (rest : List Tok) → Unnamed x → Fits d (gi.spell_built x rest) → Stop rest → item_in d (gi.spell_built x rest) ≡ Some (i.Built (built_of x), rest)
unnamed_item x d rest un p stop = item_built x d rest un ∙ ap (λ o. then_in o (λ y vs. Some (i.Built y, vs))) (read_built x d rest un p stop)

named_first : (a : g.Atom true) (d : ℕ) (us : List Tok) → Fits d (g.spell_atom a us) → EndsName us → item_in d (g.spell_atom a us) ≡ named_item d (atom_of a) us
named_first (g.atom n xs) d us p ends = ap (λ o. then_in o (λ a vs. named_item d a vs)) (read_atom (g.atom n xs) d us p ends)

pub read_item : {bounds : Bool} (x : gi.Item bounds) (d : ℕ) (rest : List Tok) → Fits d (gi.spell_item x rest) → Stop rest → item_in d (gi.spell_item x rest) ≡ Some (item_of x, rest)
read_item (gi.true_at a gi.untimed) d rest p stop = named_first a d rest p (stop_name rest stop) ∙ stop_item d (atom_of a) rest stop
read_item (gi.true_at a (gi.at n)) d rest p stop = named_first a d _ p (λ some. refl)
read_item (gi.false_at a gi.untimed) d rest p stop =
    ap (λ o. then_in o (λ x us. placed_in (lit_of true x) us)) (read_atom a d rest (fits_tail d _ _ p) (stop_name rest stop)) ∙ stop_placed (lit_of true (atom_of a)) rest stop
read_item (gi.false_at a (gi.at n)) d rest p stop =
    ap (λ o. then_in o (λ x us. placed_in (lit_of true x) us)) (read_atom a d _ (fits_tail d _ _ p) (λ some. refl))
read_item (gi.spans a x y) d rest p stop = named_first a d _ p (λ some. refl)
read_item (gi.tests (gi.same (g.named n xs) y)) d rest p stop =
    let us = g.spell_term y rest in
    let q = left_atom (Fits d) (fits_tail d) (g.atom n xs) (k.Equal ∷ us) p in
    named_first (g.atom n xs) d (k.Equal ∷ us) p (λ some. refl)
    ∙ ap (λ o. then_in o (λ z vs. Some (i.Built z, vs))) (read_same (term_of (g.named n xs)) y d rest (fits_tail d k.Equal us q) stop)
read_item (gi.tests (gi.differ (g.named n xs) y)) d rest p stop =
    let us = g.spell_term y rest in
    let q = left_atom (Fits d) (fits_tail d) (g.atom n xs) (k.Differ ∷ us) p in
    named_first (g.atom n xs) d (k.Differ ∷ us) p (λ some. refl)
    ∙ ap (λ o. then_in o (λ z vs. Some (i.Built z, vs))) (read_differ (term_of (g.named n xs)) y d rest (fits_tail d k.Differ us q) stop)
read_item (gi.tests (gi.same (g.leaf x) y)) d rest p stop = unnamed_item _ d rest (Unnamed.same x y) p stop
read_item (gi.tests (gi.differ (g.leaf x) y)) d rest p stop = unnamed_item _ d rest (Unnamed.differ x y) p stop
read_item (gi.tests (gi.evaluates x y)) d rest p stop = unnamed_item _ d rest (Unnamed.evaluates x y) p stop
read_item (gi.tests (gi.compare x t is y)) d rest p stop = unnamed_item _ d rest (Unnamed.compare x t is y) p stop
read_item (gi.bound may (gi.con x t is y plus)) d rest p stop =
    ap (λ o. then_in o (λ z us. Some (i.Con z, us))) (read_con (gi.con x t is y plus) rest stop)

items_stop : {bounds : Bool} (xs : gi.MoreItems bounds) (rest : List Tok) → End rest → Stop (gi.spell_items xs rest)
items_stop gi.no_item rest end = ends_stop rest end
items_stop (gi.then_item x xs) rest end = Stop.comma _

more_items : {bounds : Bool} (xs : gi.MoreItems bounds) (d : ℕ) (before : List Item) (rest : List Tok) → Fits d (gi.spell_items xs rest) → End rest → more_parts_in item_in d before (gi.spell_items xs rest) ≡ Some (before ++ items_of xs, rest)
more_items gi.no_item d before rest p end = end_parts item_in d before rest end ∙ ap (λ z. Some (z, rest)) (sym (append-nil before))
more_items (gi.then_item x xs) zero before rest p end = no_room _ _ p
more_items (gi.then_item x xs) (suc d) before rest p end =
    let q = fits_next d _ _ p in
    ap (λ o. then_in o (λ y vs. more_parts_in item_in d (before ++ y ∷ []) vs)) (read_item x d (gi.spell_items xs rest) q (items_stop xs rest end))
    ∙ more_items xs d (before ++ item_of x ∷ []) rest (left_item (Fits d) (fits_tail d) x (gi.spell_items xs rest) q) end
    ∙ ap (λ z. Some (z, rest)) (append_assoc before (item_of x ∷ []) (items_of xs))

pub read_seq : {bounds : Bool} (x : gi.Seq bounds) (d : ℕ) (rest : List Tok) → Fits d (gi.spell_seq x rest) → End rest → parts_in item_in d (gi.spell_seq x rest) ≡ Some (seq_of x, rest)
read_seq (gi.seq x xs) d rest p end =
    ap (λ o. then_in o (λ y vs. more_parts_in item_in d (y ∷ []) vs)) (read_item x d (gi.spell_items xs rest) p (items_stop xs rest end))
    ∙ more_items xs d (item_of x ∷ []) rest (left_item (Fits d) (fits_tail d) x (gi.spell_items xs rest) p) end

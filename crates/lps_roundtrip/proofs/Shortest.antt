-- Expressions that mean the same have one canonical tree, and no tree that means the same has fewer tokens.
use Rattle.std.specs.Prelude.{ℕ, zero, suc, pos, negsuc, ◌≡◌, ◌≤◌, ◌^◌, Bool, true, false, List, [], nat_lt, nat_le, length, refl}
use Rattle.std.proofs.Common.{◌∙◌, sym, ap, subst, arith}
use Rattle.std.proofs.Math.Bool.{Bool-set}
use Rattle.lps_terms.specs.Forms.{fold-Int, fold-Var}
use Rattle.lps_terms.specs.declared.term.Term.{Term}
use Rattle.lps_terms.specs.declared.term.Term.TheOpen.{Term-F}
use Rattle.lps_terms.specs.declared.term.Term.TheFolds.{fold-Term}
use Rattle.lps_terms.specs.declared.op.Op.{Op}
use Rattle.lps_terms.specs.declared.op.Op.TheVariants as o
use Rattle.lps_terms.specs.declared.expr.Expr.{Expr}
use Rattle.lps_terms.specs.declared.expr.Expr.TheVariants as e
use Rattle.lps_terms.specs.declared.expr.Expr.TheOpen.{Expr-F}
use Rattle.lps_terms.specs.declared.expr.Expr.TheFolds.{fold-Expr, fold-roll-Expr}
use Rattle.lps_grammar.specs.declared.tok.Tok.{Tok}
use Rattle.lps_grammar.specs.declared.tok.Tok.TheVariants as k
use Rattle.lps_grammar.specs.Signs.{is_add, is_mul}
use Rattle.lps_grammar.specs.Terms as te
use Rattle.lps_grammar.specs.Expressions as ex
use Rattle.lps_build.specs.Meaning as m
use Rattle.lps_roundtrip.specs.Canonical as ca
use Rattle.lps_roundtrip.specs.Thinner.{Thinner}
use Rattle.lps_roundtrip.proofs.Thins.{expr_thins, with_none}

same_test : {b : Bool} (p q : b ≡ true) → p ≡ q
same_test {b} p q = Bool-set b true p q

-- ---- the leaf that is written for a term

-- the number, if it is small enough; else no matter what
abbrev whole : (n : ℕ) (small : Bool) → nat_lt n (2 ^ 63) ≡ small → te.Leaf true
whole n true is = te.number n is
whole n false is = te.number 0 refl

-- the number with a sign before it, if it is small enough; else no matter what
abbrev below_zero : (n : ℕ) (small : Bool) → nat_le n (2 ^ 63) ≡ small → te.Leaf true
below_zero n true is = te.negative n is
below_zero n false is = te.number 0 refl

abbrev leaf_step : Term-F (te.Leaf true) → te.Leaf true
leaf_step (Term-F.Int (pos n)) = whole n (nat_lt n (2 ^ 63)) refl
leaf_step (Term-F.Int (negsuc n)) = below_zero (suc n) (nat_le (suc n) (2 ^ 63)) refl
leaf_step (Term-F.Sym n) = te.number 0 refl
leaf_step (Term-F.App n xs) = te.number 0 refl
leaf_step (Term-F.Var n) = te.variable refl n

abbrev leaf_in : Term → te.Leaf true
leaf_in = fold-Term (te.Leaf true) leaf_step

whole_small : (n : ℕ) (b : Bool) (is : nat_lt n (2 ^ 63) ≡ b) (small : nat_lt n (2 ^ 63) ≡ true) → whole n b is ≡ te.number n small
whole_small n true is small = ap (te.number n) (same_test is small)
whole_small n false is small = absurd cc

below_small : (n : ℕ) (b : Bool) (is : nat_le n (2 ^ 63) ≡ b) (small : nat_le n (2 ^ 63) ≡ true) → below_zero n b is ≡ te.negative n small
below_small n true is small = ap (te.negative n) (same_test is small)
below_small n false is small = absurd cc

leaf_told : (x : te.Leaf true) → leaf_in (m.leaf_of x) ≡ ca.canonical_leaf x
leaf_told (te.variable may n) = fold-Var (te.Leaf true) leaf_step n ∙ ap (λ h. te.variable h n) (same_test refl may)
leaf_told (te.number n small) = fold-Int (te.Leaf true) leaf_step (pos n) ∙ whole_small n (nat_lt n (2 ^ 63)) refl small
leaf_told (te.negative zero small) = fold-Int (te.Leaf true) leaf_step (pos 0)
leaf_told (te.negative (suc n) small) = fold-Int (te.Leaf true) leaf_step (negsuc n) ∙ below_small (suc n) (nat_le (suc n) (2 ^ 63)) refl small

-- ---- the tree that is written for an expression

-- an operator of products and its operands
abbrev product : (t : Tok) → is_mul t ≡ true → ex.Expr → ex.Expr → ex.Expr
product t is left right = ex.expr (ca.with_factors (ca.as_prod left) (ex.times t is (ca.as_unit right) ex.no_factor)) ex.no_summand

-- an operator of sums and its operands
abbrev a_sum : (t : Tok) → is_add t ≡ true → ex.Expr → ex.Expr → ex.Expr
a_sum t is left right = ca.with_summands left (ex.plus t is (ca.as_prod right) ex.no_summand)

abbrev joined : Op → ex.Expr → ex.Expr → ex.Expr
joined o.Add = a_sum k.Plus refl
joined o.Sub = a_sum k.Minus refl
joined o.Mul = product k.Star refl
joined o.Div = product k.Div refl
joined o.Mod = product k.Mod refl

abbrev tree_step : Expr-F ex.Expr → ex.Expr
tree_step (Expr-F.Leaf x) = ex.expr (ex.prod (ex.single (leaf_in x)) ex.no_factor) ex.no_summand
tree_step (Expr-F.Apply op left right) = joined op left right

abbrev tree_in : Expr → ex.Expr
tree_in = fold-Expr ex.Expr tree_step

tree_leaf : (x : Term) → tree_in (e.Leaf x) ≡ tree_step (Expr-F.Leaf x)
tree_leaf x = ap tree_in (sym (e.rolls-Leaf x)) ∙ fold-roll-Expr ex.Expr tree_step _

tree_apply : (op : Op) (left right : Expr) → tree_in (e.Apply op left right) ≡ joined op (tree_in left) (tree_in right)
tree_apply op left right = ap tree_in (sym (e.rolls-Apply op left right)) ∙ fold-roll-Expr ex.Expr tree_step _

product_joined : (t : Tok) (is : is_mul t ≡ true) (left right : ex.Expr) → joined (m.op_of t) left right ≡ product t is left right
product_joined k.Star is left right = ap (λ h. product k.Star h left right) (same_test refl is)
product_joined k.Div is left right = ap (λ h. product k.Div h left right) (same_test refl is)
product_joined k.Mod is left right = ap (λ h. product k.Mod h left right) (same_test refl is)
product_joined t is left right = absurd cc

sum_joined : (t : Tok) (is : is_add t ≡ true) (left right : ex.Expr) → joined (m.op_of t) left right ≡ a_sum t is left right
sum_joined k.Plus is left right = ap (λ h. a_sum k.Plus h left right) (same_test refl is)
sum_joined k.Minus is left right = ap (λ h. a_sum k.Minus h left right) (same_test refl is)
sum_joined t is left right = absurd cc

-- ---- what is appended twice

append_factors_twice : (xs ys zs : ex.Factors) → ca.append_factors (ca.append_factors xs ys) zs ≡ ca.append_factors xs (ca.append_factors ys zs)
append_factors_twice ex.no_factor ys zs = refl
append_factors_twice (ex.times t is x xs) ys zs = ap (ex.times t is x) (append_factors_twice xs ys zs)

with_factors_twice : (p : ex.Prod) (ys zs : ex.Factors) → ca.with_factors (ca.with_factors p ys) zs ≡ ca.with_factors p (ca.append_factors ys zs)
with_factors_twice (ex.prod x xs) ys zs = ap (ex.prod x) (append_factors_twice xs ys zs)

product_more : (t : Tok) (is : is_mul t ≡ true) (left right : ex.Expr) (ys : ex.Factors) →
    ca.multiplied (product t is left right) ys ≡ ca.multiplied left (ex.times t is (ca.as_unit right) ys)
product_more t is left right ex.no_factor = refl
product_more t is left right (ex.times u by y ys) =
    ap (λ p. ex.expr p ex.no_summand) (with_factors_twice (ca.as_prod left) (ex.times t is (ca.as_unit right) ex.no_factor) (ex.times u by y ys))

append_summands_twice : (ps qs rs : ex.Summands) → ca.append_summands (ca.append_summands ps qs) rs ≡ ca.append_summands ps (ca.append_summands qs rs)
append_summands_twice ex.no_summand qs rs = refl
append_summands_twice (ex.plus t is p ps) qs rs = ap (ex.plus t is p) (append_summands_twice ps qs rs)

with_summands_twice : (x : ex.Expr) (qs rs : ex.Summands) → ca.with_summands (ca.with_summands x qs) rs ≡ ca.with_summands x (ca.append_summands qs rs)
with_summands_twice (ex.expr p ps) qs rs = ap (ex.expr p) (append_summands_twice ps qs rs)

-- ---- the canonical tree is the one that is written for the meaning

mutual
  unit_told : (x : ex.Unit) → tree_in (m.unit_of x) ≡ ca.loose_unit x
  unit_told (ex.single x) = tree_leaf (m.leaf_of x) ∙ ap (λ y. ex.expr (ex.prod (ex.single y) ex.no_factor) ex.no_summand) (leaf_told x)
  unit_told (ex.grouped x) = expr_told x

  factors_told : (xs : ex.Factors) (before : Expr) → tree_in (m.factors_of xs before) ≡ ca.multiplied (tree_in before) (ca.canonical_factors xs)
  factors_told ex.no_factor before = refl
  factors_told (ex.times t is x xs) before =
      factors_told xs (e.Apply (m.op_of t) before (m.unit_of x))
      ∙ ap (λ y. ca.multiplied y (ca.canonical_factors xs))
      (tree_apply (m.op_of t) before (m.unit_of x) ∙ ap (joined (m.op_of t) (tree_in before)) (unit_told x) ∙ product_joined t is (tree_in before) (ca.loose_unit x))
      ∙ product_more t is (tree_in before) (ca.loose_unit x) (ca.canonical_factors xs)

  prod_told : (p : ex.Prod) → tree_in (m.prod_of p) ≡ ca.loose_prod p
  prod_told (ex.prod x xs) = factors_told xs (m.unit_of x) ∙ ap (λ y. ca.multiplied y (ca.canonical_factors xs)) (unit_told x)

  summands_told : (ps : ex.Summands) (before : Expr) → tree_in (m.summands_of ps before) ≡ ca.with_summands (tree_in before) (ca.canonical_summands ps)
  summands_told ex.no_summand before = sym (with_none (tree_in before))
  summands_told (ex.plus t is p ps) before =
      summands_told ps (e.Apply (m.op_of t) before (m.prod_of p))
      ∙ ap (λ y. ca.with_summands y (ca.canonical_summands ps))
      (tree_apply (m.op_of t) before (m.prod_of p) ∙ ap (joined (m.op_of t) (tree_in before)) (prod_told p) ∙ sum_joined t is (tree_in before) (ca.loose_prod p))
      ∙ with_summands_twice (tree_in before) (ex.plus t is (ca.as_prod (ca.loose_prod p)) ex.no_summand) (ca.canonical_summands ps)

  expr_told : (x : ex.Expr) → tree_in (m.expr_of x) ≡ ca.canonical_expr x
  expr_told (ex.expr p ps) = summands_told ps (m.prod_of p) ∙ ap (λ y. ca.with_summands y (ca.canonical_summands ps)) (prod_told p)

pub one_tree : (x y : ex.Expr) → m.expr_of x ≡ m.expr_of y → ca.canonical_expr x ≡ ca.canonical_expr y
one_tree x y same = sym (expr_told x) ∙ ap tree_in same ∙ expr_told y

-- what is left is no longer
pub no_longer : {ts us : List Tok} → Thinner ts us → length us ≤ length ts
no_longer Thinner.none = omega arith
no_longer (Thinner.keep t more) = let le = no_longer more in omega arith
no_longer (Thinner.leave t light more) = let le = no_longer more in omega arith

pub fewest_tokens : (x y : ex.Expr) → m.expr_of x ≡ m.expr_of y → length (ex.spell_expr (ca.canonical_expr x) []) ≤ length (ex.spell_expr y [])
fewest_tokens x y same =
    subst (λ z. length (ex.spell_expr z []) ≤ length (ex.spell_expr y [])) (sym (one_tree x y same)) (no_longer (expr_thins y [] [] Thinner.none))

-- Putting terms in makes nothing smaller.
use Rattle.std.proofs.Common.{ℕ, ◌≤◌, List, [], ◌∷◌, map, ap, arith}
use Rattle.std.specs.List.{AllByRecursion}
use Rattle.lps_terms.specs.declared.built.Built.TheVariants as b
use Rattle.lps_terms.specs.declared.expr.Expr.{Expr}
use Rattle.lps_terms.specs.declared.term.Term.{Term}
use Rattle.lps_terms.specs.declared.term.Term.TheVariants as t
use Rattle.lps_terms.specs.Forms.{term_ind}
use Rattle.lps_terms.specs.Put.{put, put-Int, put-Sym, put-App}
use Rattle.lps_terms.specs.Symbols.{symbols_of, symbols_of_all, symbols_of_all-cons, symbols_of-Int, symbols_of-Sym, symbols_of-App, symbols_of-Var}
use Rattle.lps_derivation.specs.Expressions.{put_expr, put_expr-Leaf, put_expr-Apply, expr_symbols_of, expr_symbols_of-Leaf, expr_symbols_of-Apply, expr_ind}
use Rattle.lps_meaning.specs.declared.node.LeftItem.{LeftItem}
use Rattle.lps_meaning.specs.declared.node.LeftItem.TheVariants as l
use Rattle.lps_meaning.specs.declared.when.When.{When}
use Rattle.lps_nodes.specs.Conditions.{IsLeftSmall}
use Rattle.lps_nodes.specs.Shapes.{put_left_item}

grows_all : (s : ℕ → Term) (ts : List Term) → AllByRecursion (λ x. symbols_of x ≤ symbols_of (put s x)) ts → symbols_of_all ts ≤ symbols_of_all (map (put s) ts)
grows_all s [] each = omega arith
grows_all s (x ∷ xs) each =
    let one = each.0 in let more = grows_all s xs each.1 in omega (arith, one, more, symbols_of_all-cons x xs, symbols_of_all-cons (put s x) (map (put s) xs))

one_at_least : (x : Term) → 1 ≤ symbols_of x
one_at_least = term_ind (λ x. 1 ≤ symbols_of x) (λ z. let e = symbols_of-Int z in omega (arith, e)) (λ n. let e = symbols_of-Sym n in omega (arith, e))
    (λ n ts each. let e = symbols_of-App n ts in omega (arith, e)) (λ v. let e = symbols_of-Var v in omega (arith, e))

pub grows : (s : ℕ → Term) (x : Term) → symbols_of x ≤ symbols_of (put s x)
grows s = term_ind (λ x. symbols_of x ≤ symbols_of (put s x))
    (λ z. let e = ap symbols_of (put-Int s z) in omega (arith, e)) (λ n. let e = ap symbols_of (put-Sym s n) in omega (arith, e))
    (λ n ts each.
    let e = ap symbols_of (put-App s n ts) in let before = symbols_of-App n ts in let behind = symbols_of-App n (map (put s) ts) in
    let more = grows_all s ts each in omega (arith, e, before, behind, more))
    (λ v. let e = symbols_of-Var v in let one = one_at_least (put s (t.Var v)) in omega (arith, e, one))

every : (s : ℕ → Term) (ts : List Term) → AllByRecursion (λ x. symbols_of x ≤ symbols_of (put s x)) ts
every s [] = tt
every s (x ∷ xs) = (grows s x, every s xs)

grows_each : (s : ℕ → Term) (ts : List Term) → symbols_of_all ts ≤ symbols_of_all (map (put s) ts)
grows_each s ts = grows_all s ts (every s ts)

grows_expr : (s : ℕ → Term) (x : Expr) → expr_symbols_of x ≤ expr_symbols_of (put_expr s x)
grows_expr s = expr_ind (λ x. expr_symbols_of x ≤ expr_symbols_of (put_expr s x))
    (λ x. let e = ap expr_symbols_of (put_expr-Leaf s x) in let before = expr_symbols_of-Leaf x in let behind = expr_symbols_of-Leaf (put s x) in
    let more = grows s x in omega (arith, e, before, behind, more))
    (λ op x y one two. let e = ap expr_symbols_of (put_expr-Apply s op x y) in let before = expr_symbols_of-Apply op x y in
    let behind = expr_symbols_of-Apply op (put_expr s x) (put_expr s y) in omega (arith, e, before, behind, one, two))

below : (m n : ℕ) → m ≤ n → n ≤ 1024 → m ≤ 1024
below m n le small = omega arith

-- an item is small where it is small with terms put in
pub small_before : (s : ℕ → Term) (w : ℕ → When) (item : LeftItem) → IsLeftSmall (put_left_item s w item) → IsLeftSmall item
small_before s w (l.At lit time) h = let more = grows_each s lit.atom.args in omega (arith, more, h)
small_before s w (l.Bare lit) h = let more = grows_each s lit.atom.args in omega (arith, more, h)
small_before s w (l.Built (b.Same x y)) h = (below _ _ (grows s x) h.0, below _ _ (grows s y) h.1)
small_before s w (l.Built (b.Differ x y)) h = (below _ _ (grows s x) h.0, below _ _ (grows s y) h.1)
small_before s w (l.Built (b.Is x y)) h = (below _ _ (grows s x) h.0, below _ _ (grows_expr s y) h.1)
small_before s w (l.Built (b.Compare rel x y)) h = (below _ _ (grows_expr s x) h.0, below _ _ (grows_expr s y) h.1)
small_before s w (l.Span a from to) h = let more = grows_each s a.args in omega (arith, more, h)

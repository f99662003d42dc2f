-- Putting terms in makes nothing smaller.
use Rattle.std.proofs.Common.{ℕ, ◌+◌, ◌≤◌, List, [], ◌∷◌, map, ap, arith}
use Rattle.std.specs.List.{AllByRecursion}
use Rattle.lps_terms.specs.declared.built.Built.{Built}
use Rattle.lps_terms.specs.declared.built.Built.TheVariants as b
use Rattle.lps_terms.specs.declared.cond.Cond.{Cond}
use Rattle.lps_terms.specs.declared.cond.Cond.TheVariants as c
use Rattle.lps_terms.specs.declared.expr.Expr.{Expr}
use Rattle.lps_terms.specs.declared.term.Term.{Term}
use Rattle.lps_terms.specs.declared.term.Term.TheVariants as t
use Rattle.lps_terms.specs.Forms.{term_ind}
use Rattle.lps_terms.specs.OrderLaws.{symbols_of-args}
use Rattle.lps_terms.specs.Put.{put, put-Int, put-Sym, put-App}
use Rattle.lps_terms.specs.Symbols.{symbols_of, symbols_of_all, symbols_of_all-cons, symbols_of-App, symbols_of-Var}
use Rattle.lps_derivation.specs.Expressions.{put_expr, put_expr-Leaf, put_expr-Apply, expr_symbols_of, expr_symbols_of-Leaf, expr_symbols_of-Apply, expr_ind}
use Rattle.lps_derivation.specs.Instances.{IsSmallBuilt, IsSmallCond, put_built, put_cond}

pub one_symbol : (x : Term) → 1 ≤ symbols_of x
one_symbol x = omega (arith, symbols_of-args x)

module _ (s : ℕ → Term) where
  abbrev Grows : Term → Type 0
  Grows x = symbols_of x ≤ symbols_of (put s x)

  grows_all : (ts : List Term) → AllByRecursion Grows ts → symbols_of_all ts ≤ symbols_of_all (map (put s) ts)
  grows_all [] is = omega arith
  grows_all (x ∷ xs) is =
      let one = is.0 in let rest = grows_all xs is.1 in
      omega (arith, one, rest, symbols_of_all-cons x xs, symbols_of_all-cons (put s x) (map (put s) xs))

  pub grows : (x : Term) → Grows x
  grows = term_ind Grows
      (λ z. omega (arith, ap symbols_of (put-Int s z)))
      (λ n. omega (arith, ap symbols_of (put-Sym s n)))
      (λ n ts is. let all = grows_all ts is in omega (arith, all, symbols_of-App n ts, ap symbols_of (put-App s n ts), symbols_of-App n (map (put s) ts)))
      (λ v. let one = one_symbol (put s (t.Var v)) in omega (arith, one, symbols_of-Var v))

  every : (ts : List Term) → AllByRecursion Grows ts
  every [] = tt
  every (x ∷ xs) = (grows x, every xs)

  pub grows_list : (ts : List Term) → symbols_of_all ts ≤ symbols_of_all (map (put s) ts)
  grows_list ts = grows_all ts (every ts)

  pub grows_expr : (x : Expr) → expr_symbols_of x ≤ expr_symbols_of (put_expr s x)
  grows_expr = expr_ind (λ x. expr_symbols_of x ≤ expr_symbols_of (put_expr s x))
      (λ x. let one = grows x in omega (arith, one, expr_symbols_of-Leaf x, ap expr_symbols_of (put_expr-Leaf s x), expr_symbols_of-Leaf (put s x)))
      (λ op x y one two.
      omega (arith, one, two, expr_symbols_of-Apply op x y, ap expr_symbols_of (put_expr-Apply s op x y), expr_symbols_of-Apply op (put_expr s x) (put_expr s y)))

  small_built : (x : Built) → IsSmallBuilt (put_built s x) → IsSmallBuilt x
  small_built (b.Same x y) h = ((let less = grows x in let most = h.0 in omega (arith, less, most)), (let less = grows y in let most = h.1 in omega (arith, less, most)))
  small_built (b.Differ x y) h = ((let less = grows x in let most = h.0 in omega (arith, less, most)), (let less = grows y in let most = h.1 in omega (arith, less, most)))
  small_built (b.Is x y) h = ((let less = grows x in let most = h.0 in omega (arith, less, most)), (let less = grows_expr y in let most = h.1 in omega (arith, less, most)))
  small_built (b.Compare rel x y) h = ((let less = grows_expr x in let most = h.0 in omega (arith, less, most)), (let less = grows_expr y in let most = h.1 in omega (arith, less, most)))

  -- what is small with terms put in is small without them
  pub small_before : (x : Cond) → IsSmallCond (put_cond s x) → IsSmallCond x
  small_before (c.Lit l) h = let less = grows_list l.atom.args in let most : 1 + symbols_of_all (map (put s) l.atom.args) ≤ 1024 = h in omega (arith, less, most)
  small_before (c.Built x) h = small_built x h

-- one of some terms has no more symbols than all of them
pub each_small : (most : ℕ) (xs : List Term) → symbols_of_all xs ≤ most → AllByRecursion (λ x. symbols_of x ≤ most) xs
each_small most [] h = tt
each_small most (x ∷ xs) h = (omega (arith, h, symbols_of_all-cons x xs), each_small most xs (omega (arith, h, symbols_of_all-cons x xs)))

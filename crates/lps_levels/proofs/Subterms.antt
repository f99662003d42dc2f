-- Terms inside others, by the arguments.
use Rattle.std.proofs.Common.{◌≡◌, ℕ, ◌≤◌, suc, zero, ◌||◌, List, [], ◌∷◌, refl, ap, ◌∙◌, arith}
use Rattle.std.specs.List.{list_any}
use Rattle.lps_terms.specs.declared.term.Term.{Term}
use Rattle.lps_terms.specs.Order.{args_of, term_eq}
use Rattle.lps_terms.specs.OrderLaws.{symbols_of-args}
use Rattle.lps_terms.specs.Symbols.{symbols_of, symbols_of_all, symbols_of_all-cons}
use Rattle.lps_model.specs.Calls.{is_inside, is_inside_within}

-- depths that both suffice
module _ (inner : Term) (n m : ℕ) (one : (x : Term) → symbols_of x ≤ n → symbols_of x ≤ m → is_inside_within n inner x ≡ is_inside_within m inner x) where
  stable_all : (xs : List Term) → symbols_of_all xs ≤ n → symbols_of_all xs ≤ m
      → list_any (λ arg. term_eq inner arg || is_inside_within n inner arg) xs ≡ list_any (λ arg. term_eq inner arg || is_inside_within m inner arg) xs
  stable_all [] p q = refl
  stable_all (x ∷ xs) p q =
      let first = one x (omega (arith, symbols_of_all-cons x xs, p)) (omega (arith, symbols_of_all-cons x xs, q)) in
      let rest = stable_all xs (omega (arith, symbols_of_all-cons x xs, p)) (omega (arith, symbols_of_all-cons x xs, q)) in
      λ i. (term_eq inner x || first i) || rest i

stable : (inner : Term) (n m : ℕ) (x : Term) → symbols_of x ≤ n → symbols_of x ≤ m → is_inside_within n inner x ≡ is_inside_within m inner x
stable inner zero m x p q = absurd (omega (arith, p, symbols_of-args x))
stable inner (suc n) zero x p q = absurd (omega (arith, q, symbols_of-args x))
stable inner (suc n) (suc m) x p q = stable_all inner n m (stable inner n m) (args_of x) (omega (arith, p, symbols_of-args x)) (omega (arith, q, symbols_of-args x))

to_own : (inner : Term) (n : ℕ) (xs : List Term) → symbols_of_all xs ≤ n
    → list_any (λ arg. term_eq inner arg || is_inside_within n inner arg) xs ≡ list_any (λ arg. term_eq inner arg || is_inside inner arg) xs
to_own inner n [] p = refl
to_own inner n (x ∷ xs) p =
    let first = stable inner n (symbols_of x) x (omega (arith, symbols_of_all-cons x xs, p)) (omega arith) in
    let rest = to_own inner n xs (omega (arith, symbols_of_all-cons x xs, p)) in
    λ i. (term_eq inner x || first i) || rest i

-- a term is inside another where it is an argument, or inside one
pub is_inside-args : (inner outer : Term) → is_inside inner outer ≡ list_any (λ arg. term_eq inner arg || is_inside inner arg) (args_of outer)
is_inside-args inner outer =
    let more : symbols_of outer ≡ suc (symbols_of_all (args_of outer)) = omega (arith, symbols_of-args outer) in
    ap (λ n. is_inside_within n inner outer) more ∙ to_own inner (symbols_of_all (args_of outer)) (args_of outer) (omega arith)

-- Going over the arguments of a function one by one.
use Rattle.std.proofs.Common.{ℕ, ◌≡◌, ◌+◌, ◌<◌, ◌≤◌, List, [], ◌∷◌, ◌++◌, map, get_or, length, take, refl, sym, ap, ◌∙◌, arith}
use Rattle.std.specs.Prelude.{zero, suc, sum_by}
use Rattle.std.proofs.lemmas.List.Sums.{sum_by-cons, get_or-le-sum_by}
use Rattle.lps_terms.specs.declared.term.Term.{Term}
use Rattle.lps_terms.specs.declared.term.Term.TheVariants as t
use Rattle.lps_terms.specs.Put.{put, put-App}
use Rattle.lps_terms.specs.Symbols.{symbols_of, symbols_of-App}
use Rattle.lps_unify.specs.Weights.{weigh, size, occurrences, outside, IsWithin, weigh-App, size-App}
use Rattle.lps_unify.proofs.Sums.{sum_by_map}

pub take_whole : {X : Type 0} (i : ℕ) (xs : List X) → length xs ≤ i → take i xs ≡ xs
take_whole zero [] h = refl
take_whole zero (x ∷ xs) h = absurd (omega arith)
take_whole (suc i) [] h = refl
take_whole (suc i) (x ∷ xs) h = ap (λ ys. x ∷ ys) (take_whole i xs (omega arith))

map_suc : (f : Term → Term) (i : ℕ) (xs : List Term) (y : Term) → i < length xs → y ≡ get_or xs i y → map f (take (suc i) xs) ≡ map f (take i xs) ++ f y ∷ []
map_suc f i [] y lt at = absurd (omega arith)
map_suc f zero (x ∷ xs) y lt at = ap (λ z. f z ∷ []) (sym at)
map_suc f (suc i) (x ∷ xs) y lt at = ap (λ ys. f x ∷ ys) (map_suc f i xs y (omega arith) at)

-- one item more
pub map_more : (f : Term → Term) (i : ℕ) (xs : List Term) (y : Term) → i < length xs → y ≡ get_or xs i y → map f (take (i + 1) xs) ≡ map f (take i xs) ++ f y ∷ []
map_more f i xs y lt at = let next : i + 1 ≡ suc i = omega arith in ap (λ k. map f (take k xs)) next ∙ map_suc f i xs y lt at

sum_suc : (f : Term → ℕ) (i : ℕ) (xs : List Term) (y : Term) → i < length xs → y ≡ get_or xs i y → sum_by f (take (suc i) xs) ≡ sum_by f (take i xs) + f y
sum_suc f i [] y lt at = absurd (omega arith)
sum_suc f zero (x ∷ xs) y lt at = omega (arith, sum_by-cons f x [], ap f at)
sum_suc f (suc i) (x ∷ xs) y lt at =
    let rest = sum_suc f i xs y (omega arith) at in omega (arith, rest, sum_by-cons f x (take (suc i) xs), sum_by-cons f x (take i xs))

pub sum_more : (f : Term → ℕ) (i : ℕ) (xs : List Term) (y : Term) → i < length xs → y ≡ get_or xs i y → sum_by f (take (i + 1) xs) ≡ sum_by f (take i xs) + f y
sum_more f i xs y lt at = let next : i + 1 ≡ suc i = omega arith in ap (λ k. sum_by f (take k xs)) next ∙ sum_suc f i xs y lt at

-- a part of a sum
pub sum_part : (f : Term → ℕ) (i : ℕ) (xs : List Term) → sum_by f (take i xs) ≤ sum_by f xs
sum_part f zero xs = omega arith
sum_part f (suc i) [] = omega arith
sum_part f (suc i) (x ∷ xs) = let rest = sum_part f i xs in omega (arith, rest, sum_by-cons f x xs, sum_by-cons f x (take i xs))

module _ (x : Term) (n : List ℕ) (ts items : List Term) (is : x ≡ t.App n ts) (same : items ≡ ts) where
  pub weigh_whole : (f : ℕ → ℕ) → weigh f x ≡ sum_by (weigh f) items
  weigh_whole f = ap (weigh f) is ∙ weigh-App f n ts ∙ ap (sum_by (weigh f)) (sym same)

  pub size_whole : (f : ℕ → ℕ) → size f x ≡ 1 + sum_by (size f) items
  size_whole f = ap (size f) is ∙ size-App f n ts ∙ ap (λ ys. 1 + sum_by (size f) ys) (sym same)

  pub put_whole : (r : ℕ → Term) → put r x ≡ t.App n (map (put r) items)
  put_whole r = ap (put r) is ∙ put-App r n ts ∙ ap (λ ys. t.App n (map (put r) ys)) (sym same)

  pub symbols_whole : (r : ℕ → Term) → symbols_of (put r x) ≡ 1 + sum_by (λ y. symbols_of (put r y)) items
  symbols_whole r = ap symbols_of (put_whole r) ∙ symbols_of-App n (map (put r) items) ∙ ap (λ k. 1 + k) (sum_by_map symbols_of (put r) items)

  pub occurs_whole : (v : ℕ) (r : ℕ → Term) → occurrences v (put r x) ≡ sum_by (λ y. occurrences v (put r y)) items
  occurs_whole v r = ap (occurrences v) (put_whole r) ∙ weigh-App _ n (map (put r) items) ∙ sum_by_map (occurrences v) (put r) items

  -- an argument
  module _ (i : ℕ) (y : Term) (lt : i < length items) (at : y ≡ get_or items i y) where
    pub within_arg : (count : ℕ) → IsWithin count x → IsWithin count y
    within_arg count h =
        let part = get_or-le-sum_by (weigh (outside count)) items i y lt in
        omega (arith, part, h, weigh_whole (outside count), ap (weigh (outside count)) at)

    pub smaller_arg : (f : ℕ → ℕ) → size f y < size f x
    smaller_arg f = let part = get_or-le-sum_by (size f) items i y lt in omega (arith, part, size_whole f, ap (size f) at)

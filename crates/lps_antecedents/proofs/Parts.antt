-- Lists whose first elements are changed so far.
use Rattle.std.proofs.Common.{ℕ, zero, suc, ◌≡◌, ◌<◌, ◌≤◌, ◌+◌, List, [], ◌∷◌, length, map, set, get_or, refl, ap, subst, arith}

module _ {X : Type 0} (f : X → X) where
  abbrev pub part : ℕ → List X → List X
  part zero xs = xs
  part (suc n) [] = []
  part (suc n) (x ∷ xs) = f x ∷ part n xs

  pub part_length : (n : ℕ) (xs : List X) → length (part n xs) ≡ length xs
  part_length zero xs = refl
  part_length (suc n) [] = refl
  part_length (suc n) (x ∷ xs) = ap suc (part_length n xs)

  pub part_item : (n : ℕ) (xs : List X) (d : X) → get_or (part n xs) n d ≡ get_or xs n d
  part_item zero xs d = refl
  part_item (suc n) [] d = refl
  part_item (suc n) (x ∷ xs) d = part_item n xs d

  pub part_set : (n : ℕ) (xs : List X) (y d : X) → n < length xs → y ≡ f (get_or xs n d) → set (part n xs) n y ≡ part (n + 1) xs
  part_set n xs y d lt is = let next : suc n ≡ n + 1 = omega arith in subst (λ m. set (part n xs) n y ≡ part m xs) next (by n xs lt is)
    where
      by : (n : ℕ) (xs : List X) → n < length xs → y ≡ f (get_or xs n d) → set (part n xs) n y ≡ part (suc n) xs
      by zero [] lt is = absurd (omega (arith, lt))
      by zero (x ∷ xs) lt is = ap (λ z. z ∷ xs) is
      by (suc n) [] lt is = absurd (omega (arith, lt))
      by (suc n) (x ∷ xs) lt is = ap (λ zs. f x ∷ zs) (by n xs (omega (arith, lt)) is)

  pub part_all : (n : ℕ) (xs : List X) → length xs ≤ n → part n xs ≡ map f xs
  part_all zero [] le = refl
  part_all zero (x ∷ xs) le = absurd (omega (arith, le))
  part_all (suc n) [] le = refl
  part_all (suc n) (x ∷ xs) le = ap (λ zs. f x ∷ zs) (part_all n xs (omega (arith, le)))

-- Sums over lists, and the parts of a sum by the numbers that elements have.
use Rattle.std.proofs.Common.{ℕ, suc, ◌≡◌, ◌≤◌, ◌<◌, ◌+◌, ◌⊎◌, ◌∙◌, Bool, true, false, cond, eqb, ltb, List, [], ◌∷◌, length, refl, sym, ap, subst, arith, inl, inr}
use Rattle.std.specs.Prelude.{Contains, Some, slice_get, sum, sum_by}
use Rattle.std.specs.declared.cmp.Ordering.TheVariants.{Less}
use Rattle.std.specs.List.{AllByRecursion, AllZip}
use Rattle.std.specs.List.Sorted.{IsStrictlySortedBy}
use Rattle.std.specs.Ordering.{nat_cmp, on}
use Rattle.std.proofs.lemmas.Bool.{eqb-false, eqb-true}
use Rattle.std.proofs.lemmas.List.Sums.{sum_by-cons}
use Rattle.lps_model.specs.Rules.{numbered}
use Rattle.lps_model.proofs.Elements.{first_is_contained, first_or_later, later_is_contained, nothing_contained}

pub nothing_more : (n : ℕ) → 0 + n ≡ n
nothing_more n = omega arith

module _ {X : Type 0} where
  pub sum_same : (f g : X → ℕ) (xs : List X) → ((x : X) → Contains xs x → f x ≡ g x) → sum_by f xs ≡ sum_by g xs
  sum_same f g [] each = refl
  sum_same f g (x ∷ xs) each =
      let rest = sum_same f g xs (λ y h. each y (later_is_contained x xs y h)) in
      omega (arith, rest, each x (first_is_contained x xs), sum_by-cons f x xs, sum_by-cons g x xs)

  pub sum_of_both : (f g h : X → ℕ) (xs : List X) → ((x : X) → f x ≡ g x + h x) → sum_by f xs ≡ sum_by g xs + sum_by h xs
  sum_of_both f g h [] each = refl
  sum_of_both f g h (x ∷ xs) each =
      let rest = sum_of_both f g h xs each in
      omega (arith, rest, each x, sum_by-cons f x xs, sum_by-cons g x xs, sum_by-cons h x xs)

  module _ (number size : X → ℕ) where
    -- the size of an element that has this number
    abbrev pub at : ℕ → X → ℕ
    at n x = cond (eqb (number x) n) (size x) 0

    -- the size of an element whose number is above this one
    abbrev above : ℕ → X → ℕ
    above k x = cond (ltb k (number x)) (size x) 0

    above_next : (k : ℕ) (x : X) → above k x ≡ at (suc k) x + above (suc k) x
    above_next k x = grind arith

    above_all : (k : ℕ) (x : X) → k < number x → above k x ≡ size x
    above_all k x lt = grind arith

    above_none : (k : ℕ) (x : X) → number x ≤ k → above k x ≡ 0
    above_none k x le = grind arith

    -- the size of those with each number from k + 1, as many numbers as the other list is long
    abbrev pub by_number : {Y : Type 0} → List X → ℕ → List Y → List ℕ
    by_number xs k [] = []
    by_number xs k (y ∷ ys) = sum_by (at (suc k)) xs ∷ by_number xs (suc k) ys

    sums_from : {Y : Type 0} (xs : List X) (k : ℕ) (ys : List Y) → sum (by_number xs k ys) + sum_by (above (k + length ys)) xs ≡ sum_by (above k) xs
    sums_from xs k [] = nothing_more (sum_by (above (k + 0)) xs) ∙ ap (λ n. sum_by (above n) xs) (none_more k)
      where
        none_more : (k : ℕ) → k + 0 ≡ k
        none_more k = omega arith
    sums_from xs k (y ∷ ys) =
        let here = sum_by-cons (λ n. n) (sum_by (at (suc k)) xs) (by_number xs (suc k) ys) in
        let rest = sums_from xs (suc k) ys in
        let both = sum_of_both (above k) (at (suc k)) (above (suc k)) xs (above_next k) in
        let same : sum_by (above (k + suc (length ys))) xs ≡ sum_by (above (suc k + length ys)) xs = ap (λ n. sum_by (above n) xs) (next k (length ys)) in
        omega (arith, here, rest, both, same)
      where
        next : (k n : ℕ) → k + suc n ≡ suc k + n
        next k n = omega arith

    -- Where each element has the number of an element of the other list, the sum is that of the sums by number.
    pub sum_by_number : {Y : Type 0} (xs : List X) (ys : List Y) → ((x : X) → Contains xs x → (0 < number x) × (number x ≤ length ys)) → sum (by_number xs 0 ys) ≡ sum_by size xs
    sum_by_number xs ys within =
        let all = sums_from xs 0 ys in
        let none : sum_by (above (0 + length ys)) xs ≡ sum_by (λ x. 0) xs = sum_same (above (0 + length ys)) (λ x. 0) xs (λ x h. above_none (0 + length ys) x (omega (arith, (within x h).1))) in
        let whole : sum_by (above 0) xs ≡ sum_by size xs = sum_same (above 0) size xs (λ x h. above_all 0 x (within x h).0) in
        omega (arith, all, none, whole, sum_of_none xs)
      where
        sum_of_none : (xs : List X) → sum_by (λ x. 0) xs ≡ 0
        sum_of_none [] = refl
        sum_of_none (x ∷ xs) = let rest = sum_of_none xs in omega (arith, rest, sum_by-cons (λ x. 0) x xs)

    -- what holds of each sum by number holds element by element
    module _ {Y : Type 0} (P : Y → ℕ → Type 0) (xs : List X) where
      zipped_from : (k : ℕ) (ys : List Y) → ((n j : ℕ) (y : Y) → n ≡ suc (k + j) → slice_get ys j ≡ Some y → P y (sum_by (at n) xs)) → AllZip P ys (by_number xs k ys)
      zipped_from k [] each = tt
      zipped_from k (y ∷ ys) each = (each (suc k) 0 y (first k) refl, zipped_from (suc k) ys (λ n j z is at. each n (suc j) z (is ∙ later k j) at))
        where
          first : (k : ℕ) → suc k ≡ suc (k + 0)
          first k = omega arith

          later : (k j : ℕ) → suc (suc k + j) ≡ suc (k + suc j)
          later k j = omega arith

      pub zipped_by_number : (ys : List Y) → ((n : ℕ) (y : Y) → numbered ys n ≡ Some y → P y (sum_by (at n) xs)) → AllZip P ys (by_number xs 0 ys)
      zipped_by_number ys each = zipped_from 0 ys (λ n j y is at. each n y (subst (λ m. numbered ys m ≡ Some y) (sym (is ∙ simple j)) at))
        where
          simple : (j : ℕ) → suc (0 + j) ≡ suc j
          simple j = omega arith

    -- ---- where numbers rise

    none_above : (n k : ℕ) (xs : List X) → n ≤ k → AllByRecursion (λ x. nat_cmp k (number x) ≡ Less) xs → sum_by (at n) xs ≡ 0
    none_above n k [] le all = refl
    none_above n k (x ∷ xs) le all =
        let rest = none_above n k xs le all.1 in
        omega (arith, rest, not_this (less k (number x) all.0), sum_by-cons (at n) x xs)
      where
        less : (k m : ℕ) → nat_cmp k m ≡ Less → k < m
        less k m e = grind arith

        not_this : k < number x → at n x ≡ 0
        not_this lt = grind arith

    -- at most one has a number, which is then the sum for it
    pub one_number : (n : ℕ) (xs : List X) → IsStrictlySortedBy (on number nat_cmp) xs →
        ((x : X) × Contains xs x × (number x ≡ n) × (sum_by (at n) xs ≡ size x)) ⊎ (((x : X) → Contains xs x → number x ≡ n → ⊥) × (sum_by (at n) xs ≡ 0))
    unfolding IsStrictlySortedBy
    one_number n [] sorted = inr (λ x h. absurd (nothing_contained x h), refl)
    one_number n (x ∷ xs) sorted = by (eqb (number x) n) refl (one_number n xs sorted.1)
      where
        by : (b : Bool) → eqb (number x) n ≡ b →
            (((y : X) × Contains xs y × (number y ≡ n) × (sum_by (at n) xs ≡ size y)) ⊎ (((y : X) → Contains xs y → number y ≡ n → ⊥) × (sum_by (at n) xs ≡ 0))) →
            ((y : X) × Contains (x ∷ xs) y × (number y ≡ n) × (sum_by (at n) (x ∷ xs) ≡ size y)) ⊎ (((y : X) → Contains (x ∷ xs) y → number y ≡ n → ⊥) × (sum_by (at n) (x ∷ xs) ≡ 0))
        by true is rest =
            let same = eqb-true (number x) n is in
            let none = none_above n (number x) xs (omega (arith, same)) sorted.0 in
            inl (x, first_is_contained x xs, same, sum_by-cons (at n) x xs ∙ whole (ap (λ b. cond b (size x) 0) is) none)
          where
            whole : at n x ≡ size x → sum_by (at n) xs ≡ 0 → at n x + sum_by (at n) xs ≡ size x
            whole e none = omega (arith, e, none)
        by false is rest =
            let skip : sum_by (at n) (x ∷ xs) ≡ sum_by (at n) xs = sum_by-cons (at n) x xs ∙ ap (λ b. cond b (size x) 0 + sum_by (at n) xs) is ∙ nothing_more (sum_by (at n) xs) in
            elim rest [
              | inl m ↦ inl (m.0, later_is_contained x xs m.0 m.1, m.2, skip ∙ m.3)
              | inr none ↦ inr (
                λ y h same. elim (first_or_later x xs y h) [
                  | inl first ↦ eqb-false (number x) n is (ap number first ∙ same)
                  | inr later ↦ none.0 y later same
                ],
                skip ∙ none.1,
              )
            ]

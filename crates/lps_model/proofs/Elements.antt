-- Elements of lists, and lists that their elements determine.
use Rattle.std.proofs.Common.{◌≡◌, ℕ, zero, suc, ◌<◌, List, [], ◌∷◌, ◌++◌, length, refl, sym, ap, ◌∙◌, arith, inl, inr}
use Rattle.std.specs.Prelude.{◌⊎◌, Contains, slice_index_or, slice_get}
use Rattle.std.specs.declared.cmp.Ordering.{Ordering}
use Rattle.std.specs.declared.cmp.Ordering.TheVariants.{Less, Equal, Greater}
use Rattle.std.specs.Cmp.{IsTotalOrder}
use Rattle.std.specs.List.Sorted.{IsStrictlySortedBy}
use Rattle.std.specs.Ordering.{ordering_reverse}
use Rattle.std.proofs.lemmas.Cmp.{tied_itself}
use Rattle.std.proofs.lemmas.Map.Keys.{sorted_head, sorted_tail}
use Rattle.std.proofs.lemmas.List.Elements.{All-from_recursion, All-contains}

at_place : {X : Type 0} (x : X) (xs : List X) (q : X) (k : ℕ) → k < length (x ∷ xs) → slice_index_or (x ∷ xs) k q ≡ q → (x ≡ q) ⊎ Contains xs q
at_place x xs q zero lt e = inl e
at_place x xs q (suc k) lt e = inr (k, omega arith, e)

-- an element is the first or one of the rest
pub first_or_later : {X : Type 0} (x : X) (xs : List X) (q : X) → Contains (x ∷ xs) q → (x ≡ q) ⊎ Contains xs q
first_or_later x xs q c = at_place x xs q c.0 c.1 c.2

pub first_is_contained : {X : Type 0} (x : X) (xs : List X) → Contains (x ∷ xs) x
first_is_contained x xs = (0, omega arith, refl)

pub later_is_contained : {X : Type 0} (x : X) (xs : List X) (q : X) → Contains xs q → Contains (x ∷ xs) q
later_is_contained x xs q c = (suc c.0, omega (arith, c.1), c.2)

pub nothing_contained : {X : Type 0} (q : X) → Contains [] q → ⊥
nothing_contained q c = omega (arith, c.1)

-- what stands before one more element
pub slice_get-push : {X : Type 0} (xs : List X) (y : X) (k : ℕ) → k < length xs → slice_get (xs ++ y ∷ []) k ≡ slice_get xs k
slice_get-push [] y k lt = absurd (omega arith)
slice_get-push (x ∷ xs) y zero lt = refl
slice_get-push (x ∷ xs) y (suc k) lt = slice_get-push xs y k (omega arith)

module _ {K : Type 0} {cmp : K → K → Ordering} (total : IsTotalOrder cmp) (ties : (x y : K) → cmp x y ≡ Equal → x ≡ y) where
  not_below : (x y : K) → cmp x y ≡ Less → x ≡ y → ⊥
  not_below x y less same = let tie : cmp x y ≡ Equal = (λ i. cmp x ((sym same) i)) ∙ tied_itself total x in cc (less, tie)

  above_first : (x : K) (xs : List K) (q : K) → IsStrictlySortedBy cmp (x ∷ xs) → Contains xs q → cmp x q ≡ Less
  above_first x xs q s c = All-contains (λ y. cmp x y ≡ Less) xs q (All-from_recursion (λ y. cmp x y ≡ Less) xs (sorted_head cmp x xs s)) c

  rest_within : (x y : K) (xs ys : List K) → x ≡ y → IsStrictlySortedBy cmp (x ∷ xs) → ((q : K) → Contains (x ∷ xs) q → Contains (y ∷ ys) q) → (q : K) → Contains xs q → Contains ys q
  rest_within x y xs ys same s within q c =
      elim (first_or_later y ys q (within q (later_is_contained x xs q c))) [
        | inl e ↦ absurd (not_below x q (above_first x xs q s c) (same ∙ e))
        | inr later ↦ later
      ]

  -- the first element of the one list is not below that of the other
  first_not_below : (x y : K) (xs ys : List K) → IsStrictlySortedBy cmp (y ∷ ys) → ((q : K) → Contains (x ∷ xs) q → Contains (y ∷ ys) q) → cmp x y ≡ Less → ⊥
  first_not_below x y xs ys t within less =
      elim (first_or_later y ys x (within x (first_is_contained x xs))) [
        | inl e ↦ not_below x y less (sym e)
        | inr later ↦ let over : cmp y x ≡ Less = above_first y ys x t later in
            let under : cmp x y ≡ Greater = total.antisymm x y ∙ ap ordering_reverse over in cc (less, under)
      ]

  -- two strictly sorted lists with the same elements are one list
  pub sorted_same : (xs ys : List K) → IsStrictlySortedBy cmp xs → IsStrictlySortedBy cmp ys →
      ((q : K) → Contains xs q → Contains ys q) → ((q : K) → Contains ys q → Contains xs q) → xs ≡ ys
  sorted_same [] [] s t within back = refl
  sorted_same [] (y ∷ ys) s t within back = absurd (nothing_contained y (back y (first_is_contained y ys)))
  sorted_same (x ∷ xs) [] s t within back = absurd (nothing_contained x (within x (first_is_contained x xs)))
  sorted_same (x ∷ xs) (y ∷ ys) s t within back =
      by (cmp x y) refl (λ same. sorted_same xs ys (sorted_tail cmp x xs s) (sorted_tail cmp y ys t) (rest_within x y xs ys same s within) (rest_within y x ys xs (sym same) t back))
    where
      by : (o : Ordering) → cmp x y ≡ o → (x ≡ y → xs ≡ ys) → x ∷ xs ≡ y ∷ ys
      by Less e rest = absurd (first_not_below x y xs ys t within e)
      by Greater e rest = absurd (first_not_below y x ys xs s back (total.antisymm y x ∙ ap ordering_reverse e))
      by Equal e rest = let same : x ≡ y = ties x y e in let more : xs ≡ ys = rest same in λ i. same i ∷ more i

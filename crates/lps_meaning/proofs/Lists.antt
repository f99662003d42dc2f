-- Small laws of lists and tests.
use Rattle.std.proofs.Common.{ℕ, suc, ◌≡◌, Bool, true, false, List, [], ◌∷◌, refl, cond, subst, zero}
use Rattle.std.specs.Prelude.{◌-◌, ◌&&◌, ◌||◌, Contains, Some}
use Rattle.std.specs.List.{list_all, AllByRecursion, filter, flat_map}
use Rattle.std.proofs.lemmas.List.Elements.{All-contains, All-from_recursion}
use Rattle.lps_model.proofs.Elements.{first_is_contained, later_is_contained}
use Rattle.lps_model.specs.Rules.{numbered}
use Rattle.lps_meaning.proofs.Occurrences.{all_joined}

pub both : (left right : Bool) → (left && right) ≡ true → (left ≡ true) × (right ≡ true)
both true true e = (refl, refl)
both true false e = absurd cc
both false true e = absurd cc
both false false e = absurd cc

pub neither : (left right : Bool) → (left || right) ≡ false → (left ≡ false) × (right ≡ false)
neither true right e = absurd cc
neither false right e = (refl, e)

pub all_listed : {X : Type 0} (test : X → Bool) (xs : List X) → list_all test xs ≡ true → AllByRecursion (λ x. test x ≡ true) xs
all_listed test [] all = tt
all_listed test (x ∷ xs) all = let parts = both (test x) (list_all test xs) all in (parts.0, all_listed test xs parts.1)

pub of_element : {X : Type 0} (P : X → Type 0) (xs : List X) (x : X) → AllByRecursion P xs → Contains xs x → P x
of_element P xs x h among = All-contains P xs x (All-from_recursion P xs h) among

pub of_each : {X : Type 0} (P : X → Type 0) (xs : List X) → ((x : X) → Contains xs x → P x) → AllByRecursion P xs
of_each P [] h = tt
of_each P (x ∷ xs) h = (h x (first_is_contained x xs), of_each P xs (λ y among. h y (later_is_contained x xs y among)))

pub of_filter : {X : Type 0} (P : X → Type 0) (test : X → Bool) (xs : List X) → AllByRecursion P xs → AllByRecursion P (filter test xs)
of_filter P test [] h = tt
of_filter P test (x ∷ xs) h = by (test x) (of_filter P test xs h.1) where
  by : (passes : Bool) → AllByRecursion P (filter test xs) → AllByRecursion P (cond passes (x ∷ filter test xs) (filter test xs))
  by true rest = (h.0, rest)
  by false rest = rest

pub of_flat : {X Y : Type 0} (P : X → Type 0) (Q : Y → Type 0) (f : X → List Y) → ((x : X) → P x → AllByRecursion Q (f x)) → (xs : List X) → AllByRecursion P xs → AllByRecursion Q (flat_map f xs)
of_flat P Q f each [] h = tt
of_flat P Q f each (x ∷ xs) h = all_joined Q (f x) (flat_map f xs) (each x h.0) (of_flat P Q f each xs h.1)

-- element n is contained
pub number_contained : {X : Type 0} (xs : List X) (n : ℕ) (x : X) → numbered xs n ≡ Some x → Contains xs x
number_contained xs zero x e = absurd cc
number_contained [] (suc n) x e = absurd cc
number_contained (y ∷ xs) (suc zero) x e = subst (Contains (y ∷ xs)) (some_same e) (first_is_contained y xs) where
  some_same : {X : Type 0} {a b : X} → Some a ≡ Some b → a ≡ b
  some_same e = cc
number_contained (y ∷ xs) (suc (suc n)) x e = later_is_contained y xs x (number_contained xs (suc n) x e)

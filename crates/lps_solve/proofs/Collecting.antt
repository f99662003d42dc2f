-- Variables that are collected item by item.
use Rattle.std.proofs.Common.{ℕ, ◌≡◌, ◌+◌, ◌≤◌, ◌<◌, List, [], ◌∷◌, ◌++◌, take, length, get_or, refl, sym, ap, ◌∙◌, arith, subst}
use Rattle.std.specs.Ordering.{nat_cmp}
use Rattle.std.specs.BTreeSet.{insert_key}
use Rattle.std.specs.List.{AllByRecursion, flat_map}
use Rattle.std.proofs.lemmas.Grind.{flat_map-append}
use Rattle.lps_unify.proofs.Keeping.{append_none}
use Rattle.lps_solve.specs.Answers.{with_vars}
use Rattle.std.specs.Prelude.{Result, OnOk}
use Rattle.lps_solve.proofs.Results.{OnOk-map}
use Rattle.lps_solve.proofs.Gaining.{take_more}
use Rattle.lps_solve.proofs.Vars.{all_append, all_weaker}

pub flat_more : {X A : Type 0} (f : X → List A) (i : ℕ) (xs : List X) (y : X) → i < length xs → y ≡ get_or xs i y → flat_map f (take (i + 1) xs) ≡ flat_map f (take i xs) ++ f y
flat_more f i xs y lt is = ap (flat_map f) (take_more i xs y lt is) ∙ flat_map-append f (take i xs) (y ∷ []) ∙ ap (λ zs. flat_map f (take i xs) ++ zs) (append_none (f y))

-- numbers that are below n or below m are below any number from both on
pub both_below : (n m r : ℕ) (xs ys zs : List ℕ) → zs ≡ xs ++ ys → n ≤ r → m ≤ r → AllByRecursion (λ v. v < n) xs → AllByRecursion (λ v. v < m) ys → AllByRecursion (λ v. v < r) zs
both_below n m r xs ys zs e p q one two =
    subst (AllByRecursion (λ v. v < r)) (sym e)
    (all_append (λ v. v < r) xs ys (all_weaker (λ v. v < n) (λ v. v < r) (λ v lt. omega (arith, lt, p)) xs one) (all_weaker (λ v. v < m) (λ v. v < r) (λ v lt. omega (arith, lt, q)) ys two))

pub with_append : (known xs ys : List ℕ) → with_vars known (xs ++ ys) ≡ with_vars (with_vars known xs) ys
with_append known [] ys = refl
with_append known (x ∷ xs) ys = with_append (insert_key nat_cmp known x) xs ys

-- some more variables are noted after others
pub with_both : (start mid end xs ys zs : List ℕ) → zs ≡ xs ++ ys → mid ≡ with_vars start xs → end ≡ with_vars mid ys → end ≡ with_vars start zs
with_both start mid end xs ys zs e one two = two ∙ ap (λ ks. with_vars ks ys) one ∙ sym (with_append start xs ys) ∙ ap (with_vars start) (sym e)

-- the same where the last step may have failed
pub with_both_ok : {T E : Type 0} (r : Result T E) (start mid end xs ys zs : List ℕ) → zs ≡ xs ++ ys → mid ≡ with_vars start xs → OnOk r (end ≡ with_vars mid ys) → OnOk r (end ≡ with_vars start zs)
with_both_ok r start mid end xs ys zs e one h = OnOk-map r (end ≡ with_vars mid ys) (end ≡ with_vars start zs) (λ two. with_both start mid end xs ys zs e one two) h

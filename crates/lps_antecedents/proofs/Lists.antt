-- Lists and sets of which it is known what they have.
use Rattle.std.proofs.Common.{ℕ, zero, suc, ◌≡◌, ◌<◌, ◌≤◌, List, [], ◌∷◌, ◌++◌, length, drop, get_or, ◌+◌, refl, sym, ap, subst, ◌∙◌, arith, inl, inr}
use Rattle.std.specs.Prelude.{◌⊎◌, ◌↔◌, Contains, Some, slice_get}
use Rattle.std.specs.declared.cmp.Ordering.{Ordering}
use Rattle.std.specs.declared.cmp.Ordering.TheVariants.{Less, Equal, Greater}
use Rattle.std.specs.BTreeSet.{insert_key}
use Rattle.std.specs.FinMap.{IsAntisymmetric}
use Rattle.std.specs.declared.result.Result.{Result}
use Rattle.std.specs.declared.result.Result.TheVariants.{Ok, Err}
use Rattle.std.specs.Result.{OnErr}
use Rattle.std.specs.Ordering.{match_ordering}
use Rattle.std.proofs.lemmas.List.Elements.{Contains-push, Contains-push_cases, Contains-append_left}
use Rattle.lps_model.specs.Rules.{numbered}
use Rattle.lps_model.proofs.Elements.{first_or_later, first_is_contained, later_is_contained, nothing_contained}
use Rattle.lps_meaning.proofs.Numbers.{some_same}
use Rattle.lps_antecedents.specs.declared.held.Held.{Held}
use Rattle.lps_antecedents.specs.Lists.{AreOnce, ByOne, Gains, HasExactly}
use Rattle.lps_antecedents.specs.Slots.{AreApart}

module _ {X : Type 0} where
  here : (x y : X) (xs : List X) → x ≡ y → Contains (y ∷ xs) x
  here x y xs e = subst (Contains (y ∷ xs)) (sym e) (first_is_contained y xs)

  cases : (y : X) (xs : List X) (x : X) → Contains (y ∷ xs) x → (x ≡ y) ⊎ Contains xs x
  cases y xs x h = elim (first_or_later y xs x h) [ inl e ↦ inl (sym e) | inr later ↦ inr later ]

  -- one that is there adds nothing
  pub gains_old : (xs : List X) (y : X) → Contains xs y → Gains xs xs (λ x. x ≡ y)
  gains_old xs y old = λ x. (λ h. inl h, λ h. elim h [ inl among ↦ among | inr e ↦ subst (Contains xs) (sym e) old ])

  pub gains_pushed : (xs : List X) (y : X) → Gains xs (xs ++ y ∷ []) (λ x. x ≡ y)
  gains_pushed xs y = λ x. (
    λ h. elim (Contains-push_cases xs y x h) [ inl old ↦ inl old | inr e ↦ inr (sym e) ],
    λ h. elim h [ inl old ↦ Contains-append_left xs (y ∷ []) x old | inr e ↦ subst (Contains (xs ++ y ∷ [])) (sym e) (Contains-push xs y) ],
  )

  pub gains_as : (old new : List X) (P Q : X → Type 0) → ((x : X) → P x ↔ Q x) → Gains old new P → Gains old new Q
  gains_as old new P Q same g = λ x. (
    λ h. elim ((g x).0 h) [ inl among ↦ inl among | inr p ↦ inr ((same x).0 p) ],
    λ h. elim h [ inl among ↦ (g x).1 (inl among) | inr q ↦ (g x).1 (inr ((same x).1 q)) ],
  )

  pub exactly_more : (old new : List X) (P Q R : X → Type 0) → HasExactly old P → Gains old new Q → ((x : X) → (P x ⊎ Q x) ↔ R x) → HasExactly new R
  exactly_more old new P Q R exact g all x = (
    λ h. elim ((g x).0 h) [ inl among ↦ (all x).0 (inl ((exact x).0 among)) | inr q ↦ (all x).0 (inr q) ],
    λ r. elim ((all x).1 r) [ inl p ↦ (g x).1 (inl ((exact x).1 p)) | inr q ↦ (g x).1 (inr q) ],
  )

  pub exactly_none : (xs : List X) (P : X → Type 0) → xs ≡ [] → ((x : X) → P x → ⊥) → HasExactly xs P
  exactly_none xs P none never x = (λ h. absurd (nothing_contained x (subst (λ zs. Contains zs x) none h)), λ p. absurd (never x p))

  pub at_contains : (xs : List X) (x : X) (i : ℕ) → slice_get xs i ≡ Some x → Contains xs x
  at_contains [] x i e = absurd cc
  at_contains (y ∷ xs) x zero e = let same : y ≡ x = cc in here x y xs (sym same)
  at_contains (y ∷ xs) x (suc i) e = later_is_contained y xs x (at_contains xs x i e)

  -- ---- a set with one more

  module _ (cmp : X → X → Ordering) (exact : IsAntisymmetric cmp) where
    pub gains_put : (xs : List X) (k : X) → Gains xs (insert_key cmp xs k) (λ x. x ≡ k)
    gains_put [] k = λ x. (
      λ h. elim (cases k [] x h) [ inl e ↦ inr e | inr none ↦ inl none ],
      λ h. elim h [ inl none ↦ absurd (nothing_contained x none) | inr e ↦ here x k [] e ],
    )
    gains_put (y ∷ ys) k = by (cmp k y) refl (gains_put ys k)
      where
        by : (o : Ordering) → cmp k y ≡ o → Gains ys (insert_key cmp ys k) (λ x. x ≡ k) → Gains (y ∷ ys) (match_ordering o (k ∷ y ∷ ys) (y ∷ ys) (y ∷ insert_key cmp ys k)) (λ x. x ≡ k)
        by Less e deeper = λ x. (
          λ h. elim (cases k (y ∷ ys) x h) [ inl same ↦ inr same | inr old ↦ inl old ],
          λ h. elim h [ inl old ↦ later_is_contained k (y ∷ ys) x old | inr same ↦ here x k (y ∷ ys) same ],
        )
        by Equal e deeper = λ x. (
          λ h. inl h,
          λ h. elim h [ inl old ↦ old | inr same ↦ here x y ys (same ∙ exact k y e) ],
        )
        by Greater e deeper = λ x. (
          λ h. elim (cases y (insert_key cmp ys k) x h) [
            | inl same ↦ inl (here x y ys same)
            | inr later ↦ elim ((deeper x).0 later) [ inl old ↦ inl (later_is_contained y ys x old) | inr same ↦ inr same ]
          ],
          λ h. elim h [
            | inl old ↦ elim (cases y ys x old) [
              | inl same ↦ here x y (insert_key cmp ys k) same
              | inr later ↦ later_is_contained y (insert_key cmp ys k) x ((deeper x).1 (inl later))
            ]
            | inr same ↦ later_is_contained y (insert_key cmp ys k) x ((deeper x).1 (inr same))
          ],
        )

  -- ---- one by one

  module _ {Y : Type 0} (R : Y → X → Type 0) where
    -- what the first gives is added: with what the others give there is what there was to be
    pub by_one_more : (old new : List X) (y : Y) (ys : List Y) (P : X → Type 0) → Gains old new (R y) → ((x : X) → (Contains old x ⊎ ByOne (y ∷ ys) R x) ↔ P x) →
        (x : X) → (Contains new x ⊎ ByOne ys R x) ↔ P x
    by_one_more old new y ys P g all x = (
      λ h. elim h [
        | inl among ↦ elim ((g x).0 among) [
          | inl before ↦ (all x).0 (inl before)
          | inr given ↦ (all x).0 (inr (y, first_is_contained y ys, given))
        ]
        | inr later ↦ (all x).0 (inr (later.0, later_is_contained y ys later.0 later.1, later.2))
      ],
      λ p. elim ((all x).1 p) [
        | inl before ↦ inl ((g x).1 (inl before))
        | inr one ↦ elim (first_or_later y ys one.0 one.1) [
          | inl e ↦ inl ((g x).1 (inr (subst (λ z. R z x) (sym e) one.2)))
          | inr later ↦ inr (one.0, later, one.2)
        ]
      ],
    )

    pub by_none : (new : List X) (ys : List Y) (P : X → Type 0) → length ys ≡ 0 → ((x : X) → (Contains new x ⊎ ByOne ys R x) ↔ P x) → HasExactly new P
    by_none new ys P none all x = (
      λ h. (all x).0 (inl h),
      λ p. elim ((all x).1 p) [ inl h ↦ h | inr one ↦ absurd (omega (arith, none, one.1.1)) ],
    )

-- ---- the rest of a list

pub rest_from : {Y : Type 0} (ys : List Y) (i : ℕ) (y : Y) → i < length ys → y ≡ get_or ys i y → drop i ys ≡ y ∷ drop (i + 1) ys
rest_from ys i y lt at = let next : suc i ≡ i + 1 = omega arith in subst (λ n. drop i ys ≡ y ∷ drop n ys) next (by ys i lt at)
  where
    by : {Y : Type 0} {y : Y} (ys : List Y) (i : ℕ) → i < length ys → y ≡ get_or ys i y → drop i ys ≡ y ∷ drop (suc i) ys
    by [] i lt at = absurd (omega (arith, lt))
    by (z ∷ ys) zero lt at = ap (λ w. w ∷ ys) (sym at)
    by (z ∷ ys) (suc i) lt at = by ys i (omega (arith, lt)) at

pub none_left : {Y : Type 0} (ys : List Y) (i : ℕ) → length ys ≤ i → length (drop i ys) ≡ 0
none_left [] zero le = refl
none_left [] (suc i) le = refl
none_left (y ∷ ys) zero le = absurd (omega (arith, le))
none_left (y ∷ ys) (suc i) le = none_left ys i (omega (arith, le))

-- ---- elements by number

pub one_at : {Y : Type 0} (ys : List Y) (i : ℕ) → i < length ys → (y : Y) × (numbered ys (i + 1) ≡ Some y)
one_at {Y} ys i lt = let next : suc i ≡ i + 1 = omega arith in subst (λ n. (y : Y) × (numbered ys n ≡ Some y)) next (by ys i lt)
  where
    by : {Y : Type 0} (ys : List Y) (i : ℕ) → i < length ys → (y : Y) × (numbered ys (suc i) ≡ Some y)
    by [] i lt = absurd (omega (arith, lt))
    by (y ∷ ys) zero lt = (y, refl)
    by (y ∷ ys) (suc i) lt = by ys i (omega (arith, lt))

pub number_within : {Y : Type 0} (ys : List Y) (n : ℕ) (y : Y) → numbered ys n ≡ Some y → (0 < n) × (n ≤ length ys)
number_within ys zero y at = absurd cc
number_within [] (suc n) y at = absurd cc
number_within (z ∷ ys) (suc zero) y at = (omega arith, omega arith)
number_within (z ∷ ys) (suc (suc n)) y at = let later = number_within ys (suc n) y at in (omega arith, omega (arith, later.1))

-- ---- each once, as no two are the same

pub once_apart : (xs : List Held) → AreApart xs → AreOnce xs
once_apart [] apart i j x at_i at_j = absurd cc
once_apart (y ∷ ys) apart zero zero x at_i at_j = refl
once_apart (y ∷ ys) apart zero (suc j) x at_i at_j = let same : y ≡ x = some_same at_i in absurd (apart.0 (subst (Contains ys) (sym same) (at_contains ys x j at_j)))
once_apart (y ∷ ys) apart (suc i) zero x at_i at_j = let same : y ≡ x = some_same at_j in absurd (apart.0 (subst (Contains ys) (sym same) (at_contains ys x i at_i)))
once_apart (y ∷ ys) apart (suc i) (suc j) x at_i at_j = ap suc (once_apart ys apart.1 i j x at_i at_j)

-- ---- results

-- what holds in any case holds on an error
pub on_err_any : {T E : Type 0} {P : Type 0} (r : Result T E) → P → OnErr r P
on_err_any (Ok x) p = tt
on_err_any (Err e) p = p

-- Small laws of lists: what they contain, what is numbered, and sorted lists that grow.
use Rattle.std.proofs.Common.{ℕ, zero, suc, ◌≡◌, ◌≤◌, ◌<◌, ◌⊎◌, ◌+◌, Bool, true, false, List, [], ◌∷◌, ◌++◌, ◌∙◌, cond, length, take, drop, get_or, add-one, drop-cons, refl, sym, ap, subst, arith, inl, inr}
use Rattle.std.specs.Prelude.{◌↔◌, Contains, Option, Some, None, slice_get}
use Rattle.std.specs.List.{AllByRecursion, AllZip, cons_option, filter, filter_map}
use Rattle.std.specs.List.Sorted.{IsStrictlySortedBy}
use Rattle.std.specs.Ordering.{nat_cmp, on}
use Rattle.std.specs.declared.cmp.Ordering.TheVariants.{Less}
use Rattle.std.proofs.lemmas.List.Elements.{Contains-append_left, Contains-get_or, Contains-push, Contains-push_cases, filter_map-append}
use Rattle.std.proofs.lemmas.List.{take_more}
use Rattle.lps_model.specs.Rules.{numbered}
use Rattle.lps_model.proofs.Elements.{first_is_contained, first_or_later, later_is_contained, nothing_contained}
use Rattle.lps_meaning.proofs.Lists.{number_contained}

pub true_false : true ≡ false → ⊥
true_false e = cc

pub some_none : {A : Type 0} {x : A} → Some x ≡ None → ⊥
some_none e = cc

pub some_same : {A : Type 0} {x y : A} → Some x ≡ Some y → x ≡ y
some_same e = cc

-- ---- elements

module _ {X : Type 0} where
  pub among_pushed : (xs : List X) (y x : X) → Contains (xs ++ y ∷ []) x ↔ (Contains xs x ⊎ (x ≡ y))
  among_pushed xs y x = (
    λ h. elim (Contains-push_cases xs y x h) [
      | inl old ↦ inl old
      | inr e ↦ inr (sym e)
    ],
    λ h. elim h [
      | inl old ↦ Contains-append_left xs (y ∷ []) x old
      | inr e ↦ subst (λ d. Contains (xs ++ d ∷ []) x) e (Contains-push xs x)
    ],
  )

  -- a place of a list with one more is a place of the list, or the last
  at_pushed : (xs : List X) (y x : X) (i : ℕ) → slice_get (xs ++ y ∷ []) i ≡ Some x → (slice_get xs i ≡ Some x) ⊎ ((i ≡ length xs) × (y ≡ x))
  at_pushed [] y x zero e = inr (refl, some_same e)
  at_pushed [] y x (suc i) e = absurd (some_none (sym e))
  at_pushed (z ∷ xs) y x zero e = inl e
  at_pushed (z ∷ xs) y x (suc i) e = elim (at_pushed xs y x i e) [
    | inl old ↦ inl old
    | inr last ↦ inr (ap suc last.0, last.1)
  ]

  pub at_contains : (xs : List X) (x : X) (i : ℕ) → slice_get xs i ≡ Some x → Contains xs x
  at_contains xs x i e = number_contained xs (suc i) x e

  -- ---- numbers

  pub numbered_place : (xs : List X) (n : ℕ) (x : X) → numbered xs n ≡ Some x → (k : ℕ) × (n ≡ suc k) × (k < length xs)
  numbered_place xs zero x e = absurd (some_none (sym e))
  numbered_place xs (suc k) x e = (k, refl, within xs k e)
    where
      within : (xs : List X) (k : ℕ) → slice_get xs k ≡ Some x → k < length xs
      within [] k e = absurd (some_none (sym e))
      within (y ∷ xs) zero e = omega arith
      within (y ∷ xs) (suc k) e = let more = within xs k e in omega arith

  pub numbered_there : (xs : List X) (k : ℕ) → k < length xs → (x : X) × (numbered xs (suc k) ≡ Some x)
  numbered_there [] k lt = absurd (omega arith)
  numbered_there (x ∷ xs) zero lt = (x, refl)
  numbered_there (x ∷ xs) (suc k) lt = numbered_there xs k (omega arith)

  get_more : (xs ys : List X) (k : ℕ) (x : X) → slice_get xs k ≡ Some x → slice_get (xs ++ ys) k ≡ Some x
  get_more [] ys k x e = absurd (some_none (sym e))
  get_more (y ∷ xs) ys zero x e = e
  get_more (y ∷ xs) ys (suc k) x e = get_more xs ys k x e

  pub numbered_more : (xs ys : List X) (n : ℕ) (x : X) → numbered xs n ≡ Some x → numbered (xs ++ ys) n ≡ Some x
  numbered_more xs ys zero x e = e
  numbered_more xs ys (suc k) x e = get_more xs ys k x e

  get_last : (xs : List X) (y : X) → slice_get (xs ++ y ∷ []) (length xs) ≡ Some y
  get_last [] y = refl
  get_last (x ∷ xs) y = get_last xs y

  pub numbered_last : (xs : List X) (y : X) → numbered (xs ++ y ∷ []) (suc (length xs)) ≡ Some y
  numbered_last xs y = get_last xs y

  pub numbered_pushed : (xs : List X) (y : X) (n : ℕ) (x : X) → numbered (xs ++ y ∷ []) n ≡ Some x → (numbered xs n ≡ Some x) ⊎ ((n ≡ suc (length xs)) × (y ≡ x))
  numbered_pushed xs y zero x e = absurd (some_none (sym e))
  numbered_pushed xs y (suc k) x e = elim (at_pushed xs y x k e) [
    | inl old ↦ inl old
    | inr last ↦ inr (ap suc last.0, last.1)
  ]

  -- ---- each once

  pub once_pushed : (xs : List X) (y : X) → (Contains xs y → ⊥) → ((i j : ℕ) (x : X) → slice_get xs i ≡ Some x → slice_get xs j ≡ Some x → i ≡ j) →
      (i j : ℕ) (x : X) → slice_get (xs ++ y ∷ []) i ≡ Some x → slice_get (xs ++ y ∷ []) j ≡ Some x → i ≡ j
  once_pushed xs y new once i j x at_i at_j = elim (at_pushed xs y x i at_i) [
    | inl old ↦ elim (at_pushed xs y x j at_j) [
      | inl other ↦ once i j x old other
      | inr last ↦ absurd (new (subst (Contains xs) (sym last.1) (at_contains xs x i old)))
    ]
    | inr last ↦ elim (at_pushed xs y x j at_j) [
      | inl other ↦ absurd (new (subst (Contains xs) (sym last.1) (at_contains xs x j other)))
      | inr other ↦ last.0 ∙ sym other.0
    ]
  ]

  -- ---- some of a list

  pub of_filtered : (test : X → Bool) (xs : List X) (x : X) → Contains (filter test xs) x → Contains xs x × (test x ≡ true)
  of_filtered test [] x h = absurd (nothing_contained x h)
  of_filtered test (y ∷ xs) x h = by (of_filtered test xs x) (test y) refl h
    where
      by : (Contains (filter test xs) x → Contains xs x × (test x ≡ true)) → (b : Bool) → test y ≡ b → Contains (cond b (y ∷ filter test xs) (filter test xs)) x →
          Contains (y ∷ xs) x × (test x ≡ true)
      by rest true passes h = elim (first_or_later y (filter test xs) x h) [
        | inl e ↦ (subst (λ z. Contains (z ∷ xs) x) (sym e) (first_is_contained x xs), ap test (sym e) ∙ passes)
        | inr more ↦ let m = rest more in (later_is_contained y xs x m.0, m.1)
      ]
      by rest false fails h = let m = rest h in (later_is_contained y xs x m.0, m.1)

  pub to_filtered : (test : X → Bool) (xs : List X) (x : X) → Contains xs x → test x ≡ true → Contains (filter test xs) x
  to_filtered test [] x h passes = absurd (nothing_contained x h)
  to_filtered test (y ∷ xs) x h passes = by (λ more. to_filtered test xs x more passes) (test y) refl
    where
      by : (Contains xs x → Contains (filter test xs) x) → (b : Bool) → test y ≡ b → Contains (cond b (y ∷ filter test xs) (filter test xs)) x
      by rest true is = elim (first_or_later y xs x h) [
        | inl e ↦ subst (λ z. Contains (z ∷ filter test xs) x) (sym e) (first_is_contained x (filter test xs))
        | inr more ↦ later_is_contained y (filter test xs) x (rest more)
      ]
      by rest false is = elim (first_or_later y xs x h) [
        | inl e ↦ absurd (true_false (sym passes ∙ ap test (sym e) ∙ is))
        | inr more ↦ rest more
      ]

  -- ---- sorted by number

  -- one with a greater number goes last
  pub rising_pushed : (f : X → ℕ) (xs : List X) (y : X) → IsStrictlySortedBy (on f nat_cmp) xs → ((x : X) → Contains xs x → f x < f y) → IsStrictlySortedBy (on f nat_cmp) (xs ++ y ∷ [])
  unfolding IsStrictlySortedBy
  rising_pushed f [] y sorted below = (tt, tt)
  rising_pushed f (x ∷ xs) y sorted below =
      (all_pushed xs sorted.0 (less (f x) (f y) (below x (first_is_contained x xs))), rising_pushed f xs y sorted.1 (λ z h. below z (later_is_contained x xs z h)))
    where
      less : (n m : ℕ) → n < m → nat_cmp n m ≡ Less
      less n m lt = grind arith

      all_pushed : (zs : List X) → AllByRecursion (λ z. on f nat_cmp x z ≡ Less) zs → on f nat_cmp x y ≡ Less → AllByRecursion (λ z. on f nat_cmp x z ≡ Less) (zs ++ y ∷ [])
      all_pushed [] all last = (last, tt)
      all_pushed (z ∷ zs) all last = (all.0, all_pushed zs all.1 last)

-- ---- parts of a list

module _ {X : Type 0} where
  pub drop_next : (xs : List X) (i : ℕ) (x : X) → i < length xs → x ≡ get_or xs i x → drop i xs ≡ x ∷ drop (i + 1) xs
  drop_next xs i x lt is = rw add-one (drop-cons xs i x lt ∙ ap (λ y. y ∷ drop (suc i) xs) (sym is))

  pub none_left : (xs : List X) (i : ℕ) → length xs ≤ i → drop i xs ≡ []
  none_left [] zero le = refl
  none_left [] (suc i) le = refl
  none_left (x ∷ xs) zero le = absurd (omega arith)
  none_left (x ∷ xs) (suc i) le = none_left xs i (omega arith)

  pub all_taken : (xs : List X) (i : ℕ) → length xs ≤ i → take i xs ≡ xs
  all_taken [] zero le = refl
  all_taken [] (suc i) le = refl
  all_taken (x ∷ xs) zero le = absurd (omega arith)
  all_taken (x ∷ xs) (suc i) le = ap (λ ys. x ∷ ys) (all_taken xs i (omega arith))

  pub element_at : (xs : List X) (i : ℕ) (x : X) → i < length xs → x ≡ get_or xs i x → Contains xs x
  element_at xs i x lt is = subst (Contains xs) (sym is) (Contains-get_or xs i x lt)

  -- one more that is taken
  pub taken_next : (xs : List X) (i : ℕ) (x : X) → i < length xs → x ≡ get_or xs i x → (y : X) → Contains (take (i + 1) xs) y → Contains (take i xs) y ⊎ (y ≡ x)
  taken_next xs i x lt is y h = (among_pushed (take i xs) x y).0 (subst (λ ys. Contains ys y) (take_more xs i x lt ∙ ap (λ z. take i xs ++ z ∷ []) (sym is)) h)

-- what is chosen from a list
module _ {X Y : Type 0} (f : X → Option Y) where
  pub of_chosen : (xs : List X) (y : Y) → Contains (filter_map f xs) y → (x : X) × Contains xs x × (f x ≡ Some y)
  of_chosen [] y h = absurd (nothing_contained y h)
  of_chosen (x ∷ xs) y h = by (of_chosen xs y) (f x) refl h
    where
      later : (x : X) × Contains xs x × (f x ≡ Some y) → (z : X) × Contains (x ∷ xs) z × (f z ≡ Some y)
      later m = (m.0, later_is_contained x xs m.0 m.1, m.2)

      by : (Contains (filter_map f xs) y → (x : X) × Contains xs x × (f x ≡ Some y)) → (r : Option Y) → f x ≡ r → Contains (cons_option r (filter_map f xs)) y →
          (z : X) × Contains (x ∷ xs) z × (f z ≡ Some y)
      by rest None is h = later (rest h)
      by rest (Some w) is h = elim (first_or_later w (filter_map f xs) y h) [
        | inl e ↦ (x, first_is_contained x xs, is ∙ ap (λ v. Some v) e)
        | inr more ↦ later (rest more)
      ]

  pub to_chosen : (xs : List X) (x : X) (y : Y) → Contains xs x → f x ≡ Some y → Contains (filter_map f xs) y
  to_chosen [] x y h is = absurd (nothing_contained x h)
  to_chosen (z ∷ xs) x y h is = elim (first_or_later z xs x h) [
    | inl e ↦ subst (λ r. Contains (cons_option r (filter_map f xs)) y) (sym (ap f e ∙ is)) (first_is_contained y (filter_map f xs))
    | inr more ↦ by (f z) (to_chosen xs x y more is)
  ]
    where
      by : (r : Option Y) → Contains (filter_map f xs) y → Contains (cons_option r (filter_map f xs)) y
      by None h = h
      by (Some w) h = later_is_contained w (filter_map f xs) y h

  -- what is chosen of one more
  pub chosen_next : (xs : List X) (i : ℕ) (x : X) → i < length xs → x ≡ get_or xs i x → filter_map f (take (i + 1) xs) ≡ filter_map f (take i xs) ++ cons_option (f x) []
  chosen_next xs i x lt is = ap (filter_map f) (take_more xs i x lt ∙ ap (λ z. take i xs ++ z ∷ []) (sym is)) ∙ filter_map-append f (take i xs) (x ∷ [])

  -- sorted by what they have from it
  module _ (n : X → ℕ) (m : Y → ℕ) (same : (x : X) (y : Y) → f x ≡ Some y → m y ≡ n x) where
    above_chosen : (k : ℕ) (xs : List X) → AllByRecursion (λ x. nat_cmp k (n x) ≡ Less) xs → AllByRecursion (λ y. nat_cmp k (m y) ≡ Less) (filter_map f xs)
    above_chosen k [] all = tt
    above_chosen k (x ∷ xs) all = by (above_chosen k xs all.1) (f x) refl
      where
        by : AllByRecursion (λ y. nat_cmp k (m y) ≡ Less) (filter_map f xs) → (r : Option Y) → f x ≡ r → AllByRecursion (λ y. nat_cmp k (m y) ≡ Less) (cons_option r (filter_map f xs))
        by rest None is = rest
        by rest (Some y) is = (subst (λ j. nat_cmp k j ≡ Less) (sym (same x y is)) all.0, rest)

    pub rising_chosen : (xs : List X) → IsStrictlySortedBy (on n nat_cmp) xs → IsStrictlySortedBy (on m nat_cmp) (filter_map f xs)
    unfolding IsStrictlySortedBy
    rising_chosen [] sorted = tt
    rising_chosen (x ∷ xs) sorted = by (rising_chosen xs sorted.1) (f x) refl
      where
        by : IsStrictlySortedBy (on m nat_cmp) (filter_map f xs) → (r : Option Y) → f x ≡ r → IsStrictlySortedBy (on m nat_cmp) (cons_option r (filter_map f xs))
        by rest None is = rest
        by rest (Some y) is =
            (subst (λ j. AllByRecursion (λ z. nat_cmp j (m z) ≡ Less) (filter_map f xs)) (sym (same x y is)) (above_chosen (n x) xs sorted.0), rest)

-- ---- two lists, element by element

module _ {X Y : Type 0} (R : X → Y → Type 0) where
  pub of_zipped : (xs : List X) (ys : List Y) → AllZip R xs ys → (y : Y) → Contains ys y → (x : X) × Contains xs x × R x y
  of_zipped [] [] all y h = absurd (nothing_contained y h)
  of_zipped [] (z ∷ ys) all y h = absurd all
  of_zipped (x ∷ xs) [] all y h = absurd all
  of_zipped (x ∷ xs) (z ∷ ys) all y h = elim (first_or_later z ys y h) [
    | inl e ↦ (x, first_is_contained x xs, subst (R x) e all.0)
    | inr more ↦ let m = of_zipped xs ys all.1 y more in (m.0, later_is_contained x xs m.0 m.1, m.2)
  ]

  pub to_zipped : (xs : List X) (ys : List Y) → AllZip R xs ys → (x : X) → Contains xs x → (y : Y) × Contains ys y × R x y
  to_zipped [] [] all x h = absurd (nothing_contained x h)
  to_zipped [] (z ∷ ys) all x h = absurd all
  to_zipped (z ∷ xs) [] all x h = absurd all
  to_zipped (z ∷ xs) (y ∷ ys) all x h = elim (first_or_later z xs x h) [
    | inl e ↦ (y, first_is_contained y ys, subst (λ w. R w y) e all.0)
    | inr more ↦ let m = to_zipped xs ys all.1 x more in (m.0, later_is_contained y ys m.0 m.1, m.2)
  ]

  zip_next : (xs : List X) (ys : List Y) (i : ℕ) (x : X) (y : Y) → i < length xs → x ≡ get_or xs i x → AllZip R (take i xs) ys → R x y → AllZip R (take (suc i) xs) (ys ++ y ∷ [])
  zip_next [] ys i x y lt at all is = absurd (omega arith)
  zip_next (z ∷ xs) [] zero x y lt at all is = (subst (λ w. R w y) at is, tt)
  zip_next (z ∷ xs) (w ∷ ys) zero x y lt at all is = absurd all
  zip_next (z ∷ xs) [] (suc i) x y lt at all is = absurd all
  zip_next (z ∷ xs) (w ∷ ys) (suc i) x y lt at all is = (all.0, zip_next xs ys i x y (omega arith) at all.1 is)

  -- one more of each
  pub zip_more : (xs : List X) (ys : List Y) (i : ℕ) (x : X) (y : Y) → i < length xs → x ≡ get_or xs i x → AllZip R (take i xs) ys → R x y → AllZip R (take (i + 1) xs) (ys ++ y ∷ [])
  zip_more xs ys i x y lt at all is = rw add-one (zip_next xs ys i x y lt at all is)

  pub zip_pushed : (xs : List X) (ys : List Y) (x : X) (y : Y) → AllZip R xs ys → R x y → AllZip R (xs ++ x ∷ []) (ys ++ y ∷ [])
  zip_pushed [] [] x y all is = (is, tt)
  zip_pushed [] (w ∷ ys) x y all is = absurd all
  zip_pushed (z ∷ xs) [] x y all is = absurd all
  zip_pushed (z ∷ xs) (w ∷ ys) x y all is = (all.0, zip_pushed xs ys x y all.1 is)

  module _ (n : X → ℕ) (m : Y → ℕ) (same : (x : X) (y : Y) → R x y → m y ≡ n x) where
    above_zipped : (k : ℕ) (xs : List X) (ys : List Y) → AllZip R xs ys → AllByRecursion (λ x. nat_cmp k (n x) ≡ Less) xs → AllByRecursion (λ y. nat_cmp k (m y) ≡ Less) ys
    above_zipped k [] [] zip all = tt
    above_zipped k [] (y ∷ ys) zip all = absurd zip
    above_zipped k (x ∷ xs) [] zip all = absurd zip
    above_zipped k (x ∷ xs) (y ∷ ys) zip all = (subst (λ j. nat_cmp k j ≡ Less) (sym (same x y zip.0)) all.0, above_zipped k xs ys zip.1 all.1)

    pub rising_zipped : (xs : List X) (ys : List Y) → AllZip R xs ys → IsStrictlySortedBy (on n nat_cmp) xs → IsStrictlySortedBy (on m nat_cmp) ys
    unfolding IsStrictlySortedBy
    rising_zipped [] [] zip sorted = tt
    rising_zipped [] (y ∷ ys) zip sorted = absurd zip
    rising_zipped (x ∷ xs) [] zip sorted = absurd zip
    rising_zipped (x ∷ xs) (y ∷ ys) zip sorted =
        (subst (λ j. AllByRecursion (λ z. nat_cmp j (m z) ≡ Less) ys) (sym (same x y zip.0)) (above_zipped (n x) xs ys zip.1 sorted.0), rising_zipped xs ys zip.1 sorted.1)

-- what is chosen goes with others, also where one more is looked at
module _ {X Y Z : Type 0} (f : X → Option Y) (R : Y → Z → Type 0) where
  pub zip_chosen : (xs : List X) (i : ℕ) (x : X) (y : Y) (zs : List Z) (z : Z) → i < length xs → x ≡ get_or xs i x → f x ≡ Some y → AllZip R (filter_map f (take i xs)) zs → R y z →
      AllZip R (filter_map f (take (i + 1) xs)) (zs ++ z ∷ [])
  zip_chosen xs i x y zs z lt at is all r =
      subst (λ ys. AllZip R ys (zs ++ z ∷ [])) (sym (chosen_next f xs i x lt at ∙ ap (λ o. filter_map f (take i xs) ++ cons_option o []) is)) (zip_pushed R (filter_map f (take i xs)) zs y z all r)

  pub zip_passed : (xs : List X) (i : ℕ) (x : X) (zs : List Z) → i < length xs → x ≡ get_or xs i x → f x ≡ None → AllZip R (filter_map f (take i xs)) zs → AllZip R (filter_map f (take (i + 1) xs)) zs
  zip_passed xs i x zs lt at is all =
      subst (λ ys. AllZip R ys zs) (sym (chosen_next f xs i x lt at ∙ ap (λ o. filter_map f (take i xs) ++ cons_option o []) is ∙ append_none (filter_map f (take i xs)))) all
    where
      append_none : {A : Type 0} (ys : List A) → ys ++ [] ≡ ys
      append_none [] = refl
      append_none (y ∷ ys) = ap (λ more. y ∷ more) (append_none ys)

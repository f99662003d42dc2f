-- Lists in which each element is once.
use Rattle.std.proofs.Common.{ℕ, zero, suc, ◌≡◌, ◌⊎◌, ◌+◌, List, [], ◌∷◌, refl, sym, ap, subst, arith, inl, inr}
use Rattle.std.specs.Prelude.{◌↔◌, Contains, Option, Some, None, slice_get, sum_by}
use Rattle.std.specs.List.{cons_option, filter_map}
use Rattle.std.proofs.lemmas.List.Sums.{sum_by-cons}
use Rattle.lps_model.proofs.Elements.{first_is_contained, first_or_later, later_is_contained, nothing_contained}
use Rattle.lps_meaning.proofs.Numbers.{some_same}
use Rattle.lps_antecedents.specs.Gathered.{AreOnce}
use Rattle.lps_goaltrees.proofs.Lists.{at_contains, of_chosen}

-- ---- at the front, and what is chosen

module _ {X : Type 0} where
  at_place : (xs : List X) (x : X) → Contains xs x → (k : ℕ) × (slice_get xs k ≡ Some x)
  at_place [] x h = absurd (nothing_contained x h)
  at_place (y ∷ xs) x h = elim (first_or_later y xs x h) [
    | inl e ↦ (0, ap (λ z. Some z) e)
    | inr later ↦ let m = at_place xs x later in (suc m.0, m.1)
  ]

  pub once_first : (x : X) (xs : List X) → AreOnce (x ∷ xs) → Contains xs x → ⊥
  once_first x xs once h = let m = at_place xs x h in none_before m.0 (once 0 (suc m.0) x refl m.1)
    where
      none_before : (k : ℕ) → 0 ≡ suc k → ⊥
      none_before k e = omega (arith, e)

  pub once_later : (x : X) (xs : List X) → AreOnce (x ∷ xs) → AreOnce xs
  once_later x xs once i j y at_i at_j = same i j (once (suc i) (suc j) y at_i at_j)
    where
      same : (i j : ℕ) → suc i ≡ suc j → i ≡ j
      same i j e = omega (arith, e)

  once_more : (x : X) (xs : List X) → (Contains xs x → ⊥) → AreOnce xs → AreOnce (x ∷ xs)
  once_more x xs new once zero zero y at_i at_j = refl
  once_more x xs new once zero (suc j) y at_i at_j = absurd (new (subst (Contains xs) (some_same (sym at_i)) (at_contains xs y j at_j)))
  once_more x xs new once (suc i) zero y at_i at_j = absurd (new (subst (Contains xs) (some_same (sym at_j)) (at_contains xs y i at_i)))
  once_more x xs new once (suc i) (suc j) y at_i at_j = ap suc (once i j y at_i at_j)

module _ {X Y : Type 0} (f : X → Option Y) (one : (w x : X) (y : Y) → f w ≡ Some y → f x ≡ Some y → w ≡ x) where
  pub once_chosen : (xs : List X) → AreOnce xs → AreOnce (filter_map f xs)
  once_chosen [] once = λ i j y at_i at_j. absurd cc
  once_chosen (x ∷ xs) once = by (f x) refl (once_chosen xs (once_later x xs once))
    where
      by : (r : Option Y) → f x ≡ r → AreOnce (filter_map f xs) → AreOnce (cons_option r (filter_map f xs))
      by None is rest = rest
      by (Some y) is rest = once_more y (filter_map f xs) (λ h. let m = of_chosen f xs y h in once_first x xs once (subst (Contains xs) (one m.0 x y m.2 is) m.1)) rest

-- ---- the same elements

module _ {X : Type 0} where
  -- what is left of a list without an element of it
  record IsWithout (f : X → ℕ) (xs : List X) (x : X) (rest : List X) : Type 0 where
    once : AreOnce rest
    size : sum_by f xs ≡ f x + sum_by f rest
    new : Contains rest x → ⊥
    among : (y : X) → Contains xs y ↔ ((y ≡ x) ⊎ Contains rest y)

  first_taken : (f : X → ℕ) (x y : X) (xs : List X) → y ≡ x → AreOnce (y ∷ xs) → IsWithout f (y ∷ xs) x xs
  first_taken f x y xs same once = subst (λ z. IsWithout f (y ∷ xs) z xs) same (record {
    once = once_later y xs once;
    size = sum_by-cons f y xs;
    new = once_first y xs once;
    among = λ z. (
      λ h. elim (first_or_later y xs z h) [ inl e ↦ inl (sym e) | inr later ↦ inr later ],
      λ h. elim h [ inl e ↦ subst (Contains (y ∷ xs)) (sym e) (first_is_contained y xs) | inr later ↦ later_is_contained y xs z later ],
    );
  })

  later_taken : (f : X → ℕ) (x y : X) (xs rest : List X) → AreOnce (y ∷ xs) → Contains xs x → IsWithout f xs x rest → IsWithout f (y ∷ xs) x (y ∷ rest)
  later_taken f x y xs rest once h w = record {
    once = once_more y rest (λ m. once_first y xs once ((w.among y).1 (inr m))) w.once;
    size = omega (arith, sum_by-cons f y xs, sum_by-cons f y rest, w.size);
    new = λ m. elim (first_or_later y rest x m) [ inl e ↦ once_first y xs once (subst (Contains xs) (sym e) h) | inr later ↦ w.new later ];
    among = λ z. (
      λ m. elim (first_or_later y xs z m) [
        | inl e ↦ inr (subst (Contains (y ∷ rest)) e (first_is_contained y rest))
        | inr later ↦ elim ((w.among z).0 later) [ inl e ↦ inl e | inr more ↦ inr (later_is_contained y rest z more) ]
      ],
      λ m. elim m [
        | inl e ↦ later_is_contained y xs z ((w.among z).1 (inl e))
        | inr more ↦ elim (first_or_later y rest z more) [
          | inl e ↦ subst (Contains (y ∷ xs)) e (first_is_contained y xs)
          | inr later ↦ later_is_contained y xs z ((w.among z).1 (inr later))
        ]
      ],
    );
  }

  taken : (f : X → ℕ) (xs : List X) (x : X) → AreOnce xs → Contains xs x → (rest : List X) × IsWithout f xs x rest
  taken f [] x once h = absurd (nothing_contained x h)
  taken f (y ∷ xs) x once h = elim (first_or_later y xs x h) [
    | inl same ↦ (xs, first_taken f x y xs same once)
    | inr later ↦ let m = taken f xs x (once_later y xs once) later in (y ∷ m.0, later_taken f x y xs m.0 once later m.1)
  ]

  -- two lists with the same elements, each once, have one sum
  pub same_sums : (f : X → ℕ) (xs ys : List X) → AreOnce xs → AreOnce ys → ((x : X) → Contains xs x ↔ Contains ys x) → sum_by f xs ≡ sum_by f ys
  same_sums f [] [] once_xs once_ys same = refl
  same_sums f [] (y ∷ ys) once_xs once_ys same = absurd (nothing_contained y ((same y).1 (first_is_contained y ys)))
  same_sums f (x ∷ xs) ys once_xs once_ys same =
      let m = taken f ys x once_ys ((same x).0 (first_is_contained x xs)) in
      let rest = same_sums f xs m.0 (once_later x xs once_xs) m.1.once (λ y. (
        λ h. elim ((m.1.among y).0 ((same y).0 (later_is_contained x xs y h))) [
          | inl e ↦ absurd (once_first x xs once_xs (subst (Contains xs) e h))
          | inr more ↦ more
        ],
        λ h. elim (first_or_later x xs y ((same y).1 ((m.1.among y).1 (inr h)))) [
          | inl e ↦ absurd (m.1.new (subst (Contains m.0) (sym e) h))
          | inr later ↦ later
        ],
      )) in
      omega (arith, sum_by-cons f x xs, m.1.size, rest)

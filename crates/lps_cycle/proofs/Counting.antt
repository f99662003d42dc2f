-- Counting the elements of a list that pass a test, by a rising list of the places where they stand.
use Rattle.std.proofs.Common.{ℕ, zero, suc, ◌≡◌, ◌≤◌, ◌<◌, ◌+◌, Bool, true, false, cond, List, [], ◌∷◌, length, refl, sym, ap, subst, ◌∙◌, arith, inl, inr}
use Rattle.std.specs.Prelude.{◌↔◌, ◌-◌, ◌⊎◌, Contains, Some, slice_get, map}
use Rattle.std.specs.List.{AllByRecursion, AllZip, count_by}
use Rattle.std.specs.List.Sorted.{IsStrictlySortedBy}
use Rattle.std.specs.Cmp.{IsTotalOrder}
use Rattle.std.specs.Ordering.{nat_cmp, on}
use Rattle.std.specs.declared.cmp.Ordering.{Ordering}
use Rattle.std.specs.declared.cmp.Ordering.TheVariants.{Less, Equal}
use Rattle.std.proofs.lemmas.Cmp.{tied_itself}
use Rattle.std.proofs.lemmas.List.Elements.{All-from_recursion, All-contains}
use Rattle.std.proofs.lemmas.List.Sums.{sum_by-cons}
use Rattle.std.proofs.lemmas.Map.Keys.{sorted_head, sorted_tail}
use Rattle.lps_meaning.proofs.Splits.{le_or_lt}
use Rattle.lps_model.proofs.Elements.{first_is_contained, first_or_later, later_is_contained, nothing_contained}

-- ---- what stands at a place

-- whether an element that passes the test stands at this place, from 0
abbrev pub passes_at : {X : Type 0} → (X → Bool) → List X → ℕ → Bool
passes_at test [] i = false
passes_at test (x ∷ xs) zero = test x
passes_at test (x ∷ xs) (suc i) = passes_at test xs i

module _ {X : Type 0} (test : X → Bool) where
  pub passing : (xs : List X) (i : ℕ) → passes_at test xs i ≡ true → (x : X) × (slice_get xs i ≡ Some x) × (test x ≡ true)
  passing [] i is = absurd cc
  passing (x ∷ xs) zero is = (x, refl, is)
  passing (x ∷ xs) (suc i) is = passing xs i is

  pub passes_there : (xs : List X) (i : ℕ) (x : X) → slice_get xs i ≡ Some x → passes_at test xs i ≡ test x
  passes_there [] i x is = absurd cc
  passes_there (y ∷ xs) zero x is = let same : y ≡ x = cc in ap test same
  passes_there (y ∷ xs) (suc i) x is = passes_there xs i x is

-- in a sorted list an element stands at one place
pub one_place : {X : Type 0} {cmp : X → X → Ordering} → IsTotalOrder cmp → (xs : List X) → IsStrictlySortedBy cmp xs → (i j : ℕ) (x : X) →
    slice_get xs i ≡ Some x → slice_get xs j ≡ Some x → i ≡ j
one_place {X} {cmp} total = by
  where
    at_contains : (xs : List X) (i : ℕ) (x : X) → slice_get xs i ≡ Some x → Contains xs x
    at_contains [] i x is = absurd cc
    at_contains (y ∷ xs) zero x is = let same : y ≡ x = cc in subst (λ z. Contains (z ∷ xs) x) (sym same) (first_is_contained x xs)
    at_contains (y ∷ xs) (suc i) x is = later_is_contained y xs x (at_contains xs i x is)

    not_later : (y : X) (xs : List X) (j : ℕ) (x : X) → IsStrictlySortedBy cmp (y ∷ xs) → y ≡ x → slice_get xs j ≡ Some x → ⊥
    not_later y xs j x sorted same is =
        let less = All-contains (λ z. cmp y z ≡ Less) xs x (All-from_recursion (λ z. cmp y z ≡ Less) xs (sorted_head cmp y xs sorted)) (at_contains xs j x is) in
        let tie : cmp y x ≡ Equal = (λ i. cmp y (sym same i)) ∙ tied_itself total y in
        cc (less, tie)

    by : (xs : List X) → IsStrictlySortedBy cmp xs → (i j : ℕ) (x : X) → slice_get xs i ≡ Some x → slice_get xs j ≡ Some x → i ≡ j
    by [] sorted i j x at_i at_j = absurd cc
    by (y ∷ xs) sorted zero zero x at_i at_j = refl
    by (y ∷ xs) sorted zero (suc j) x at_i at_j = let same : y ≡ x = cc in absurd (not_later y xs j x sorted same at_j)
    by (y ∷ xs) sorted (suc i) zero x at_i at_j = let same : y ≡ x = cc in absurd (not_later y xs i x sorted same at_i)
    by (y ∷ xs) sorted (suc i) (suc j) x at_i at_j = ap suc (by xs (sorted_tail cmp y xs sorted) i j x at_i at_j)

-- ---- counting

abbrev one_if : Bool → ℕ
one_if b = cond b 1 0

-- Numbers from k on, one for each place, from k, where the later list passes and the earlier one does not.
pub record AreNew (k : ℕ) (now before : ℕ → Bool) (ns : List ℕ) : Type 0 where
  pub rising : IsStrictlySortedBy nat_cmp ns
  pub from : (n : ℕ) → Contains ns n → k ≤ n
  pub kept : (i : ℕ) → before i ≡ true → now i ≡ true
  pub exact : (i : ℕ) → Contains ns (k + i) ↔ ((now i ≡ true) × (before i ≡ false))

-- what is left of them behind the first place
record AreNext (k : ℕ) (now before : ℕ → Bool) (ns : List ℕ) : Type 0 where
  rest : List ℕ
  new : AreNew (suc k) (λ i. now (suc i)) (λ i. before (suc i)) rest
  count : one_if (now 0) + length rest ≡ one_if (before 0) + length ns

next_place : (k i : ℕ) → suc k + i ≡ k + suc i
next_place k i = omega arith

module _ (k : ℕ) (now before : ℕ → Bool) where
  -- the first place is new, so its number is the first
  taken : (ns : List ℕ) → AreNew k now before ns → now 0 ≡ true → before 0 ≡ false → AreNext k now before ns
  taken [] are is was = absurd (nothing_contained (k + 0) ((are.exact 0).1 (is, was)))
  taken (n ∷ ns) are is was =
      let above : (m : ℕ) → Contains ns m → n < m = λ m there. less n m (All-contains (λ j. nat_cmp n j ≡ Less) ns m
      (All-from_recursion (λ j. nat_cmp n j ≡ Less) ns (sorted_head nat_cmp n ns are.rising)) there) in
      let low : k ≤ n = are.from n (first_is_contained n ns) in
      let first : n ≡ k = elim (first_or_later n ns (k + 0) ((are.exact 0).1 (is, was))) [
        | inl same ↦ omega (arith, same)
        | inr later ↦ absurd (let lt = above (k + 0) later in omega (arith, lt, low))
      ] in
      record {
        rest = ns;
        new = record {
          rising = sorted_tail nat_cmp n ns are.rising;
          from = λ m there. let lt = above m there in omega (arith, lt, first);
          kept = λ i. are.kept (suc i);
          exact = λ i. (
            λ there. (are.exact (suc i)).0 (subst (Contains (n ∷ ns)) (next_place k i) (later_is_contained n ns (suc k + i) there)),
            λ both. elim (first_or_later n ns (k + suc i) ((are.exact (suc i)).1 both)) [
              | inl same ↦ absurd (omega (arith, same, first))
              | inr later ↦ subst (Contains ns) (sym (next_place k i)) later
            ],
          );
        };
        count = let one : one_if (now 0) ≡ 1 = ap one_if is in let none : one_if (before 0) ≡ 0 = ap one_if was in omega (arith, one, none);
      }
    where
      less : (m j : ℕ) → nat_cmp m j ≡ Less → m < j
      less m j lt = grind arith

  -- the first place is not new
  passed : (ns : List ℕ) → AreNew k now before ns → now 0 ≡ before 0 → AreNext k now before ns
  passed ns are same = record {
    rest = ns;
    new = record {
      rising = are.rising;
      from = λ n there. elim (equal_or_above k n (are.from n there)) [
        | inl first ↦ absurd (not_first (λ both. now_before both.0 both.1) (subst (Contains ns) (plus_none first) there))
        | inr later ↦ later
      ];
      kept = λ i. are.kept (suc i);
      exact = λ i. (
        λ there. (are.exact (suc i)).0 (subst (Contains ns) (next_place k i) there),
        λ both. subst (Contains ns) (sym (next_place k i)) ((are.exact (suc i)).1 both),
      );
    };
    count = λ j. one_if (same j) + length ns;
  }
    where
      plus_none : {n : ℕ} → n ≡ k → n ≡ k + 0
      plus_none e = omega (arith, e)

      now_before : now 0 ≡ true → before 0 ≡ false → ⊥
      now_before is was = cc (is, was, same)

      not_first : ((now 0 ≡ true) × (before 0 ≡ false) → ⊥) → Contains ns (k + 0) → ⊥
      not_first never there = never ((are.exact 0).0 there)

      equal_or_above : (k n : ℕ) → k ≤ n → (n ≡ k) ⊎ (suc k ≤ n)
      equal_or_above k n le = elim (le_or_lt n k) [ inl back ↦ inl (omega (arith, back, le)) | inr lt ↦ inr lt ]

  next : (ns : List ℕ) → AreNew k now before ns → AreNext k now before ns
  next ns are = by (now 0) (before 0) refl refl
    where
      by : (is was : Bool) → now 0 ≡ is → before 0 ≡ was → AreNext k now before ns
      by true true is was = passed ns are (is ∙ sym was)
      by true false is was = taken ns are is was
      by false true is was = absurd (cc (is, are.kept 0 was))
      by false false is was = passed ns are (is ∙ sym was)

-- Those that pass are as many as those that passed before, and the new ones.
module _ {X : Type 0} (test : X → Bool) where
  counted_more : (x : X) (xs : List X) → count_by test (x ∷ xs) ≡ one_if (test x) + count_by test xs
  counted_more x xs = sum_by-cons (λ y. cond (test y) 1 0) x xs

  pub counted : (k : ℕ) (before now : List X) (ns : List ℕ) → AreNew k (passes_at test now) (passes_at test before) ns → count_by test now ≡ count_by test before + length ns
  counted k [] [] ns are = none ns are
    where
      none : (ns : List ℕ) → AreNew k (passes_at test []) (passes_at test []) ns → count_by test [] ≡ count_by test [] + length ns
      none [] are = refl
      none (n ∷ ns) are = absurd (never ((are.exact (n - k)).0 (subst (Contains (n ∷ ns)) (minus_plus k n (are.from n (first_is_contained n ns))) (first_is_contained n ns))).0)
        where
          never : false ≡ true → ⊥
          never e = cc

          minus_plus : (k n : ℕ) → k ≤ n → n ≡ k + (n - k)
          minus_plus k n le = omega arith
  counted k [] (y ∷ now) ns are =
      let m = next k (passes_at test (y ∷ now)) (passes_at test []) ns are in
      let rest = counted (suc k) [] now m.rest (record { rising = m.new.rising; from = m.new.from; kept = m.new.kept; exact = m.new.exact }) in
      omega (arith, counted_more y now, rest, m.count)
  counted k (x ∷ before) [] ns are =
      let m = next k (passes_at test []) (passes_at test (x ∷ before)) ns are in
      let rest = counted (suc k) before [] m.rest (record { rising = m.new.rising; from = m.new.from; kept = m.new.kept; exact = m.new.exact }) in
      omega (arith, counted_more x before, rest, m.count)
  counted k (x ∷ before) (y ∷ now) ns are =
      let m = next k (passes_at test (y ∷ now)) (passes_at test (x ∷ before)) ns are in
      let rest = counted (suc k) before now m.rest m.new in
      omega (arith, counted_more x before, counted_more y now, rest, m.count)

-- ---- a list beside another

module _ {X Y : Type 0} (R : X → Y → Type 0) where
  -- where each element has something, there is a list of it
  pub chosen : (xs : List X) → ((i : ℕ) (x : X) → slice_get xs i ≡ Some x → (y : Y) × R x y) → (ys : List Y) × AllZip R xs ys
  chosen [] each = ([], tt)
  chosen (x ∷ xs) each = let first = each 0 x refl in let rest = chosen xs (λ i. each (suc i)) in (first.0 ∷ rest.0, (first.1, rest.1))

  pub zipped_there : (xs : List X) (ys : List Y) → AllZip R xs ys → (i : ℕ) (x : X) → slice_get xs i ≡ Some x → (y : Y) × (slice_get ys i ≡ Some y) × R x y
  zipped_there [] ys all i x is = absurd cc
  zipped_there (z ∷ xs) [] all i x is = absurd all
  zipped_there (z ∷ xs) (y ∷ ys) all zero x is = let same : z ≡ x = cc in (y, refl, subst (λ w. R w y) same all.0)
  zipped_there (z ∷ xs) (y ∷ ys) all (suc i) x is = zipped_there xs ys all.1 i x is

  pub zipped_back : (xs : List X) (ys : List Y) → AllZip R xs ys → (i : ℕ) (y : Y) → slice_get ys i ≡ Some y → (x : X) × (slice_get xs i ≡ Some x) × R x y
  zipped_back xs [] all i y is = absurd cc
  zipped_back [] (z ∷ ys) all i y is = absurd all
  zipped_back (x ∷ xs) (z ∷ ys) all zero y is = let same : z ≡ y = cc in (x, refl, subst (R x) same all.0)
  zipped_back (x ∷ xs) (z ∷ ys) all (suc i) y is = zipped_back xs ys all.1 i y is

-- ---- numbers, from 1

pub from_one : (now before : ℕ → Bool) (ns : List ℕ) → IsStrictlySortedBy nat_cmp ns → ((n : ℕ) → Contains ns n → 1 ≤ n) → ((i : ℕ) → before i ≡ true → now i ≡ true) →
    ((i : ℕ) → Contains ns (suc i) ↔ ((now i ≡ true) × (before i ≡ false))) → AreNew 1 now before ns
from_one now before ns rising from kept exact = record {
  rising = rising;
  from = from;
  kept = kept;
  exact = λ i. let same : suc i ≡ 1 + i = omega arith in subst (λ n. Contains ns n ↔ ((now i ≡ true) × (before i ≡ false))) same (exact i);
}

-- the numbers of a list that rises by them
pub numbers_rise : {X : Type 0} (f : X → ℕ) (xs : List X) → IsStrictlySortedBy (on f nat_cmp) xs → IsStrictlySortedBy nat_cmp (map f xs)
unfolding IsStrictlySortedBy
numbers_rise f [] sorted = tt
numbers_rise {X} f (x ∷ xs) sorted = (all_above xs sorted.0, numbers_rise f xs sorted.1)
  where
    all_above : (ys : List X) → AllByRecursion (λ y. on f nat_cmp x y ≡ Less) ys → AllByRecursion (λ n. nat_cmp (f x) n ≡ Less) (map f ys)
    all_above [] all = tt
    all_above (y ∷ ys) all = (all.0, all_above ys all.1)

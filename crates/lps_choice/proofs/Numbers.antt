-- The pending goals among the numbers of all goals.
use Rattle.std.proofs.Common.{◌≡◌, ℕ, zero, suc, ◌<◌, ◌+◌, Bool, true, false, List, [], ◌∷◌, ◌++◌, length, cond, reverse, refl, sym, ap, subst, ◌∙◌, arith, inl, inr}
use Rattle.std.specs.Prelude.{◌⊎◌, Contains, Some}
use Rattle.std.proofs.lemmas.List.{append-nil}
use Rattle.std.specs.List.{AllByRecursion, filter, range_with_len}
use Rattle.std.specs.List.Sorted.{IsStrictlySortedBy}
use Rattle.std.specs.Ordering.{nat_cmp}
use Rattle.std.specs.declared.cmp.Ordering.TheVariants.{Less}
use Rattle.std.specs.FinMap.{nat_cmp-IsAntisymmetric}
use Rattle.std.proofs.lemmas.Bool.{lt-ltb}
use Rattle.std.proofs.lemmas.Cmp.{nat_cmp_total}
use Rattle.std.proofs.lemmas.List.Elements.{All-contains, filter-append, filter_passes}
use Rattle.std.proofs.lemmas.List.FromFn.{length-range_with_len, get_or-range_with_len}
use Rattle.std.proofs.lemmas.List.Kept.{IsStrictlySortedBy-filter}
use Rattle.std.proofs.lemmas.Option.{slice_get_within}
use Rattle.lps_terms.specs.declared.prefer.Prefer.{Prefer}
use Rattle.lps_terms.specs.declared.prefer.Prefer.TheVariants.{Oldest, Newest}
use Rattle.lps_model.specs.Rules.{numbered}
use Rattle.lps_model.proofs.Elements.{first_or_later, first_is_contained, later_is_contained, sorted_same}
use Rattle.lps_meaning.specs.Plain.{order_of}
use Rattle.lps_choice.specs.Passes.{in_order}
use Rattle.lps_choice.proofs.Ends.{is_among, is_among_of, among_is}
use Rattle.lps_choice.proofs.Lists.{reverse_first}

-- ---- numbers in a row

above : (a b n : ℕ) → a < b → AllByRecursion (λ y. nat_cmp a y ≡ Less) (range_with_len b n)
above a b zero lt = tt
above a b (suc n) lt = (rw (lt-ltb a b lt) refl, above a (b + 1) n (omega arith))

range_sorted : (a n : ℕ) → IsStrictlySortedBy nat_cmp (range_with_len a n)
unfolding IsStrictlySortedBy
range_sorted a zero = tt
range_sorted a (suc n) = (above a (a + 1) n (omega arith), range_sorted (a + 1) n)

-- the number of an element is one of the numbers from 1 on
pub has_number : {X : Type 0} (xs : List X) (n : ℕ) (x : X) → numbered xs n ≡ Some x → Contains (range_with_len 1 (length xs)) n
has_number xs zero x e = absurd cc
has_number xs (suc n) x e =
    let within = slice_get_within xs n x e in
    (n, omega (arith, within, length-range_with_len 1 (length xs)), get_or-range_with_len 1 (length xs) n (suc n) within ∙ (omega arith))

-- ---- those that pass a test

passes_filter : {X : Type 0} (test : X → Bool) (xs : List X) (q : X) → test q ≡ true → Contains xs q → Contains (filter test xs) q
passes_filter test [] q passes among = among
passes_filter test (x ∷ xs) q passes among =
    by (test x) refl (elim (first_or_later x xs q among) [ inl same ↦ inl same | inr later ↦ inr (passes_filter test xs q passes later) ])
  where
    by : (passed : Bool) → test x ≡ passed → (x ≡ q) ⊎ Contains (filter test xs) q → Contains (cond passed (x ∷ filter test xs) (filter test xs)) q
    by true e (inl same) = subst (Contains (x ∷ filter test xs)) same (first_is_contained x (filter test xs))
    by true e (inr later) = later_is_contained x (filter test xs) q later
    by false e (inl same) = absurd (let also : test q ≡ false = ap test (sym same) ∙ e in cc)
    by false e (inr later) = later

reverse_filter : {X : Type 0} (test : X → Bool) (xs : List X) → reverse (filter test xs) ≡ filter test (reverse xs)
reverse_filter test [] = refl
reverse_filter test (x ∷ xs) =
    by (test x) refl (reverse_filter test xs) ∙ sym (filter-append test (reverse xs) (x ∷ [])) ∙ ap (filter test) (sym (reverse_first x xs))
  where
    by : (passed : Bool) → test x ≡ passed → reverse (filter test xs) ≡ filter test (reverse xs) →
        reverse (cond passed (x ∷ filter test xs) (filter test xs)) ≡ filter test (reverse xs) ++ cond passed (x ∷ []) []
    by true e rest = reverse_first x (filter test xs) ∙ ap (λ ys. ys ++ x ∷ []) rest
    by false e rest = rest ∙ sym (append-nil (filter test (reverse xs)))

-- ---- goals

-- goals that are rising and have numbers up to a count are those of the numbers up to it that are among them
pub goals_filtered : (goals : List ℕ) (count : ℕ) → IsStrictlySortedBy nat_cmp goals → ((n : ℕ) → Contains goals n → Contains (range_with_len 1 count) n) →
    goals ≡ filter (is_among goals) (range_with_len 1 count)
goals_filtered goals count rising within =
    sorted_same nat_cmp_total nat_cmp-IsAntisymmetric goals (filter (is_among goals) (range_with_len 1 count)) rising
    (IsStrictlySortedBy-filter nat_cmp (is_among goals) (range_with_len 1 count) (range_sorted 1 count))
    (λ n among. passes_filter (is_among goals) (range_with_len 1 count) n (is_among_of goals n among) (within n among))
    (λ n among. among_is goals n (All-contains (λ m. is_among goals m ≡ true) (filter (is_among goals) (range_with_len 1 count)) n (filter_passes (is_among goals) (range_with_len 1 count)) among))

pub order_filtered : (prefer : Prefer) (goals : List ℕ) (count : ℕ) → IsStrictlySortedBy nat_cmp goals → ((n : ℕ) → Contains goals n → Contains (range_with_len 1 count) n) →
    in_order prefer goals ≡ filter (is_among goals) (order_of prefer count)
order_filtered Oldest goals count rising within = goals_filtered goals count rising within
order_filtered Newest goals count rising within = ap reverse (goals_filtered goals count rising within) ∙ reverse_filter (is_among goals) (range_with_len 1 count)

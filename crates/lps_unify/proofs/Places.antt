-- Variables in the order in which they first occur.
use Rattle.std.proofs.Common.{ℕ, Bool, true, false, nat_lt, not, ◌≡◌, ◌+◌, ◌<◌, ◌≤◌, None, Some, List, [], ◌∷◌, ◌++◌, drop, get_or, length, refl, sym, ap, ◌∙◌, arith}
use Rattle.std.specs.Prelude.{zero, suc, if◌then◌else◌}
use Rattle.std.specs.List.{position, position_or_len}
use Rattle.std.proofs.lemmas.Bool.Decides.{nat_tests}
use Rattle.std.proofs.lemmas.List.Sums.{prefix_len-le-length}
use Rattle.lps_terms.specs.declared.term.Term.{Term}
use Rattle.lps_unify.specs.Canonical.{first_seen, with_variable, variables_of, variables_of_all}

-- the place after the last, where none passes
pub none_passes : (p : ℕ → Bool) (xs : List ℕ) → position p xs ≡ None → length xs ≡ position_or_len p xs
none_passes p xs none = by_test (nat_lt (position_or_len p xs) (length xs)) refl none where
  by_test : (test : Bool) → nat_lt (position_or_len p xs) (length xs) ≡ test → (if test then Some (position_or_len p xs) else None) ≡ None → length xs ≡ position_or_len p xs
  by_test true e some = absurd cc
  by_test false e some = let within = prefix_len-le-length (λ x. not (p x)) xs in grind (arith, nat_tests)

-- some variables, and then some more
first_seen_append : (seen xs ys : List ℕ) → first_seen seen (xs ++ ys) ≡ first_seen (first_seen seen xs) ys
first_seen_append seen [] ys = refl
first_seen_append seen (v ∷ xs) ys = first_seen_append (with_variable seen v) xs ys

drop_at : (xs : List Term) (i : ℕ) (y : Term) → i < length xs → y ≡ get_or xs i y → drop i xs ≡ y ∷ drop (suc i) xs
drop_at [] i y lt at = absurd (omega arith)
drop_at (x ∷ xs) zero y lt at = ap (λ z. z ∷ xs) (sym at)
drop_at (x ∷ xs) (suc i) y lt at = drop_at xs i y (omega arith) at

-- the term at i, and then the terms after it
pub see_next : (seen : List ℕ) (xs : List Term) (i : ℕ) (y : Term) → i < length xs → y ≡ get_or xs i y →
    first_seen seen (variables_of_all (drop i xs)) ≡ first_seen (first_seen seen (variables_of y)) (variables_of_all (drop (i + 1) xs))
see_next seen xs i y lt at =
    let next : suc i ≡ i + 1 = omega arith in
    ap (λ ys. first_seen seen (variables_of_all ys)) (drop_at xs i y lt at)
    ∙ first_seen_append seen (variables_of y) (variables_of_all (drop (suc i) xs))
    ∙ ap (λ k. first_seen (first_seen seen (variables_of y)) (variables_of_all (drop k xs))) next

drop_past : (xs : List Term) (i : ℕ) → length xs ≤ i → drop i xs ≡ []
drop_past [] zero le = refl
drop_past [] (suc i) le = refl
drop_past (x ∷ xs) zero le = absurd (omega arith)
drop_past (x ∷ xs) (suc i) le = drop_past xs i (omega arith)

pub see_end : (seen : List ℕ) (xs : List Term) (i : ℕ) → length xs ≤ i → first_seen seen (variables_of_all (drop i xs)) ≡ seen
see_end seen xs i le = ap (λ ys. first_seen seen (variables_of_all ys)) (drop_past xs i le)

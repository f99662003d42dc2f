-- There are no more numbers seen than there are numbers below one that is above them all.
use Rattle.std.proofs.Common.{ℕ, Bool, true, false, nat_eq, ◌≡◌, ◌+◌, ◌<◌, ◌≤◌, List, [], ◌∷◌, ◌++◌, length, refl, sym, ap, subst, ◌∙◌, arith}
use Rattle.std.specs.Prelude.{zero, suc}
use Rattle.std.specs.List.{AllByRecursion}
use Rattle.std.proofs.lemmas.Bool.Decides.{nat_tests}
use Rattle.lps_unify.specs.Canonical.{first_seen, with_variable}
use Rattle.lps_residual.proofs.Places.{is_seen, kept_seen, length_push, new_seen, with_new, with_old}

abbrev one_if : Bool → ℕ
one_if true = 1
one_if false = 0

-- how many of the numbers below u were seen
abbrev count_below : List ℕ → ℕ → ℕ
count_below seen zero = 0
count_below seen (suc u) = count_below seen u + one_if (is_seen seen u)

one_at_most : (b : Bool) → one_if b ≤ 1
one_at_most true = omega arith
one_at_most false = omega arith

count_at_most : (seen : List ℕ) (u : ℕ) → count_below seen u ≤ u
count_at_most seen zero = omega arith
count_at_most seen (suc u) = let before = count_at_most seen u in let here = one_at_most (is_seen seen u) in omega (arith, before, here)

no_fewer : (b c : Bool) → (b ≡ true → c ≡ true) → one_if b ≤ one_if c
no_fewer true true h = omega arith
no_fewer false true h = omega arith
no_fewer false false h = omega arith
no_fewer true false h = absurd (let e : false ≡ true = h refl in cc)

-- with one more seen, the count is no less
count_kept : (seen : List ℕ) (v u : ℕ) → count_below seen u ≤ count_below (seen ++ v ∷ []) u
count_kept seen v zero = omega arith
count_kept seen v (suc u) =
    let before = count_kept seen v u in
    let here = no_fewer (is_seen seen u) (is_seen (seen ++ v ∷ []) u) (kept_seen seen (v ∷ []) u) in
    omega (arith, before, here)

-- and it is more, where that one is new and below
count_grown : (seen : List ℕ) (v u : ℕ) → v < u → is_seen seen v ≡ false → count_below seen u + 1 ≤ count_below (seen ++ v ∷ []) u
count_grown seen v zero lt new = absurd (omega (arith, lt))
count_grown seen v (suc u) lt new = by (nat_eq u v) refl (count_grown seen v u)
  where
    by : (same : Bool) → nat_eq u v ≡ same → (v < u → is_seen seen v ≡ false → count_below seen u + 1 ≤ count_below (seen ++ v ∷ []) u) →
        count_below seen (suc u) + 1 ≤ count_below (seen ++ v ∷ []) (suc u)
    by true e grown =
        let same : v ≡ u = grind (arith, nat_tests) in
        let before = count_kept seen v u in
        let none : one_if (is_seen seen u) ≡ 0 = ap one_if (ap (is_seen seen) (sym same) ∙ new) in
        let one : one_if (is_seen (seen ++ v ∷ []) u) ≡ 1 = ap one_if (ap (is_seen (seen ++ v ∷ [])) (sym same) ∙ new_seen seen v new) in
        omega (arith, before, none, one)
    by false e grown =
        let less : v < u = grind (arith, nat_tests) in
        let before = grown less new in
        let here = no_fewer (is_seen seen u) (is_seen (seen ++ v ∷ []) u) (kept_seen seen (v ∷ []) u) in
        omega (arith, before, here)

-- those seen are counted
abbrev AreCounted : ℕ → List ℕ → Type 0
AreCounted u seen = length seen ≤ count_below seen u

counted_on : (u : ℕ) (seen : List ℕ) (v : ℕ) → AreCounted u seen → v < u → is_seen seen v ≡ false → AreCounted u (seen ++ v ∷ [])
counted_on u seen v few lt new = let longer = length_push seen v in let grown = count_grown seen v u lt new in omega (arith, few, longer, grown)

abbrev AreFew : ℕ → List ℕ → List ℕ → Type 0
AreFew u seen vs = AreCounted u seen → AllByRecursion (λ v. v < u) vs → length (first_seen seen vs) ≤ u

seen_few : (u : ℕ) (seen vs : List ℕ) → AreFew u seen vs
seen_few u seen [] few below = let most = count_at_most seen u in omega (arith, few, most)
seen_few u seen (v ∷ vs) few below = by (is_seen seen v) refl (seen_few u seen vs) (seen_few u (seen ++ v ∷ []) vs)
  where
    by : (old : Bool) → is_seen seen v ≡ old → AreFew u seen vs → AreFew u (seen ++ v ∷ []) vs → length (first_seen (with_variable seen v) vs) ≤ u
    by true e kept grown = subst (λ xs. length (first_seen xs vs) ≤ u) (sym (with_old seen v e)) (kept few below.1)
    by false e kept grown = subst (λ xs. length (first_seen xs vs) ≤ u) (sym (with_new seen v e)) (grown (counted_on u seen v few below.0 e) below.1)

pub all_few : (u : ℕ) (vs : List ℕ) → AllByRecursion (λ v. v < u) vs → length (first_seen [] vs) ≤ u
all_few u vs below = seen_few u [] vs (omega arith) below

-- How the order of two lists ends, where the one or the other is at its end.
use Rattle.std.specs.Prelude.{ℕ, ◌≤◌, zero, suc, ◌≡◌, List, [], ◌∷◌, length, min, true, refl}
use Rattle.std.specs.declared.cmp.Ordering.{Ordering}
use Rattle.std.specs.declared.cmp.Ordering.TheVariants.{Less, Equal, Greater}
use Rattle.std.specs.Ordering.{nat_cmp, ordering_index}
use Rattle.std.specs.Bool.{◌==◌}
use Rattle.std.specs.Cmp.{nat_cmp_is}
use Rattle.std.specs.Cmp.Lexicographic.{slice_cmp}
use Rattle.std.proofs.Common.{◌∙◌, arith, drop}
use Rattle.std.proofs.lemmas.Bool.Decides.{nat_tests}

pub index_one : (o : Ordering) → true ≡ (ordering_index o == 1) → o ≡ Equal
index_one Less e = absurd (cc)
index_one Equal e = refl
index_one Greater e = absurd (cc)

nat_cmp-suc : (m n : ℕ) → nat_cmp m n ≡ nat_cmp (suc m) (suc n)
nat_cmp-suc m n = grind (arith, nat_tests)

module _ {X : Type 0} (R : X → X → Ordering) where
  -- where one list is at its end, the lengths decide
  pub slice_cmp-ends : (i : ℕ) (xs ys : List X) → i ≤ length xs → i ≤ length ys → min (length xs) (length ys) ≤ i →
      slice_cmp R (drop i xs) (drop i ys) ≡ nat_cmp (length xs) (length ys)
  slice_cmp-ends zero [] [] p q e = refl
  slice_cmp-ends zero [] (y ∷ ys) p q e = nat_cmp_is 0 (length (y ∷ ys)) Less (omega arith)
  slice_cmp-ends zero (x ∷ xs) [] p q e = nat_cmp_is (length (x ∷ xs)) 0 Greater (omega arith)
  slice_cmp-ends zero (x ∷ xs) (y ∷ ys) p q e = absurd (omega arith)
  slice_cmp-ends (suc i) [] ys p q e = absurd (omega arith)
  slice_cmp-ends (suc i) (x ∷ xs) [] p q e = absurd (omega arith)
  slice_cmp-ends (suc i) (x ∷ xs) (y ∷ ys) p q e =
      slice_cmp-ends i xs ys (omega arith) (omega arith) (omega arith) ∙ nat_cmp-suc (length xs) (length ys)

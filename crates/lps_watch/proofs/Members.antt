-- What stands in a set after one more or one less, and that a list in order has each once.
use Rattle.std.proofs.Common.{ℕ, ◌≡◌, ◌⊎◌, ◌↔◌, List, [], ◌∷◌, Contains, refl, sym, ap, subst, ◌∙◌, inl, inr, Bool, true, false, cond, IsTrue}
use Rattle.std.specs.Prelude.{zero, suc, Some, slice_get}
use Rattle.std.specs.Bool.{Decides}
use Rattle.std.specs.BTreeMap.{is_at}
use Rattle.std.specs.BTreeSet.{BTreeSet, contains}
use Rattle.std.specs.Cmp.{IsTotalOrder, tied_itself}
use Rattle.std.specs.FinMap.{IsAntisymmetric}
use Rattle.std.specs.List.{AllByRecursion}
use Rattle.std.specs.List.Sorted.{IsStrictlySortedBy}
use Rattle.std.specs.declared.cmp.Ordering.{Ordering}
use Rattle.std.specs.declared.cmp.Ordering.TheVariants.{Less, Equal}
use Rattle.std.proofs.lemmas.Map.Keys.{sorted_head, sorted_tail}
use Rattle.std.proofs.lemmas.Map.Views.{btree_set_contains_iff}
use Rattle.lps_terms.specs.OrderLaws.{eq_by_cmp-decides}

pub true_not_false : true ≡ false → ⊥
true_not_false e = absurd cc

-- the element that stands at a place
at_place : {X : Type 0} (P : X → Type 0) (xs : List X) (i : ℕ) (x : X) → AllByRecursion P xs → slice_get xs i ≡ Some x → P x
at_place P [] i x all e = absurd cc
at_place P (y ∷ xs) zero x all e = let same : y ≡ x = cc in subst P same all.0
at_place P (y ∷ xs) (suc i) x all e = at_place P xs i x all.1 e

module _ {K : Type 0} {R : K → K → Ordering} (total : IsTotalOrder R) (exact : IsAntisymmetric R) where
  pub has : (s : BTreeSet K) (k : K) → IsTrue (contains R s k) ↔ Contains s.keys k
  has = btree_set_contains_iff total exact

  -- one more
  pub with_one : (k : K) (old new : BTreeSet K) → ((q : K) → contains R new q ≡ cond (is_at (R k) q) true (contains R old q)) → (q : K) → Contains new.keys q ↔ (Contains old.keys q ⊎ (q ≡ k))
  with_one k old new after q = by (is_at (R k) q) refl where
    tied : Decides (is_at (R k) q) (k ≡ q)
    tied = eq_by_cmp-decides total exact k q

    by : (b : Bool) → is_at (R k) q ≡ b → Contains new.keys q ↔ (Contains old.keys q ⊎ (q ≡ k))
    by true e = (λ h. inr (sym (tied.0 e)), λ h. (has new q).0 (after q ∙ ap (λ b. cond b true (contains R old q)) e))
    by false e =
        let same : contains R new q ≡ contains R old q = after q ∙ ap (λ b. cond b true (contains R old q)) e in (
          λ h. inl ((has old q).0 (sym same ∙ (has new q).1 h)),
          λ h. elim h [
            | inl there ↦ (has new q).0 (same ∙ (has old q).1 there)
            | inr is ↦ absurd (true_not_false (sym (tied.1 (sym is)) ∙ e))
          ],
        )

  -- one less
  pub without_one : (k : K) (old new : BTreeSet K) → ((q : K) → contains R new q ≡ cond (is_at (R k) q) false (contains R old q)) → (q : K) → Contains new.keys q ↔ (Contains old.keys q × (q ≡ k → ⊥))
  without_one k old new after q = by (is_at (R k) q) refl where
    tied : Decides (is_at (R k) q) (k ≡ q)
    tied = eq_by_cmp-decides total exact k q

    by : (b : Bool) → is_at (R k) q ≡ b → Contains new.keys q ↔ (Contains old.keys q × (q ≡ k → ⊥))
    by true e = (
      λ h. absurd (true_not_false (sym ((has new q).1 h) ∙ after q ∙ ap (λ b. cond b false (contains R old q)) e)),
      λ h. absurd (h.1 (sym (tied.0 e))),
    )
    by false e =
        let same : contains R new q ≡ contains R old q = after q ∙ ap (λ b. cond b false (contains R old q)) e in (
          λ h. ((has old q).0 (sym same ∙ (has new q).1 h), λ is. true_not_false (sym (tied.1 (sym is)) ∙ e)),
          λ h. (has new q).0 (same ∙ (has old q).1 h.0),
        )

  apart : (x y : K) → R x y ≡ Less → x ≡ y → ⊥
  apart x y less same =
      let tie : R x y ≡ Equal = ap (R x) (sym same) ∙ tied_itself total x in
      absurd (cc (less, tie))

  -- what is in order stands once
  pub once : (xs : List K) → IsStrictlySortedBy R xs → (i j : ℕ) (x : K) → slice_get xs i ≡ Some x → slice_get xs j ≡ Some x → i ≡ j
  once [] sorted i j x e f = absurd cc
  once (y ∷ xs) sorted zero zero x e f = refl
  once (y ∷ xs) sorted zero (suc j) x e f = let same : y ≡ x = cc in absurd (apart y x (at_place (λ z. R y z ≡ Less) xs j x (sorted_head R y xs sorted) f) same)
  once (y ∷ xs) sorted (suc i) zero x e f = let same : y ≡ x = cc in absurd (apart y x (at_place (λ z. R y z ≡ Less) xs i x (sorted_head R y xs sorted) e) same)
  once (y ∷ xs) sorted (suc i) (suc j) x e f = ap suc (once xs (sorted_tail R y xs sorted) i j x e f)

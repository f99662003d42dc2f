-- Atoms in order, each once: how they come of a sort, and how one is found among them.
use Rattle.std.proofs.Common.{ℕ, Bool, true, false, nat_lt, ◌≡◌, ◌+◌, ◌≤◌, ◌<◌, arith, List, [], length, get_or, refl, sym, ap, ◌∙◌, subst}
use Rattle.std.specs.Prelude.{◌↔◌, Contains, Result, Ok, Err, is_ok}
use Rattle.std.specs.List.Retain.{DiffersFromLast, IsFiltered}
use Rattle.std.specs.List.Sorted.{IsBinarySearchResult, IsPermutation, IsSearchInRange, IsSorted, IsStrictlySortedBy}
use Rattle.std.specs.List.{dedup}
use Rattle.std.specs.Cmp.{eq_by_cmp_equiv, tied_itself}
use Rattle.std.specs.Ordering.{is_lt, ordering_reverse}
use Rattle.std.specs.declared.cmp.Ordering.TheVariants.{Less, Equal, Greater}
use Rattle.std.proofs.lemmas.Bool.Decides.{nat_tests}
use Rattle.std.proofs.lemmas.List.Elements.{Contains-get_or}
use Rattle.std.proofs.lemmas.List.Filters.{dedup_is}
use Rattle.std.proofs.lemmas.List.Kept.{Contains-dedup, Contains-from_dedup, IsStrictlySortedBy-dedup}
use Rattle.std.proofs.lemmas.List.Sorted.{Contains-permutation, IsPermutation-sym, searchable_from_sorted}
use Rattle.std.proofs.lemmas.Map.Keys.{Less-from_sorted}
use Rattle.lps_terms.specs.declared.atom.Atom.{Atom}
use Rattle.lps_terms.specs.Order.{atom_cmp, atom_eq}
use Rattle.lps_terms.specs.OrderLaws.{atom_cmp-IsAntisymmetric, atom_cmp_total, atom_eq-decides}
use Rattle.lps_facts.specs.Facts.{is_among}
use Rattle.lps_solve.proofs.Facts.{among_contains, contains_among}

-- ---- sorted, and each once

module _ (atoms sorted kept : List Atom) (moved : IsPermutation atoms sorted) (order : IsSorted atom_cmp sorted) (once : IsFiltered (DiffersFromLast atom_eq) [] sorted kept) where
  kept_is : kept ≡ dedup atom_eq sorted
  kept_is = dedup_is atom_eq sorted kept once

  pub in_order : IsStrictlySortedBy atom_cmp kept
  in_order = subst (IsStrictlySortedBy atom_cmp) (sym kept_is) (IsStrictlySortedBy-dedup atom_cmp_total (λ x y. refl) sorted order)

  pub same_atoms : (a : Atom) → Contains kept a ↔ Contains atoms a
  same_atoms a = (
    λ h. Contains-permutation sorted atoms a (IsPermutation-sym atoms sorted moved) (Contains-from_dedup atom_eq sorted a (subst (λ (xs : List Atom). Contains xs a) kept_is h)),
    λ h. subst (λ (xs : List Atom). Contains xs a) (sym kept_is)
        (Contains-dedup (eq_by_cmp_equiv atom_cmp_total) (λ x y. (atom_eq-decides x y).0) sorted a (Contains-permutation atoms sorted a moved h)),
  )

-- ---- one of them

module _ (these : List Atom) (a : Atom) (sorted : IsStrictlySortedBy atom_cmp these) where
  rises : IsSorted atom_cmp these
  rises = λ k d low lt. ap is_lt (atom_cmp_total.antisymm (get_or these (k + 1) d) (get_or these k d) ∙ ap ordering_reverse (Less-from_sorted atom_cmp these k (k + 1) d sorted (omega arith) lt))

  there : (i : ℕ) → i < length these → ((d : Atom) → atom_cmp (get_or these i d) a ≡ Equal) → is_among these a ≡ true
  there i lt equal =
      let same : get_or these i a ≡ a = atom_cmp-IsAntisymmetric (get_or these i a) a (equal a) in
      among_contains a these (subst (Contains these) same (Contains-get_or these i a lt))

  -- an atom that is there is tied with itself
  tied : (k : ℕ) → get_or these k a ≡ a → atom_cmp (get_or these k a) a ≡ Equal
  tied k same = ap (λ x. atom_cmp x a) same ∙ tied_itself atom_cmp_total a

  apart : (i : ℕ) → ((k : ℕ) (d : Atom) → 0 ≤ k → k < i → atom_cmp (get_or these k d) a ≡ Less) → ((k : ℕ) (d : Atom) → i ≤ k → k < length these → atom_cmp (get_or these k d) a ≡ Greater) →
      Contains these a → ⊥
  apart i below above h = by (nat_lt h.0 i) refl
    where
      same : atom_cmp (get_or these h.0 a) a ≡ Equal
      same = tied h.0 h.2

      by : (first : Bool) → nat_lt h.0 i ≡ first → ⊥
      by true e = let less = below h.0 a (omega arith) (grind (arith, nat_tests)) in cc (less, same)
      by false e = let more = above h.0 a (grind (arith, nat_tests)) h.1 in cc (more, same)

  absent : (found : Bool) → (found ≡ true → ⊥) → false ≡ found
  absent true never = absurd (never refl)
  absent false never = refl

  -- a binary search tells whether the atom is there
  pub searched : (r : Result ℕ ℕ) → IsSearchInRange r (length these) → IsBinarySearchResult (λ y. atom_cmp y a) these r → is_ok r ≡ is_among these a
  searched (Ok i) range found = sym (there i range found)
  searched (Err i) range found =
      let parts = found (searchable_from_sorted atom_cmp_total (λ x. x) these a rises) in
      absent (is_among these a) (λ among. apart i parts.0 parts.1 (contains_among a these among))

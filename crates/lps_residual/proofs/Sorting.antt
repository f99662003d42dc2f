-- Atoms that were sorted, with each kept once, are in order and the same.
use Rattle.std.proofs.Common.{◌≡◌, List, [], refl, sym, subst}
use Rattle.std.specs.Prelude.{◌↔◌, Contains}
use Rattle.std.specs.List.Retain.{DiffersFromLast, IsFiltered}
use Rattle.std.specs.List.Sorted.{IsPermutation, IsSorted, IsStrictlySortedBy}
use Rattle.std.specs.List.{dedup}
use Rattle.std.specs.Cmp.{eq_by_cmp_equiv}
use Rattle.std.proofs.lemmas.List.Filters.{dedup_is}
use Rattle.std.proofs.lemmas.List.Kept.{Contains-dedup, Contains-from_dedup, IsStrictlySortedBy-dedup}
use Rattle.std.proofs.lemmas.List.Sorted.{Contains-permutation, IsPermutation-sym}
use Rattle.lps_terms.specs.declared.atom.Atom.{Atom}
use Rattle.lps_terms.specs.Order.{atom_cmp, atom_eq}
use Rattle.lps_terms.specs.OrderLaws.{atom_cmp_total, atom_eq-decides}

module _ (atoms sorted kept : List Atom) (moved : IsPermutation atoms sorted) (order : IsSorted atom_cmp sorted) (once : IsFiltered (DiffersFromLast atom_eq) [] sorted kept) where
  kept_is : kept ≡ dedup atom_eq sorted
  kept_is = dedup_is atom_eq sorted kept once

  pub in_order : IsStrictlySortedBy atom_cmp kept
  in_order = subst (IsStrictlySortedBy atom_cmp) (sym kept_is) (IsStrictlySortedBy-dedup atom_cmp_total (λ x y. refl) sorted order)

  pub same_atoms : (a : Atom) → Contains kept a ↔ Contains atoms a
  same_atoms a = (
    λ h. Contains-permutation sorted atoms a (IsPermutation-sym atoms sorted moved) (Contains-from_dedup atom_eq sorted a (subst (λ (xs : List Atom). Contains xs a) kept_is h)),
    λ h. subst (λ (xs : List Atom). Contains xs a) (sym kept_is)
        (Contains-dedup (eq_by_cmp_equiv atom_cmp_total) (λ x y. (atom_eq-decides x y).0) sorted a (Contains-permutation atoms sorted a moved h)),
  )

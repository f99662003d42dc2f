-- Those of some facts that meet a condition.
use Rattle.std.proofs.Common.{◌≡◌, Bool, true, false, List, [], ◌∷◌, ◌++◌, refl, sym, ap, subst, ◌∙◌, inl, inr}
use Rattle.std.specs.Prelude.{◌↔◌, ◌||◌}
use Rattle.std.specs.List.Sorted.{IsStrictlySortedBy}
use Rattle.std.proofs.lemmas.List.{append-nil, append_assoc}
use Rattle.std.proofs.lemmas.Map.Keys.{sorted_head, sorted_tail}
use Rattle.lps_terms.specs.declared.atom.Atom.{Atom}
use Rattle.lps_terms.specs.Order.{atom_cmp, atom_eq}
use Rattle.lps_terms.specs.OrderLaws.{atom_eq-decides}
use Rattle.lps_facts.specs.Facts.{is_among}
use Rattle.lps_facts.specs.Matching.{IsSelection, IsPicked}
use Rattle.lps_facts.proofs.Sets.{AreAbove, sorted_cons, sorted_none, true_not_false}

or_true : (a b : Bool) → b ≡ true → (a || b) ≡ true
or_true true b h = refl
or_true false b h = h

module _ (P : Atom → Type 0) where
  selected_above : (x : Atom) (facts selected : List Atom) → AreAbove x facts → IsSelection P facts selected → AreAbove x selected
  selected_above x [] selected above is = subst (AreAbove x) (sym is) tt
  selected_above x (fact ∷ facts) selected above (inl meets) = subst (AreAbove x) (sym meets.1.1) (above.0, selected_above x facts meets.1.0 above.1 meets.1.2)
  selected_above x (fact ∷ facts) selected above (inr misses) = selected_above x facts selected above.1 misses.1

  pub selected_sorted : (facts selected : List Atom) → IsStrictlySortedBy atom_cmp facts → IsSelection P facts selected → IsStrictlySortedBy atom_cmp selected
  selected_sorted [] selected sorted is = subst (IsStrictlySortedBy atom_cmp) (sym is) sorted_none
  selected_sorted (fact ∷ facts) selected sorted (inl meets) =
      subst (IsStrictlySortedBy atom_cmp) (sym meets.1.1)
      (sorted_cons fact meets.1.0 (selected_above fact facts meets.1.0 (sorted_head atom_cmp fact facts sorted) meets.1.2)
      (selected_sorted facts meets.1.0 (sorted_tail atom_cmp fact facts sorted) meets.1.2))
  selected_sorted (fact ∷ facts) selected sorted (inr misses) = selected_sorted facts selected (sorted_tail atom_cmp fact facts sorted) misses.1

  abbrev Selects : List Atom → List Atom → Atom → Type 0
  Selects facts selected q = (is_among selected q ≡ true) ↔ ((is_among facts q ≡ true) × P q)

  with_first : (fact : Atom) (facts rest : List Atom) (q : Atom) → P fact → Selects facts rest q → (tied : Bool) → atom_eq q fact ≡ tied →
      ((tied || is_among rest q) ≡ true) ↔ (((tied || is_among facts q) ≡ true) × P q)
  with_first fact facts rest q meets later true e = (λ h. (refl, subst P (sym ((atom_eq-decides q fact).0 e)) meets), λ h. refl)
  with_first fact facts rest q meets later false e = later

  without_first : (fact : Atom) (facts selected : List Atom) (q : Atom) → (P fact → ⊥) → Selects facts selected q → (tied : Bool) → atom_eq q fact ≡ tied →
      (is_among selected q ≡ true) ↔ (((tied || is_among facts q) ≡ true) × P q)
  without_first fact facts selected q misses later true e = (λ h. (refl, (later.0 h).1), λ h. absurd (misses (subst P ((atom_eq-decides q fact).0 e) h.1)))
  without_first fact facts selected q misses later false e = later

  pub selected_are : (facts selected : List Atom) → IsSelection P facts selected → (q : Atom) → (is_among selected q ≡ true) ↔ ((is_among facts q ≡ true) × P q)
  selected_are [] selected is q = (λ h. absurd (true_not_false (sym h ∙ ap (λ (xs : List Atom). is_among xs q) is)), λ h. absurd (true_not_false (sym h.0)))
  selected_are (fact ∷ facts) selected (inl meets) q =
      subst (λ (xs : List Atom). Selects (fact ∷ facts) xs q) (sym meets.1.1)
      (with_first fact facts meets.1.0 q meets.0 (selected_are facts meets.1.0 meets.1.2 q) (atom_eq q fact) refl)
  selected_are (fact ∷ facts) selected (inr misses) q = without_first fact facts selected q misses.0 (selected_are facts selected misses.1 q) (atom_eq q fact) refl

  -- what is selected of the first facts, and the facts that are left
  abbrev pub Continues : List Atom → List Atom → List Atom → Type 0
  Continues whole left selected = (rest : List Atom) → IsSelection P left rest → IsSelection P whole (selected ++ rest)

  pub continues_picked : (whole left : List Atom) (fact : Atom) (old new : List Atom) → Continues whole (fact ∷ left) old → IsPicked P fact old new → Continues whole left new
  continues_picked whole left fact old new before (inl meets) rest is =
      subst (IsSelection P whole) (sym (append_assoc old (fact ∷ []) rest) ∙ ap (λ (xs : List Atom). xs ++ rest) (sym meets.1)) (before (fact ∷ rest) (inl (meets.0, (rest, refl, is))))
  continues_picked whole left fact old new before (inr misses) rest is =
      subst (IsSelection P whole) (ap (λ (xs : List Atom). xs ++ rest) (sym misses.1)) (before rest (inr (misses.0, is)))

  pub continues_done : (whole selected : List Atom) → Continues whole [] selected → IsSelection P whole selected
  continues_done whole selected before = subst (IsSelection P whole) (append-nil selected) (before [] refl)

-- From tables to what is found among the statements of a text.
use Rattle.std.proofs.Common.{ℕ, Bool, true, false, ◌≡◌, ◌<◌, List, [], ◌∷◌, map, length, refl, sym, ap, ◌∙◌, subst, arith}
use Rattle.std.specs.Prelude.{◌&&◌, ◌||◌, zero, suc, IsTrue, Some, nat_lt, slice_get, Contains}
use Rattle.std.specs.List.{list_any}
use Rattle.std.proofs.lemmas.Bool.Decides.{nat_tests}
use Rattle.lps_terms.specs.declared.atom.Atom.{Atom}
use Rattle.lps_terms.specs.Names.{name_eq}
use Rattle.lps_model.proofs.Elements.{first_is_contained}
use Rattle.lps_model.specs.Clauses.{Clause}
use Rattle.lps_index.specs.Matching.{may_match}
use Rattle.lps_index.specs.Spoken.{AreFound, IsFound, of_clause}
use Rattle.lps_index.specs.Table.{found_in, IsTableOf}
use Rattle.lps_index.specs.declared.table.Table.{Table}
use Rattle.lps_index.proofs.Growing.{same_some}

-- ---- a list of what each statement is found by

to_map : {X : Type 0} (f : X → List Atom) (xs : List X) (i : ℕ) (x : X) → slice_get xs i ≡ Some x → slice_get (map f xs) i ≡ Some (f x)
to_map f [] i x e = absurd (cc)
to_map f (y ∷ xs) zero x e = ap (λ z. Some (f z)) (same_some y x e)
to_map f (y ∷ xs) (suc i) x e = to_map f xs i x e

from_map : {X : Type 0} (f : X → List Atom) (xs : List X) (i : ℕ) (ys : List Atom) → slice_get (map f xs) i ≡ Some ys → (x : X) × (slice_get xs i ≡ Some x) × (f x ≡ ys)
from_map f [] i ys e = absurd (cc)
from_map f (x ∷ xs) zero ys e = (x, refl, same_some (f x) ys e)
from_map f (x ∷ xs) (suc i) ys e = from_map f xs i ys e

module _ {X : Type 0} (speaks : X → List Atom) (xs : List X) (asked : Atom) (i : ℕ) where
  through : IsFound (λ atoms. atoms) (map speaks xs) asked i → IsFound speaks xs asked i
  through h =
      let at = from_map speaks xs i h.statement h.at in
      record { statement = at.0; at = at.1; matching = subst (λ (atoms : List Atom). IsTrue (list_any (may_match asked) atoms)) (sym at.2) h.matching }

  back : IsFound speaks xs asked i → IsFound (λ atoms. atoms) (map speaks xs) asked i
  back h = record { statement = speaks h.statement; at = to_map speaks xs i h.statement h.at; matching = h.matching }

-- what a table finds is found among the statements
pub table_finds : {X : Type 0} (speaks : X → List Atom) (xs ys : List X) → xs ≡ ys → (table : Table) → IsTableOf (map speaks xs) table → (asked : Atom) (places : List ℕ) → places ≡ found_in table asked → AreFound speaks ys asked places
table_finds speaks xs ys same table is asked places e = subst (λ zs. AreFound speaks zs asked places) same (λ i. (
  λ h. through speaks xs asked i ((is.found asked i).0 (subst (λ (ps : List ℕ). Contains ps i) e h)),
  λ h. subst (λ (ps : List ℕ). Contains ps i) (sym e) ((is.found asked i).1 (back speaks xs asked i h)),
))

-- ---- whether anything is found

both_true : (a b : Bool) → (a && b) ≡ true → a ≡ true
both_true true b h = refl
both_true false b h = h

with_true : (a : Bool) → a ≡ true → IsTrue ((a && true) || false)
with_true true e = refl
with_true false e = absurd (cc)

from_true : (a : Bool) → IsTrue ((a && true) || false) → a ≡ true
from_true true h = refl
from_true false h = absurd (cc)

module _ {X : Type 0} (test : X → Bool) where
  abbrev IsSome : List X → Type 0
  IsSome xs = (i : ℕ) × (x : X) × (slice_get xs i ≡ Some x) × (test x ≡ true)

  some_place : (xs : List X) → list_any test xs ≡ true → IsSome xs
  some_place [] e = absurd (cc)
  some_place (x ∷ xs) e = by (test x) refl (some_place xs) e
    where
      by : (first : Bool) → test x ≡ first → (list_any test xs ≡ true → IsSome xs) → (first || list_any test xs) ≡ true → IsSome (x ∷ xs)
      by true f rest e = (0, x, refl, f)
      by false f rest e = let later = rest e in (suc later.0, later.1, later.2, later.3)

  any_place : (xs : List X) (i : ℕ) (x : X) → slice_get xs i ≡ Some x → test x ≡ true → list_any test xs ≡ true
  any_place [] i x e t = absurd (cc)
  any_place (y ∷ xs) zero x e t = let is : test y ≡ true = ap test (same_some y x e) ∙ t in ap (λ b. b || list_any test xs) is
  any_place (y ∷ xs) (suc i) x e t = by (test y) (any_place xs i x e t)
    where
      by : (first : Bool) → list_any test xs ≡ true → (first || list_any test xs) ≡ true
      by true later = refl
      by false later = later

is_positive : (n : ℕ) → 0 < n → nat_lt 0 n ≡ true
is_positive n lt = grind (arith, nat_tests)

module _ (clauses : List Clause) (name : List ℕ) (places : List ℕ) (are : AreFound of_clause clauses (record { name = name; args = [] }) places) where
  abbrev has_name : Clause → Bool
  has_name clause = name_eq name clause.head.name

  by : (found : List ℕ) → found ≡ places → (b : Bool) → list_any has_name clauses ≡ b → nat_lt 0 (length found) ≡ b
  by found e true some =
      let one = some_place has_name clauses some in
      let there = (are one.0).1 (record { statement = one.1; at = one.2; matching = with_true (has_name one.1) one.3 }) in
      let inside : there.0 < length places = there.1 in
      let same : length found ≡ length places = ap (λ ps. length ps) e in
      is_positive (length found) (omega (arith, inside, same))
  by [] e false none = refl
  by (p ∷ found) e false none =
      let h = (are p).0 (subst (λ (ps : List ℕ). Contains ps p) e (first_is_contained p found)) in
      absurd (let some = any_place has_name clauses p h.statement h.at (from_true (has_name h.statement) h.matching) in cc (none, some))

  -- a clause is found by a name exactly where one has it
  pub has_one : nat_lt 0 (length places) ≡ list_any has_name clauses
  has_one = by places refl (list_any has_name clauses) refl

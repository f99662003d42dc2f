-- The rows of the facts that match a goal.
use Rattle.std.proofs.Common.{Bool, true, false, ◌≡◌, ◌+◌, ◌≤◌, ◌↔◌, List, [], ◌∷◌, refl, sym, ap, ◌∙◌, subst, inl, inr}
use Rattle.std.specs.Prelude.{Contains, IsTrue, ◌||◌}
use Rattle.lps_terms.specs.declared.atom.Atom.{Atom}
use Rattle.lps_terms.specs.declared.term.Term.{Term}
use Rattle.lps_terms.specs.Order.{atom_eq}
use Rattle.lps_terms.specs.OrderLaws.{atom_eq-decides}
use Rattle.lps_terms.specs.Put.{put_atom}
use Rattle.lps_terms.specs.Symbols.{symbols_of_all}
use Rattle.lps_model.proofs.Elements.{first_or_later, first_is_contained, later_is_contained, nothing_contained}
use Rattle.lps_facts.specs.Facts.{is_among}
use Rattle.lps_facts.specs.Matching.{IsInstance}
use Rattle.lps_solve.specs.Found.{atom_of, Gains, IsFactFor, IsRowOf}
use Rattle.lps_solve.proofs.Gaining.{ByOne, Gains-same}

among_by : (q a : Atom) (atoms : List Atom) (same : Bool) → atom_eq q a ≡ same → (same || is_among atoms q) ≡ true → (is_among atoms q ≡ true → Contains atoms q) → Contains (a ∷ atoms) q
among_by q a atoms true e h rest = subst (Contains (a ∷ atoms)) (sym ((atom_eq-decides q a).0 e)) (first_is_contained a atoms)
among_by q a atoms false e h rest = later_is_contained a atoms q (rest h)

pub contains_among : (q : Atom) (atoms : List Atom) → is_among atoms q ≡ true → Contains atoms q
contains_among q [] h = absurd (let no_atoms : false ≡ true = h in cc)
contains_among q (a ∷ atoms) h = among_by q a atoms (atom_eq q a) refl h (contains_among q atoms)

or_right : (b : Bool) → (b || true) ≡ true
or_right true = refl
or_right false = refl

pub among_contains : (q : Atom) (atoms : List Atom) → Contains atoms q → is_among atoms q ≡ true
among_contains q [] h = absurd (nothing_contained q h)
among_contains q (a ∷ atoms) h = elim (first_or_later a atoms q h) [
  | inl e ↦ ap (λ b. b || is_among atoms q) ((atom_eq-decides q a).1 (sym e))
  | inr later ↦ ap (λ b. atom_eq q a || b) (among_contains q atoms later) ∙ or_right (atom_eq q a)
]

module _ (facts : List Atom) (goal : Atom) (matching : List Atom) (are : (fact : Atom) → IsTrue (is_among matching fact) ↔ (IsTrue (is_among facts fact) × IsInstance goal fact)) where
  row_to : (x : List Term) → ByOne matching IsRowOf x → IsFactFor facts goal x
  row_to x h =
      let both = (are h.0).0 (among_contains h.0 matching h.1) in
      let row = h.2 in
      let named : h.0.name ≡ goal.name = ap (λ (a : Atom). a.name) (sym both.1.1) in
      let whole : h.0 ≡ atom_of goal.name x = (λ i. record { name = named i; args = (sym row.is) i }) in
      record {
        among = subst (Contains facts) whole (contains_among h.0 facts both.0);
        values = both.1.0;
        is = row.is ∙ ap (λ (a : Atom). a.args) (sym both.1.1);
        small = subst (λ (xs : List Term). 1 + symbols_of_all xs ≤ 1024) (sym row.is) row.small;
      }

  row_from : (x : List Term) → IsFactFor facts goal x → ByOne matching IsRowOf x
  row_from x h =
      let whole : put_atom h.values goal ≡ atom_of goal.name x = (λ i. record { name = goal.name; args = (sym h.is) i }) in
      let among = (are (atom_of goal.name x)).1 (among_contains (atom_of goal.name x) facts h.among, (h.values, whole)) in
      (atom_of goal.name x, contains_among (atom_of goal.name x) matching among, record { is = refl; small = h.small })

  pub fact_rows : (old new : List (List Term)) → Gains old new (ByOne matching IsRowOf) → Gains old new (IsFactFor facts goal)
  fact_rows old new g = Gains-same old new (ByOne matching IsRowOf) (IsFactFor facts goal) row_to row_from g

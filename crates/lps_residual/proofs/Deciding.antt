-- Terms and atoms that compare as equal are the same.
use Rattle.std.specs.Prelude.{◌≡◌, ◌↔◌, IsTrue, Bool}
use Rattle.std.specs.Bool.{Decides}
use Rattle.lps_terms.specs.declared.atom.Atom.{Atom}
use Rattle.lps_terms.specs.declared.term.Term.{Term}
use Rattle.lps_terms.specs.Order.{atom_eq, term_eq}
use Rattle.lps_terms.specs.OrderLaws.{atom_eq-decides, term_eq-decides}

-- a test that decides is true exactly where it says so
by_test : {P : Type 0} (r : Bool) → Decides r P → IsTrue r ↔ P
by_test r d = (d.0, d.1)

pub same_term : (x y : Term) → IsTrue (term_eq x y) ↔ (x ≡ y)
same_term x y = by_test (term_eq x y) (term_eq-decides x y)

pub same_atom : (a b : Atom) → IsTrue (atom_eq a b) ↔ (a ≡ b)
same_atom a b = by_test (atom_eq a b) (atom_eq-decides a b)

-- The laws of derivation over a list of facts.
use Rattle.std.specs.Prelude.{ℕ, Bool, ◌↔◌, ◌⊎◌, IsTrue, List, Contains}
use Rattle.lps_terms.specs.declared.atom.Atom.{Atom}
use Rattle.lps_terms.specs.declared.built.Built.{Built}
use Rattle.lps_model.specs.Clauses.{Clause}
use Rattle.lps_derivation.specs.Derivation.{IsDerived, Follows}
use Rattle.lps_derivation.specs.Levels.{AreLevels, AreClosed}

-- the built-ins that pass a test are true
abbrev pub Passes : (Built → Bool) → Built → Type 0
Passes test b = IsTrue (test b)

-- the atom has a tree over the listed facts
abbrev pub IsDerivedFrom : (Built → Bool) → List Clause → List Atom → (List ℕ → ℕ) → Atom → Type 0
IsDerivedFrom test program facts level a = IsDerived (Passes test) program (Contains facts) level a

-- an atom is true where it is a fact, or the head of an instance of a clause whose conditions are met
abbrev pub TruthIsByClauses : Type 0
TruthIsByClauses = (test : Built → Bool) (program : List Clause) (facts : List Atom) (level : List ℕ → ℕ) → AreLevels program level → (a : Atom) →
    IsDerivedFrom test program facts level a ↔ (Contains facts a ⊎ Follows (Passes test) (IsDerivedFrom test program facts level) program a)

-- truth does not depend on which levels are taken
abbrev pub LevelsDoNotMatter : Type 0
LevelsDoNotMatter = (test : Built → Bool) (program : List Clause) (facts : List Atom) (level other : List ℕ → ℕ) → AreLevels program level → AreLevels program other → (a : Atom) →
    IsDerivedFrom test program facts level a ↔ IsDerivedFrom test program facts other a

-- Facts that agree on some names, whose clauses call these names alone, give the same truth of them.
abbrev pub OtherFactsDoNotMatter : Type 0
OtherFactsDoNotMatter = (test : Built → Bool) (program : List Clause) (names : List ℕ → Bool) → AreClosed program names → (facts others : List Atom) →
    ((a : Atom) → IsTrue (names a.name) → Contains facts a ↔ Contains others a) → (level : List ℕ → ℕ) (a : Atom) → IsTrue (names a.name) →
    IsDerivedFrom test program facts level a ↔ IsDerivedFrom test program others level a

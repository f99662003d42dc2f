-- Derivation: an atom is true where it has a finite tree over the facts and the instances of clauses. A negated atom is true
-- where it has no tree; so trees are made level by level.
use Rattle.std.specs.Prelude.{ℕ, zero, suc, Bool, true, false, ◌≡◌, List, [], ◌∷◌}
use Rattle.std.specs.List.{AllByRecursion}
use Rattle.lps_terms.specs.declared.atom.Atom.{Atom}
use Rattle.lps_terms.specs.declared.built.Built.{Built}
use Rattle.lps_terms.specs.declared.cond.Cond.{Cond}
use Rattle.lps_terms.specs.declared.cond.Cond.TheVariants as c
use Rattle.lps_terms.specs.declared.lit.Lit.{Lit}
use Rattle.lps_model.specs.Clauses.{Clause}
use Rattle.lps_derivation.specs.Instances.{IsInstance}

-- a literal, negated or not, whose atom is true where P is
abbrev pub Agrees : Bool → Type 0 → Type 0
Agrees false P = P
Agrees true P = P → ⊥

-- over a truth of ground built-ins, some clauses and some facts
module _ (IsTrueBuilt : Built → Type 0) (clauses : List Clause) (IsFact : Atom → Type 0) where
  mutual
    -- A tree of an atom: a fact, or an instance of a clause with trees of its conditions. `Fails` says which atoms have no
    -- tree at the levels below.
    pub data Tree (Fails : Atom → Type 0) : Atom → Type 0 where
      of_fact : {a : Atom} → IsFact a → Tree Fails a
      of_clause : {a : Atom} (instance : Clause) → IsInstance clauses instance → a ≡ instance.head → Trees Fails instance.conds → Tree Fails a

    -- Trees of the conditions of an instance: its positive literals have trees, its negated ones fail, and its built-ins are
    -- true.
    pub data Trees (Fails : Atom → Type 0) : List Cond → Type 0 where
      done : Trees Fails []
      positive : {l : Lit} {conds : List Cond} → l.negated ≡ false → Tree Fails l.atom → Trees Fails conds → Trees Fails (c.Lit l ∷ conds)
      negative : {l : Lit} {conds : List Cond} → l.negated ≡ true → Fails l.atom → Trees Fails conds → Trees Fails (c.Lit l ∷ conds)
      built : {b : Built} {conds : List Cond} → IsTrueBuilt b → Trees Fails conds → Trees Fails (c.Built b ∷ conds)

  -- true by the clauses of the levels below n: below level 0 only facts are, and at level n an atom fails where it is not true
  -- by the levels below n
  abbrev pub IsTrueBelow : ℕ → Atom → Type 0
  IsTrueBelow zero a = IsFact a
  IsTrueBelow (suc n) a = Tree (λ other. IsTrueBelow n other → ⊥) a

  -- The atom has a tree, where each name has the level that is given.
  abbrev pub IsDerived : (List ℕ → ℕ) → Atom → Type 0
  IsDerived level a = IsTrueBelow (suc (level a.name)) a

-- ---- truth without trees

-- over a truth of ground built-ins, and a truth of ground atoms
module _ (IsTrueBuilt : Built → Type 0) (IsTrueAtom : Atom → Type 0) where
  -- a ground condition is met
  abbrev pub IsMet : Cond → Type 0
  IsMet (c.Lit l) = Agrees l.negated (IsTrueAtom l.atom)
  IsMet (c.Built b) = IsTrueBuilt b

  -- the atom is the head of an instance of a clause whose conditions are met
  pub record Follows (clauses : List Clause) (a : Atom) : Type 0 where
    pub instance : Clause
    pub of_clauses : IsInstance clauses instance
    pub head : a ≡ instance.head
    pub met : AllByRecursion IsMet instance.conds

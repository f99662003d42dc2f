-- Truth of some names does not depend on facts of names that their clauses do not reach.
use Rattle.std.proofs.Common.{◌≡◌, ◌↔◌, ℕ, zero, suc, Bool, List, sym, subst}
use Rattle.std.specs.Prelude.{IsTrue}
use Rattle.std.specs.List.{AllByRecursion}
use Rattle.lps_terms.specs.declared.atom.Atom.{Atom}
use Rattle.lps_terms.specs.declared.built.Built.{Built}
use Rattle.lps_terms.specs.declared.cond.Cond.{Cond}
use Rattle.lps_terms.specs.declared.lit.Lit.{Lit}
use Rattle.lps_terms.specs.declared.term.Term.{Term}
use Rattle.lps_model.specs.Clauses.{Clause}
use Rattle.lps_derivation.specs.Instances.{IsInstance, put_lit}
use Rattle.lps_derivation.specs.Levels.{AreClosed}
use Rattle.lps_derivation.specs.Derivation.{Tree, Trees, of_fact, of_clause, done, positive, negative, built, IsTrueBelow, IsDerived}
use Rattle.lps_derivation.proofs.Instances.{head_name, OnLiteral, instance_each}

module _ (IsTrueBuilt : Built → Type 0) (clauses : List Clause) (names : List ℕ → Bool) (closed : AreClosed clauses names) where
  abbrev IsNamed : Atom → Type 0
  IsNamed a = IsTrue (names a.name)

  stays_named : (s : ℕ → Term) (l : Lit) → IsNamed l.atom → IsNamed (put_lit s l).atom
  stays_named s l named = named

  -- each literal has one of the names
  abbrev AreNamed : List Cond → Type 0
  AreNamed conds = AllByRecursion (OnLiteral (λ l. IsNamed l.atom) stays_named) conds

  instance_named : (instance : Clause) (a : Atom) → IsInstance clauses instance → a ≡ instance.head → IsNamed a → AreNamed instance.conds
  instance_named instance a of_clauses head named =
      let k = of_clauses.clause in
      let own : IsNamed k.head = subst (λ name. IsTrue (names name)) (sym (head_name clauses instance a of_clauses head)) named in
      instance_each (λ l. IsNamed l.atom) stays_named clauses instance of_clauses (λ l among. closed.calls k l of_clauses.among among own)

  -- from some facts to others
  module _ (IsFact IsOther : Atom → Type 0) (more : (a : Atom) → IsNamed a → IsFact a → IsOther a)
      (Fails OtherFails : Atom → Type 0) (same : (a : Atom) → IsNamed a → Fails a → OtherFails a) where
    mutual
      move_tree : {a : Atom} → Tree IsTrueBuilt clauses IsFact Fails a → IsNamed a → Tree IsTrueBuilt clauses IsOther OtherFails a
      move_tree {a = a} (of_fact h) named = of_fact (more a named h)
      move_tree {a = a} (of_clause instance of_clauses head trees) named =
          of_clause instance of_clauses head (move_trees trees (instance_named instance a of_clauses head named))

      move_trees : {conds : List Cond} → Trees IsTrueBuilt clauses IsFact Fails conds → AreNamed conds → Trees IsTrueBuilt clauses IsOther OtherFails conds
      move_trees done named = done
      move_trees (positive is tree trees) named = positive is (move_tree tree named.0) (move_trees trees named.1)
      move_trees (negative {l = l} is fails trees) named = negative is (same l.atom named.0 fails) (move_trees trees named.1)
      move_trees (built is trees) named = built is (move_trees trees named.1)

  module _ (IsFact IsOther : Atom → Type 0) (agree : (a : Atom) → IsNamed a → IsFact a ↔ IsOther a) where
    same_below : (n : ℕ) (a : Atom) → IsNamed a → IsTrueBelow IsTrueBuilt clauses IsFact n a ↔ IsTrueBelow IsTrueBuilt clauses IsOther n a
    same_below zero a named = agree a named
    same_below (suc n) a named = (
      (λ tree. move_tree IsFact IsOther (λ b is. (agree b is).0) _ _ (λ b is fails h. fails ((same_below n b is).1 h)) tree named),
      (λ tree. move_tree IsOther IsFact (λ b is. (agree b is).1) _ _ (λ b is fails h. fails ((same_below n b is).0 h)) tree named),
    )

    -- facts that agree on the names give the same truth of them
    pub same_reached : (level : List ℕ → ℕ) (a : Atom) → IsNamed a → IsDerived IsTrueBuilt clauses IsFact level a ↔ IsDerived IsTrueBuilt clauses IsOther level a
    same_reached level a named = same_below (suc (level a.name)) a named

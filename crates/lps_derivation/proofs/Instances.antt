-- What is known of the literals of a clause is known of the literals of its instances.
use Rattle.std.proofs.Common.{◌≡◌, ℕ, List, [], ◌∷◌, map, sym, ap, subst, ◌∙◌}
use Rattle.std.specs.Prelude.{Contains}
use Rattle.std.specs.List.{AllByRecursion}
use Rattle.lps_terms.specs.declared.atom.Atom.{Atom}
use Rattle.lps_terms.specs.declared.cond.Cond.{Cond}
use Rattle.lps_terms.specs.declared.cond.Cond.TheVariants as c
use Rattle.lps_terms.specs.declared.lit.Lit.{Lit}
use Rattle.lps_terms.specs.declared.term.Term.{Term}
use Rattle.lps_model.proofs.Elements.{first_is_contained, later_is_contained}
use Rattle.lps_model.specs.Clauses.{Clause}
use Rattle.lps_derivation.specs.Instances.{IsInstance, put_cond, put_lit}
use Rattle.lps_derivation.specs.Levels.{IsDefined}

-- the name of an instance's head is that of the clause's
pub head_name : (clauses : List Clause) (instance : Clause) (a : Atom) (of_clauses : IsInstance clauses instance) → a ≡ instance.head → of_clauses.clause.head.name ≡ a.name
head_name clauses instance a of_clauses head = sym (ap (λ b. b.name) head ∙ ap (λ k. k.head.name) of_clauses.put_in)

-- the head of an instance is a call
pub head_is_defined : (clauses : List Clause) (instance : Clause) (a : Atom) → IsInstance clauses instance → a ≡ instance.head → IsDefined clauses a.name
head_is_defined clauses instance a of_clauses head = record {
  clause = of_clauses.clause;
  among = of_clauses.among;
  named = head_name clauses instance a of_clauses head;
}

-- a fact of literals that stays where terms are put in
module _ (P : Lit → Type 0) (stays : (s : ℕ → Term) (l : Lit) → P l → P (put_lit s l)) where
  -- of a condition, where it is a literal
  abbrev pub OnLiteral : Cond → Type 0
  OnLiteral (c.Lit l) = P l
  OnLiteral (c.Built b) = Unit {0}

  each_put : (s : ℕ → Term) (conds : List Cond) → ((l : Lit) → Contains conds (c.Lit l) → P l) → AllByRecursion OnLiteral (map (put_cond s) conds)
  each_put s [] each = tt
  each_put s (c.Lit l ∷ conds) each = (
    stays s l (each l (first_is_contained (c.Lit l) conds)),
    each_put s conds (λ m among. each m (later_is_contained (c.Lit l) conds (c.Lit m) among)),
  )
  each_put s (c.Built b ∷ conds) each = (tt, each_put s conds (λ m among. each m (later_is_contained (c.Built b) conds (c.Lit m) among)))

  pub instance_each : (clauses : List Clause) (instance : Clause) (of_clauses : IsInstance clauses instance) →
      ((l : Lit) → Contains of_clauses.clause.conds (c.Lit l) → P l) → AllByRecursion OnLiteral instance.conds
  instance_each clauses instance of_clauses each =
      subst (λ i. AllByRecursion OnLiteral i.conds) (sym of_clauses.put_in) (each_put of_clauses.values of_clauses.clause.conds each)

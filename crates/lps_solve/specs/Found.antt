-- What a search has found.
use Rattle.std.specs.Prelude.{ℕ, ◌≡◌, ◌≤◌, ◌↔◌, ◌⊎◌, ◌+◌, ◌++◌, min, List, Contains, map}
use Rattle.std.specs.List.{AllByRecursion}
use Rattle.lps_terms.specs.declared.atom.Atom.{Atom}
use Rattle.lps_terms.specs.declared.cond.Cond.{Cond}
use Rattle.lps_terms.specs.declared.term.Term.{Term}
use Rattle.lps_terms.specs.Put.{put}
use Rattle.lps_terms.specs.Symbols.{atom_symbols_of, symbols_of, symbols_of_all}
use Rattle.lps_model.specs.Clauses.{Clause}
use Rattle.lps_derivation.specs.Instances.{IsSmall}
use Rattle.lps_derivation.specs.Laws.{IsDerivedFrom}
use Rattle.lps_derivation.specs.Levels.{AreLevels}
use Rattle.lps_values.specs.Truth.{is_true}
use Rattle.lps_unify.specs.declared.added.Added.{Added}
use Rattle.lps_unify.specs.Bindings.{TrailedBindings, Solves}
use Rattle.lps_solve.specs.Met.{AreGround, AreMet}

-- the atom of a name with these arguments
abbrev pub atom_of : List ℕ → List Term → Atom
atom_of name args = record { name = name; args = args }

-- the new list has what the old one has, and what P holds of
abbrev pub Gains : List (List Term) → List (List Term) → (List Term → Type 0) → Type 0
Gains old new P = (x : List Term) → Contains new x ↔ (Contains old x ⊎ P x)

-- what some element of a list gives
abbrev pub ByOne : {X : Type 0} → List X → (X → List Term → Type 0) → List Term → Type 0
ByOne {X} ys R x = (y : X) × Contains ys y × R y x

-- ground terms, each of at most 1,024 symbols, and together of at most `room`; `most` and more are one
pub record IsRow (most room : ℕ) (x : List Term) : Type 0 where
  pub ground : AreGround x
  pub each : AllByRecursion (λ t. IsSmall (symbols_of t)) x
  pub all : min (symbols_of_all x) most ≤ room

-- over some clauses and facts, and a level for each name
module _ (program : List Clause) (facts : List Atom) (level : List ℕ → ℕ) where
  -- x are the arguments of a true instance of the goal under the bindings, which has at most 1,024 symbols
  pub record IsAnswerTo (b : TrailedBindings) (goal : Atom) (x : List Term) : Type 0 where
    pub values : ℕ → Term
    pub solve : Solves values b
    pub is : x ≡ map (put values) goal.args
    pub true : IsDerivedFrom is_true program facts level (atom_of goal.name x)
    pub small : IsSmall (1 + symbols_of_all x)

  -- x is what the wanted terms are under values that meet the conditions
  pub record Reaches (most room : ℕ) (b : TrailedBindings) (base : ℕ) (conds : List Cond) (wanted x : List Term) : Type 0 where
    pub values : ℕ → Term
    pub solve : Solves values b
    pub met : AreMet program facts level (λ v. values (base + v)) conds
    pub is : x ≡ map (put values) wanted
    pub fits : IsRow most room x

  -- the same, where the terms are this row
  pub record ReachesBy (most room : ℕ) (b : TrailedBindings) (base : ℕ) (conds : List Cond) (wanted terms row x : List Term) : Type 0 where
    pub values : ℕ → Term
    pub solve : Solves values b
    pub same : map (put values) terms ≡ row
    pub met : AreMet program facts level (λ v. values (base + v)) conds
    pub is : x ≡ map (put values) wanted
    pub fits : IsRow most room x

  -- x are the arguments of an instance of the goal, and of an instance of the clause's head whose conditions are met
  pub record ByClause (most : ℕ) (b : TrailedBindings) (k : Clause) (goal : Atom) (x : List Term) : Type 0 where
    pub values : ℕ → Term
    pub solve : Solves values b
    pub is : x ≡ map (put values) goal.args
    pub own : ℕ → Term
    pub head : x ≡ map (put own) k.head.args
    pub met : AreMet program facts level own k.conds
    pub fits : IsRow most 1023 x

-- by any levels, the list has exactly the answers to the goal
abbrev pub Finds : List Clause → List Atom → TrailedBindings → Atom → List (List Term) → Type 0
Finds program facts b goal found = (level : List ℕ → ℕ) → AreLevels program level → (x : List Term) → Contains found x ↔ IsAnswerTo program facts level b goal x

-- by any levels, the new list has what the old one has, and what P holds of
abbrev pub GainsBy : List Clause → List (List Term) → List (List Term) → ((List ℕ → ℕ) → List Term → Type 0) → Type 0
GainsBy program old new P = (level : List ℕ → ℕ) → AreLevels program level → Gains old new (P level)

-- the bindings keep what they had, and may have more
pub record IsLonger (old new : TrailedBindings) : Type 0 where
  pub first : new.first ≡ old.first
  pub more : List Added
  pub kept : new.added ≡ old.added ++ more

-- x are the arguments of a fact of at most 1,024 symbols that is an instance of the goal
pub record IsFactFor (facts : List Atom) (goal : Atom) (x : List Term) : Type 0 where
  pub among : Contains facts (atom_of goal.name x)
  pub values : ℕ → Term
  pub is : x ≡ map (put values) goal.args
  pub small : IsSmall (1 + symbols_of_all x)

-- x is what some solution of the bindings makes of the terms
pub record IsResolvedRow (most room : ℕ) (b : TrailedBindings) (wanted x : List Term) : Type 0 where
  pub values : ℕ → Term
  pub solve : Solves values b
  pub is : x ≡ map (put values) wanted
  pub fits : IsRow most room x

-- x are the arguments of the fact, which has at most 1,024 symbols
pub record IsRowOf (fact : Atom) (x : List Term) : Type 0 where
  pub is : x ≡ fact.args
  pub small : IsSmall (atom_symbols_of fact)

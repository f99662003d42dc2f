-- The answers to some conditions under bindings.
use Rattle.std.specs.Prelude.{ℕ, ◌≡◌, IsTrue, List, [], ◌∷◌, map, Contains}
use Rattle.std.specs.BTreeSet.{insert_key}
use Rattle.std.specs.List.{AllByRecursion, flat_map}
use Rattle.std.specs.Ordering.{nat_cmp}
use Rattle.lps_terms.specs.declared.atom.Atom.{Atom}
use Rattle.lps_terms.specs.declared.cond.Cond.{Cond}
use Rattle.lps_terms.specs.declared.term.Term.{Term}
use Rattle.lps_terms.specs.Put.{put}
use Rattle.lps_terms.specs.Symbols.{symbols_of}
use Rattle.lps_terms.specs.declared.text.Text.{Text}
use Rattle.lps_model.specs.Acceptance.{IsAccepted}
use Rattle.lps_model.specs.Calls.{calls}
use Rattle.lps_model.specs.Formed.{is_formed}
use Rattle.lps_model.specs.Levels.{AreCallLevels, level_among}
use Rattle.lps_model.specs.VariableLists.{cond_vars}
use Rattle.lps_model.specs.Clauses.{Clause}
use Rattle.lps_derivation.specs.Instances.{IsSmall, IsSmallCond, put_clause, put_cond}
use Rattle.lps_derivation.specs.Levels.{AreLevels}
use Rattle.lps_unify.specs.Bindings.{TrailedBindings, standing, Solves}
use Rattle.lps_derivation.specs.Ground.{is_ground}
use Rattle.lps_solve.specs.Found.{IsRow}
use Rattle.lps_solve.specs.Met.{AreGround, AreMet, IsGroundCond}

-- these variables in order with some more, each once
abbrev pub with_vars : List ℕ → List ℕ → List ℕ
with_vars known [] = known
with_vars known (v ∷ vars) = with_vars (insert_key nat_cmp known v) vars

-- the variables, by rising number, that stand in the conditions once what is bound is put in
abbrev pub variables_left : TrailedBindings → List Cond → List ℕ
variables_left b conds = with_vars [] (flat_map cond_vars (map (put_cond (standing b).value) conds))

-- x are the values, of at most 1,024 symbols each, of the variables that are left, in an instance of the conditions that is
-- ground, small and true
pub record IsAnswer (program : List Clause) (facts : List Atom) (level : List ℕ → ℕ) (b : TrailedBindings) (conds : List Cond) (x : List Term) : Type 0 where
  pub values : ℕ → Term
  pub solve : Solves values b
  pub met : AreMet program facts level values conds
  pub is : x ≡ map values (variables_left b conds)
  pub ground : AreGround x
  pub small : AllByRecursion (λ t. IsSmall (symbols_of t)) x

-- x is what the wanted terms are in an instance of the conditions that is ground, small and true: ground terms of at most 1,024
-- symbols each and of at most `room` together, where `most` and more are one
pub record IsInstanceFor (program : List Clause) (facts : List Atom) (level : List ℕ → ℕ) (most room : ℕ) (b : TrailedBindings) (conds : List Cond) (wanted x : List Term) : Type 0 where
  pub values : ℕ → Term
  pub solve : Solves values b
  pub met : AreMet program facts level values conds
  pub is : x ≡ map (put values) wanted
  pub fits : IsRow most room x

-- one of the conditions has an atom, or a side of a built-in, that is too large once what is bound is put in
abbrev pub AreLarge : TrailedBindings → List Cond → Type 0
AreLarge b conds = (k : Cond) × Contains conds k × (IsSmallCond (put_cond (standing b).value k) → ⊥)

-- with ground terms in the places of its variables the clause is ground
pub record IsWritten (k : Clause) : Type 0 where
  pub head : (s : ℕ → Term) → ((v : ℕ) → IsTrue (is_ground (s v))) → AreGround (put_clause s k).head.args
  pub conds : (s : ℕ → Term) → ((v : ℕ) → IsTrue (is_ground (s v))) → AllByRecursion IsGroundCond (put_clause s k).conds

-- The facts are ground, so are the clauses but for their variables, and there are levels of the clauses' names.
pub record IsSound (program : List Clause) (facts : List Atom) : Type 0 where
  pub ground : (a : Atom) → Contains facts a → AreGround a.args
  pub written : (k : Clause) → Contains program k → IsWritten k
  pub level : List ℕ → ℕ
  pub levels : AreLevels program level

-- the text is accepted and well-formed, these are levels for its calls, and the facts are ground
pub record IsSearched (text : Text) (levels : List (List ℕ × ℕ)) (facts : List Atom) : Type 0 where
  pub ground : (a : Atom) → Contains facts a → AreGround a.args
  pub accepted : IsAccepted text
  pub formed : IsTrue (is_formed text)
  pub levelled : AreCallLevels (calls text) (level_among levels)

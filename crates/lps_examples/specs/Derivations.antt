-- A small program, on which the definitions are tried:
--   p(X) if q(X), not r(X).
--   p(X) if s(X).
--   r(X) if u(X).
-- over the facts q(a), s(a), q(b) and u(b). It has two derivations of p(a), and none of p(b), since r(b) is true.
use Rattle.std.specs.Prelude.{ℕ, true, false, ◌≡◌, ◌↔◌, List, [], ◌∷◌, codes, if◌then◌else◌}
use Rattle.lps_terms.specs.declared.atom.Atom.{Atom}
use Rattle.lps_terms.specs.declared.cond.Cond.{Cond}
use Rattle.lps_terms.specs.declared.cond.Cond.TheVariants as c
use Rattle.lps_terms.specs.declared.term.Term.{Term}
use Rattle.lps_terms.specs.declared.term.Term.TheVariants as t
use Rattle.lps_terms.specs.Names.{name_eq}
use Rattle.lps_model.specs.Clauses.{Clause}
use Rattle.lps_derivation.specs.Laws.{IsDerivedFrom}
use Rattle.lps_derivation.specs.Levels.{AreLevels}
use Rattle.lps_examples.specs.Examples.{unary}

-- the atom, or `not` and the atom, as a condition
abbrev pub plain : Atom → Cond
plain a = c.Lit (record { negated = false; atom = a })

abbrev pub negated : Atom → Cond
negated a = c.Lit (record { negated = true; atom = a })

-- the three clauses, for a term x
abbrev pub first_clause : Term → Clause
first_clause x = record { head = unary (codes "p") x; conds = plain (unary (codes "q") x) ∷ negated (unary (codes "r") x) ∷ [] }

abbrev pub second_clause : Term → Clause
second_clause x = record { head = unary (codes "p") x; conds = plain (unary (codes "s") x) ∷ [] }

abbrev pub third_clause : Term → Clause
third_clause x = record { head = unary (codes "r") x; conds = plain (unary (codes "u") x) ∷ [] }

abbrev pub example_program : List Clause
example_program = first_clause (t.Var 0) ∷ second_clause (t.Var 0) ∷ third_clause (t.Var 0) ∷ []

-- the two constants
abbrev pub constant_a : Term
constant_a = t.Sym (codes "a")

abbrev pub constant_b : Term
constant_b = t.Sym (codes "b")

abbrev pub example_facts : List Atom
example_facts = unary (codes "q") constant_a ∷ unary (codes "s") constant_a ∷ unary (codes "q") constant_b ∷ unary (codes "u") constant_b ∷ []

-- p is above all others
abbrev pub example_level : List ℕ → ℕ
example_level name = if name_eq name (codes "p") then 1 else 0

-- exactly p(a) is true of p
abbrev pub OneAnswer : Type 0
OneAnswer = (x : Term) → IsDerivedFrom (λ b. false) example_program example_facts example_level (unary (codes "p") x) ↔ (x ≡ constant_a)

-- the levels are levels
abbrev pub ExampleHasLevels : Type 0
ExampleHasLevels = AreLevels example_program example_level

-- Levels of names: a clause calls no name of a higher level than its head's, and negates calls of lower levels alone. Sets of
-- names whose clauses do not leave them.
use Rattle.std.specs.Prelude.{ℕ, Bool, true, IsTrue, ◌≡◌, ◌≤◌, ◌<◌, List, Contains}
use Rattle.lps_terms.specs.declared.cond.Cond.TheVariants as c
use Rattle.lps_terms.specs.declared.lit.Lit.{Lit}
use Rattle.lps_model.specs.Clauses.{Clause}

-- some clause has the name in its head, so that a literal of this name is a call
pub record IsDefined (clauses : List Clause) (name : List ℕ) : Type 0 where
  pub clause : Clause
  pub among : Contains clauses clause
  pub named : clause.head.name ≡ name

-- the literal's name is at no level above n, and at one below n where the literal is negated
pub record IsUnder (level : List ℕ → ℕ) (n : ℕ) (l : Lit) : Type 0 where
  pub no_higher : level l.atom.name ≤ n
  pub lower : l.negated ≡ true → level l.atom.name < n

-- each call goes to no higher level, and each negated one to a lower level
pub record AreLevels (clauses : List Clause) (level : List ℕ → ℕ) : Type 0 where
  pub calls : (k : Clause) (l : Lit) → Contains clauses k → Contains k.conds (c.Lit l) → IsDefined clauses l.atom.name → IsUnder level (level k.head.name) l

-- the clauses of these names call these names alone
pub record AreClosed (clauses : List Clause) (names : List ℕ → Bool) : Type 0 where
  pub calls : (k : Clause) (l : Lit) → Contains clauses k → Contains k.conds (c.Lit l) → IsTrue (names k.head.name) → IsTrue (names l.atom.name)

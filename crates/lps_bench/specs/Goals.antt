-- Which conditions of a text are asked for.
use Rattle.std.specs.Prelude.{◌≡◌, List, [], Contains}
use Rattle.lps_terms.specs.declared.atom.Atom.{Atom}
use Rattle.lps_terms.specs.declared.body.Body.TheVariants.{Clause}
use Rattle.lps_terms.specs.declared.cond.Cond.{Cond}
use Rattle.lps_terms.specs.declared.statement.Statement.{Statement}

-- the statement is a clause with these conditions, and its head has no arguments
pub record IsGoal (statement : Statement) (conds : List Cond) : Type 0 where
  pub head : Atom
  pub alone : head.args ≡ []
  pub says : statement.body ≡ Clause head conds

-- one of the statements is such a clause
pub record HasGoal (statements : List Statement) (conds : List Cond) : Type 0 where
  pub statement : Statement
  pub among : Contains statements statement
  pub is_goal : IsGoal statement conds

-- The clauses of a text, in text order.
use Rattle.std.specs.Prelude.{List, [], ◌∷◌}
use Rattle.std.specs.List.{flat_map}
use Rattle.lps_terms.specs.declared.atom.Atom.{Atom}
use Rattle.lps_terms.specs.declared.cond.Cond.{Cond}
use Rattle.lps_terms.specs.declared.body.Body.{Body}
use Rattle.lps_terms.specs.declared.body.Body.TheVariants as b
use Rattle.lps_terms.specs.declared.text.Text.{Text}

-- a clause: its head is true where its conditions are
pub record Clause : Type 0 where
  pub head : Atom
  pub conds : List Cond

abbrev pub clause_in : Body → List Clause
clause_in (b.Clause head conds) = record { head = head; conds = conds } ∷ []
clause_in _ = []

-- the clauses of a text
abbrev pub clauses : Text → List Clause
clauses text = flat_map (λ s. clause_in s.body) text.statements

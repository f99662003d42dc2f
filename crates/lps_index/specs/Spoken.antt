-- Which atoms a statement is found by, and which statements are found by an atom.
use Rattle.std.specs.Prelude.{◌≡◌, ◌↔◌, ℕ, Bool, IsTrue, List, [], ◌∷◌, Some, slice_get, Contains}
use Rattle.std.specs.List.{flat_map, list_any}
use Rattle.lps_terms.specs.declared.atom.Atom.{Atom}
use Rattle.lps_terms.specs.declared.item.Item.{Item}
use Rattle.lps_terms.specs.declared.item.Item.TheVariants as i
use Rattle.lps_terms.specs.declared.text.Text.{Text}
use Rattle.lps_terms.specs.Names.{name_eq}
use Rattle.lps_model.specs.Clauses.{Clause, clauses}
use Rattle.lps_model.specs.Program.{Law}
use Rattle.lps_model.specs.Rules.{MacroClause, Rule}
use Rattle.lps_index.specs.Matching.{may_match}

-- the atom of an item, where it has one
abbrev pub atom_in : Item → List Atom
atom_in (i.At lit time) = lit.atom ∷ []
atom_in (i.Bare lit) = lit.atom ∷ []
atom_in (i.Built built) = []
atom_in (i.Span atom from to) = atom ∷ []
atom_in (i.Con con) = []

-- a clause is found by its head
abbrev pub of_clause : Clause → List Atom
of_clause clause = clause.head ∷ []

-- a law is found by its event
abbrev pub of_law : Law → List Atom
of_law law = law.event ∷ []

-- a denial, or another list of items, is found by each of its atoms
abbrev pub of_items : List Item → List Atom
of_items items = flat_map atom_in items

-- a macro clause is found by its head
abbrev pub of_macro_clause : MacroClause → List Atom
of_macro_clause clause = clause.head ∷ []

-- a rule is found by each atom of its antecedent
abbrev pub of_rule : Rule → List Atom
of_rule rule = of_items rule.antecedent

module _ {X : Type 0} (speaks : X → List Atom) (statements : List X) (asked : Atom) where
  -- statement i is there, counted from 0, and one of the atoms that it is found by may match the asked one
  pub record IsFound (i : ℕ) : Type 0 where
    pub statement : X
    pub at : slice_get statements i ≡ Some statement
    pub matching : IsTrue (list_any (may_match asked) (speaks statement))

  -- exactly these statements are found
  abbrev pub AreFound : List ℕ → Type 0
  AreFound found = (i : ℕ) → Contains found i ↔ IsFound i

-- the text has a clause whose head has the name
abbrev pub has_clause : Text → List ℕ → Bool
has_clause text name = list_any (λ clause. name_eq name clause.head.name) (clauses text)

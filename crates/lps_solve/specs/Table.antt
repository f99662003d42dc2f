-- The clauses of a text as a search has them, and which of them a goal is taken to.
use Rattle.std.specs.Prelude.{ℕ, ◌≡◌, ◌<◌, ◌++◌, IsTrue, List, [], length, slice_index_or}
use Rattle.std.specs.List.{AllByRecursion, flat_map}
use Rattle.lps_terms.specs.declared.atom.Atom.{Atom}
use Rattle.lps_terms.specs.declared.text.Text.{Text}
use Rattle.lps_model.specs.Clauses.{Clause, clauses}
use Rattle.lps_model.specs.VariableLists.{atom_vars, cond_vars}
use Rattle.lps_index.specs.Matching.{may_match}
use Rattle.lps_solve.specs.declared.clause.Clause.{Clause as Entry}

-- the clause of an entry
abbrev pub clause_of : Entry → Clause
clause_of entry = record { head = entry.head; conds = entry.conds }

-- the variables of a clause
abbrev pub clause_vars : Clause → List ℕ
clause_vars k = atom_vars k.head ++ flat_map cond_vars k.conds

-- these are the clauses of the text, in text order
abbrev pub AreClausesOf : Text → List Clause → Type 0
AreClausesOf text program = program ≡ clauses text

-- the clause at a place
abbrev pub clause_at : List Clause → ℕ → Clause
clause_at program i = slice_index_or program i (record { head = record { name = []; args = [] }; conds = [] })

-- a clause at this place, whose head may have an instance in common with the goal
abbrev pub IsPlaceFor : List Clause → Atom → ℕ → Type 0
IsPlaceFor program goal i = (i < length program) × IsTrue (may_match goal (clause_at program i).head)

-- Each variable of an entry is one of those that it counts.
abbrev pub AreCounted : List Entry → Type 0
AreCounted entries = AllByRecursion (λ entry. AllByRecursion (λ v. v < entry.variables) (clause_vars (clause_of entry))) entries

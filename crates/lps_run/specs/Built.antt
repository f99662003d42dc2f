-- Which texts this program runs so far: those without macro clauses and without rules of which an alternative calls a macro.
use Rattle.std.specs.Prelude.{ℕ, Bool, true, false, not, List, [], ◌∷◌, Option, Some, None, if◌then◌else◌}
use Rattle.std.specs.List.{list_any}
use Rattle.lps_terms.specs.declared.body.Body.{Body}
use Rattle.lps_terms.specs.declared.body.Body.TheVariants as b
use Rattle.lps_terms.specs.declared.item.Item.{Item}
use Rattle.lps_terms.specs.declared.statement.Statement.{Statement}
use Rattle.lps_terms.specs.declared.text.Text.{Text}
use Rattle.lps_meaning.specs.Sequences.{is_call}

-- one of the items is a macro call
abbrev pub has_call : Text → List Item → Bool
has_call text items = list_any (is_call text) items

-- a statement of the text is run: it is no macro clause, and no rule of which an alternative calls a macro
abbrev pub is_built : Text → Body → Bool
is_built text (b.Rule antecedent alternatives) = not (list_any (has_call text) alternatives)
is_built text (b.MacroClause head begin end items) = false
is_built text other = true

-- the line of the first of these statements of the text that is not run
abbrev pub first_not_built : Text → List Statement → Option ℕ
first_not_built text [] = None
first_not_built text (statement ∷ statements) = if is_built text statement.body then first_not_built text statements else Some statement.line

-- the line of the first statement of a text that is not run
abbrev pub not_built : Text → Option ℕ
not_built text = first_not_built text text.statements

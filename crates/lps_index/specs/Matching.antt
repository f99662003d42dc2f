-- Which two atoms may have an instance in common, as far as their names and their first arguments tell.
use Rattle.std.specs.Prelude.{Bool, true, ◌&&◌, List, [], ◌∷◌, Option, Some, None, if◌then◌else◌}
use Rattle.lps_terms.specs.declared.atom.Atom.{Atom}
use Rattle.lps_terms.specs.declared.term.Term.{Term}
use Rattle.lps_terms.specs.Names.{name_eq}
use Rattle.lps_terms.specs.Order.{term_eq}
use Rattle.lps_model.specs.Variables.{has_variable}

-- the first argument, where it has no variables
abbrev pub closed_first : List Term → Option Term
closed_first [] = None
closed_first (x ∷ args) = if has_variable x then None else Some x

-- two first arguments may be one: where both have no variables they are equal
abbrev pub agree : Option Term → Option Term → Bool
agree None other = true
agree (Some x) None = true
agree (Some x) (Some y) = term_eq y x

-- the atoms have one name, and their first arguments may be one
abbrev pub may_match : Atom → Atom → Bool
may_match asked stated = name_eq asked.name stated.name && agree (closed_first asked.args) (closed_first stated.args)

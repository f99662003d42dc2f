-- Where the names of predicates stand in a text, in written order, each with its number of arguments and its place.
use Rattle.std.specs.Prelude.{ℕ, List, [], ◌∷◌, ◌++◌, length, Option, Some}
use Rattle.std.specs.List.{flat_map}
use Rattle.lps_terms.specs.declared.atom.Atom.{Atom}
use Rattle.lps_terms.specs.declared.body.Body.{Body}
use Rattle.lps_terms.specs.declared.body.Body.TheVariants as b
use Rattle.lps_terms.specs.declared.cond.Cond.{Cond}
use Rattle.lps_terms.specs.declared.cond.Cond.TheVariants as c
use Rattle.lps_terms.specs.declared.decl.Decl.{Decl}
use Rattle.lps_terms.specs.declared.item.Item.{Item}
use Rattle.lps_terms.specs.declared.item.Item.TheVariants as i
use Rattle.lps_terms.specs.declared.kind.Kind.{Kind}
use Rattle.lps_terms.specs.declared.kind.Kind.TheVariants as k
use Rattle.lps_terms.specs.declared.text.Text.{Text}
use Rattle.lps_model.specs.declared.declaration.Declaration.{Declaration}
use Rattle.lps_model.specs.declared.occurrence.Occurrence.{Occurrence}
use Rattle.lps_model.specs.declared.place.Place.{Place}
use Rattle.lps_model.specs.declared.place.Place.TheVariants.{Initial, Trigger, Effect, Seen, Done, AtTime, Untimed, Condition, TimelessCondition, Head, MacroHead}
use Rattle.lps_model.specs.Declarations.{kind_among}
use Rattle.lps_model.specs.Program.{declared_in}

-- the name of an atom, where the atom stands
abbrev pub in_atom : ℕ → Place → Atom → List Occurrence
in_atom line place atom = record { line = line; name = atom.name; count = length atom.args; place = place } ∷ []

-- the name in an item; what goes from a time to a time stands at the given place
abbrev pub in_item : ℕ → Place → Item → List Occurrence
in_item line span (i.At lit time) = in_atom line AtTime lit.atom
in_item line span (i.Bare lit) = in_atom line Untimed lit.atom
in_item line span (i.Built built) = []
in_item line span (i.Span atom begin end) = in_atom line span atom
in_item line span (i.Con con) = []

abbrev pub in_items : ℕ → Place → List Item → List Occurrence
in_items line span items = flat_map (in_item line span) items

-- the name in a condition
abbrev pub in_cond : ℕ → Place → Cond → List Occurrence
in_cond line place (c.Lit lit) = in_atom line place lit.atom
in_cond line place (c.Built built) = []

abbrev pub in_conds : ℕ → Place → List Cond → List Occurrence
in_conds line place conds = flat_map (in_cond line place) conds

-- the place of the conditions of a clause, by the kind of its head
abbrev pub place_under : Option Kind → Place
place_under (Some k.Timeless) = TimelessCondition
place_under _ = Condition

-- the names in a statement, from the left; what it declares is left aside
abbrev pub in_body : List Decl → ℕ → Body → List Occurrence
in_body decls line (b.Declare declared) = []
in_body decls line (b.Initially atoms) = flat_map (in_atom line Initial) atoms
in_body decls line (b.Denial items) = in_items line Seen items
in_body decls line (b.Rule antecedent alternatives) = in_items line Seen antecedent ++ flat_map (in_items line Done) alternatives
in_body decls line (b.Law initiates event fluent conds) = in_atom line Trigger event ++ in_atom line Effect fluent ++ in_conds line Condition conds
in_body decls line (b.Clause head conds) = in_atom line Head head ++ in_conds line (place_under (kind_among decls head.name)) conds
in_body decls line (b.MacroClause head begin end items) = in_atom line MacroHead head ++ in_items line Done items

-- the names in a text under these declarations
abbrev pub occurrences : List Decl → Text → List Occurrence
occurrences decls text = flat_map (λ s. in_body decls s.line s.body) text.statements

-- the name that a declaration of a statement of this line declares
abbrev pub declaring : ℕ → Decl → List Declaration
declaring line decl = record { line = line; name = decl.name } ∷ []

abbrev pub declaring_in : ℕ → Body → List Declaration
declaring_in line body = flat_map (declaring line) (declared_in body)

-- the names that a text declares, as often as it does
abbrev pub all_declared : Text → List Declaration
all_declared text = flat_map (λ s. declaring_in s.line s.body) text.statements

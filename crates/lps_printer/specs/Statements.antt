-- The canonical text of statements and texts: each statement on a line of its own.
use Rattle.std.specs.Prelude.{◌≡◌, ℕ, Bool, true, false, List, [], ◌∷◌, ◌++◌, map, codes}
use Rattle.std.specs.Fmt.{decimal}
use Rattle.std.specs.List.{flat_map}
use Rattle.lps_terms.specs.declared.kind.Kind.{Kind}
use Rattle.lps_terms.specs.declared.kind.Kind.TheVariants as k
use Rattle.lps_terms.specs.declared.mode.Mode.{Mode}
use Rattle.lps_terms.specs.declared.mode.Mode.TheVariants as m
use Rattle.lps_terms.specs.declared.decl.Decl.{Decl}
use Rattle.lps_terms.specs.declared.item.Item.{Item}
use Rattle.lps_terms.specs.declared.body.Body.{Body}
use Rattle.lps_terms.specs.declared.body.Body.TheVariants as b
use Rattle.lps_terms.specs.declared.statement.Statement.{Statement}
use Rattle.lps_terms.specs.declared.text.Text.{Text}
use Rattle.lps_printer.specs.Terms.{atom_text, joined, listed, written}
use Rattle.lps_printer.specs.Items.{if_conds_text, items_text}

abbrev pub kind_text : Kind → List ℕ
kind_text k.Fluent = codes "fluent "
kind_text k.Event = codes "event "
kind_text k.Action = codes "action "
kind_text k.Timeless = codes "timeless "
kind_text k.Derived = codes "derived "
kind_text k.Macro = codes "macro "

abbrev pub mode_text : Mode → List ℕ
mode_text m.Plus = codes "+"
mode_text m.Minus = codes "-"
mode_text m.Star = codes "*"

-- the modes of a declared name, where it has arguments
abbrev pub modes_text : List Mode → List ℕ
modes_text [] = []
modes_text (mode ∷ modes) = codes "(" ++ (listed (map mode_text (mode ∷ modes)) ++ codes ")")

-- what follows a declared name: its number of arguments, or the modes of each
abbrev pub shape_text : Kind → ℕ → List Mode → List ℕ
shape_text k.Fluent arity modes = codes "/" ++ decimal arity
shape_text k.Event arity modes = codes "/" ++ decimal arity
shape_text k.Action arity modes = codes "/" ++ decimal arity
shape_text _ arity modes = modes_text modes

abbrev pub decl_text : Decl → List ℕ
decl_text decl = decl.name ++ shape_text decl.kind decl.arity decl.modes

-- declarations of one kind
abbrev pub declare_text : List Decl → List ℕ
declare_text [] = []
declare_text (decl ∷ decls) = kind_text decl.kind ++ listed (map decl_text (decl ∷ decls))

abbrev pub law_text : Bool → List ℕ
law_text true = codes " initiates "
law_text false = codes " terminates "

-- a statement without its full stop
abbrev pub body_text : List (List ℕ) → List (List ℕ) → Body → List ℕ
body_text names times (b.Declare decls) = declare_text decls
body_text names times (b.Initially atoms) = codes "initially " ++ listed (map (atom_text names) atoms)
body_text names times (b.Denial items) = codes "false " ++ items_text names times items
body_text names times (b.Rule antecedent alternatives) = codes "if " ++ (items_text names times antecedent ++ (codes " then " ++ joined (codes " or ") false (map (items_text names times) alternatives)))
body_text names times (b.Law initiates event fluent conds) = atom_text names event ++ (law_text initiates ++ (atom_text names fluent ++ if_conds_text names conds))
body_text names times (b.Clause head conds) = atom_text names head ++ if_conds_text names conds
body_text names times (b.MacroClause head begin end items) =
    atom_text names head ++ (codes " from " ++ (written times begin.0 ++ (codes " to " ++ (written times end.0 ++ (codes " if " ++ items_text names times items)))))

-- a statement under the written names of its variables and times, and a line feed
abbrev pub statement_text : Statement → List ℕ
statement_text statement = body_text statement.names statement.times statement.body ++ codes ".\n"

-- the canonical text
abbrev pub canonical : Text → List ℕ
canonical text = flat_map statement_text text.statements

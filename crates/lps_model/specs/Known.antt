-- Which variables are known at each place of a statement, and the first place where one has to be known and is not.
use Rattle.std.specs.Prelude.{ℕ, Bool, true, false, List, [], ◌∷◌, ◌++◌, ◌||◌, nat_eq, codes, slice_index_or, if◌then◌else◌, Option, Some, None}
use Rattle.std.specs.List.{list_any, list_all}
use Rattle.std.specs.Option.{option_or}
use Rattle.lps_terms.specs.declared.atom.Atom.{Atom}
use Rattle.lps_terms.specs.declared.body.Body.{Body}
use Rattle.lps_terms.specs.declared.body.Body.TheVariants as s
use Rattle.lps_terms.specs.declared.built.Built.{Built}
use Rattle.lps_terms.specs.declared.built.Built.TheVariants as b
use Rattle.lps_terms.specs.declared.cond.Cond.{Cond}
use Rattle.lps_terms.specs.declared.cond.Cond.TheVariants as c
use Rattle.lps_terms.specs.declared.decl.Decl.{Decl}
use Rattle.lps_terms.specs.declared.item.Item.{Item}
use Rattle.lps_terms.specs.declared.item.Item.TheVariants as i
use Rattle.lps_terms.specs.declared.kind.Kind.{Kind}
use Rattle.lps_terms.specs.declared.kind.Kind.TheVariants as k
use Rattle.lps_terms.specs.declared.lit.Lit.{Lit}
use Rattle.lps_terms.specs.declared.mode.Mode.{Mode}
use Rattle.lps_terms.specs.declared.mode.Mode.TheVariants as m
use Rattle.lps_terms.specs.declared.refused.Refused.{Refused}
use Rattle.lps_terms.specs.declared.refused.Refused.TheVariants.{Unknown}
use Rattle.lps_terms.specs.declared.statement.Statement.{Statement}
use Rattle.lps_terms.specs.declared.term.Term.{Term}
use Rattle.lps_terms.specs.declared.text.Text.{Text}
use Rattle.lps_model.specs.Declarations.{decl_among}
use Rattle.lps_model.specs.Program.{declarations}
use Rattle.lps_model.specs.VariableLists.{term_vars, args_vars, atom_vars, expr_vars, cond_vars, item_vars, step_times}

-- ---- sets of known variables, each variable once

abbrev pub is_known : List ℕ → ℕ → Bool
is_known known v = list_any (λ each. nat_eq each v) known

abbrev pub are_known : List ℕ → List ℕ → Bool
are_known known vars = list_all (is_known known) vars

-- the known variables with one more
abbrev pub with_var : List ℕ → ℕ → List ℕ
with_var known v = if is_known known v then known else known ++ v ∷ []

-- the known variables with some more
abbrev pub learnt : List ℕ → List ℕ → List ℕ
learnt known [] = known
learnt known (v ∷ vars) = learnt (with_var known v) vars

-- the written name of a variable or a time; `_` for one without a name
abbrev pub written : List (List ℕ) → ℕ → List ℕ
written names v = slice_index_or names v (codes "_")

-- the name of the first one of these variables that is not known
abbrev pub unknown_among : List (List ℕ) → List ℕ → List ℕ → Option (List ℕ)
unknown_among names known [] = None
unknown_among names known (v ∷ vars) = if is_known known v then unknown_among names known vars else Some (written names v)

-- ---- what has to be known

-- Where an item stands: under these declarations, in a statement with these names of its variables and times, in a
-- sequence whose constraints may speak of these times. What is planned, by a consequent or a macro body, is still to be
-- done.
pub record Scope : Type 0 where
  pub decls : List Decl
  pub names : List (List ℕ)
  pub times : List (List ℕ)
  pub steps : List ℕ
  pub is_planned : Bool

-- the variables of an argument, where it is marked `+` or `*`
abbrev pub argument_needs : Mode → Term → List ℕ
argument_needs m.Plus x = term_vars x
argument_needs m.Minus x = []
argument_needs m.Star x = term_vars x

-- the variables of the arguments that are marked `+` or `*`
abbrev pub marked_vars : List Mode → List Term → List ℕ
marked_vars [] args = []
marked_vars (mode ∷ modes) [] = []
marked_vars (mode ∷ modes) (x ∷ args) = argument_needs mode x ++ marked_vars modes args

-- What has to be known at a positive literal of a kind: nothing at a fluent or an event, which make their variables
-- known; all variables of an action that is still to be done, and else none; those of the marked arguments of a call.
abbrev pub kind_needs : Bool → Kind → List Mode → List Term → List ℕ
kind_needs is_planned k.Fluent modes args = []
kind_needs is_planned k.Event modes args = []
kind_needs is_planned k.Action modes args = if is_planned then args_vars args else []
kind_needs is_planned k.Timeless modes args = marked_vars modes args
kind_needs is_planned k.Derived modes args = marked_vars modes args
kind_needs is_planned k.Macro modes args = marked_vars modes args

-- what has to be known at a positive literal of a name with this declaration
abbrev pub declared_needs : Bool → Option Decl → List Term → List ℕ
declared_needs is_planned None args = []
declared_needs is_planned (Some decl) args = kind_needs is_planned decl.kind decl.modes args

-- what has to be known at a positive literal, an event, an action or a call
abbrev pub atom_needs : Scope → Atom → List ℕ
atom_needs scope atom = declared_needs scope.is_planned (decl_among scope.decls atom.name) atom.args

-- a negated literal needs all of its variables
abbrev pub lit_needs : Scope → Lit → List ℕ
lit_needs scope lit = if lit.negated then atom_vars lit.atom else atom_needs scope lit.atom

-- `=` needs one side; where it has none, all unknown variables of both count
abbrev pub same_needs : List ℕ → List ℕ → List ℕ → List ℕ
same_needs known left right = if are_known known left || are_known known right then [] else left ++ right

-- `is` needs its right side, and `\=` and comparisons both sides
abbrev pub built_needs : List ℕ → Built → List ℕ
built_needs known (b.Same left right) = same_needs known (term_vars left) (term_vars right)
built_needs known (b.Differ left right) = term_vars left ++ term_vars right
built_needs known (b.Is left right) = expr_vars right
built_needs known (b.Compare rel left right) = expr_vars left ++ expr_vars right

-- what a condition needs
abbrev pub cond_needs : Scope → List ℕ → Cond → List ℕ
cond_needs scope known (c.Lit lit) = lit_needs scope lit
cond_needs scope known (c.Built built) = built_needs known built

-- what an item needs; a constraint needs no variable
abbrev pub item_needs : Scope → List ℕ → Item → List ℕ
item_needs scope known (i.At lit time) = lit_needs scope lit
item_needs scope known (i.Bare lit) = lit_needs scope lit
item_needs scope known (i.Built built) = built_needs known built
item_needs scope known (i.Span atom from to) = atom_needs scope atom
item_needs scope known (i.Con con) = []

-- ---- from the left

-- the name of the first unknown variable of an item, or of the first time of a constraint that is in no step
abbrev pub item_unknown : Scope → List ℕ → Item → Option (List ℕ)
item_unknown scope known (i.Con con) = unknown_among scope.times scope.steps (con.left.0 ∷ con.right.0 ∷ [])
item_unknown scope known item = unknown_among scope.names known (item_needs scope known item)

-- the name of the first unknown variable of the conditions, or else of those that have to be known at the end
abbrev pub conds_unknown : Scope → List ℕ → List ℕ → List Cond → Option (List ℕ)
conds_unknown scope wanted known [] = unknown_among scope.names known wanted
conds_unknown scope wanted known (cond ∷ conds) =
    option_or (unknown_among scope.names known (cond_needs scope known cond)) (conds_unknown scope wanted (learnt known (cond_vars cond)) conds)

-- the name of the first unknown variable of the items, or else of those that have to be known at the end
abbrev pub items_unknown : Scope → List ℕ → List ℕ → List Item → Option (List ℕ)
items_unknown scope wanted known [] = unknown_among scope.names known wanted
items_unknown scope wanted known (item ∷ items) =
    option_or (item_unknown scope known item) (items_unknown scope wanted (learnt known (item_vars item)) items)

-- the variables that are known after some items
abbrev pub known_after : List ℕ → List Item → List ℕ
known_after known [] = known
known_after known (item ∷ items) = known_after (learnt known (item_vars item)) items

-- these times with those of the steps of some items
abbrev pub steps_after : List ℕ → List Item → List ℕ
steps_after steps [] = steps
steps_after steps (item ∷ items) = steps_after (learnt steps (step_times item)) items

-- ---- statements

-- where the statement's items stand, in a sequence whose constraints may speak of these times
abbrev pub scope_at : List Decl → Statement → List ℕ → Bool → Scope
scope_at decls statement steps is_planned = record { decls = decls; names = statement.names; times = statement.times; steps = steps; is_planned = is_planned }

-- Alternatives start with these known variables, and their constraints may speak of these times and of their own.
abbrev pub alternatives_unknown : List Decl → Statement → List ℕ → List ℕ → List (List Item) → Option (List ℕ)
alternatives_unknown decls statement steps known [] = None
alternatives_unknown decls statement steps known (items ∷ alternatives) =
    option_or (items_unknown (scope_at decls statement (steps_after steps items) true) [] known items)
    (alternatives_unknown decls statement steps known alternatives)

-- a sequence that begins with these known variables, and at whose end these have to be known
abbrev pub sequence_unknown : List Decl → Statement → Bool → List ℕ → List ℕ → List Item → Option (List ℕ)
sequence_unknown decls statement is_planned wanted known items =
    items_unknown (scope_at decls statement (steps_after [] items) is_planned) wanted known items

-- conditions that begin with these known variables, and at whose end these have to be known
abbrev pub conditions_unknown : List Decl → Statement → List ℕ → List ℕ → List Cond → Option (List ℕ)
conditions_unknown decls statement wanted known conds = conds_unknown (scope_at decls statement [] false) wanted known conds

-- the variables of a head that are known at the start: those of its marked arguments
abbrev pub head_known : List Decl → Atom → List ℕ
head_known decls head = learnt [] (declared_needs false (decl_among decls head.name) head.args)

-- the name of the first unknown variable of a statement with this body
abbrev pub body_unknown : List Decl → Statement → Body → Option (List ℕ)
body_unknown decls statement (s.Declare declared) = None
body_unknown decls statement (s.Initially atoms) = None
body_unknown decls statement (s.Denial items) = sequence_unknown decls statement false [] [] items
body_unknown decls statement (s.Rule antecedent alternatives) =
    option_or (sequence_unknown decls statement false [] [] antecedent)
    (alternatives_unknown decls statement (steps_after [] antecedent) (known_after [] antecedent) alternatives)
body_unknown decls statement (s.Law initiates event fluent conds) = conditions_unknown decls statement (atom_vars fluent) (learnt [] (atom_vars event)) conds
body_unknown decls statement (s.Clause head conds) = conditions_unknown decls statement (atom_vars head) (head_known decls head) conds
body_unknown decls statement (s.MacroClause head begin end items) = sequence_unknown decls statement true (atom_vars head) (head_known decls head) items

-- the refusal at a line for an unknown variable, or else a later one
abbrev pub refused_or : ℕ → Option (List ℕ) → Option Refused → Option Refused
refused_or line (Some name) later = Some (Unknown line name)
refused_or line None later = later

-- the refusal of the first statement that has an unknown variable
abbrev pub statements_unknown : List Decl → List Statement → Option Refused
statements_unknown decls [] = None
statements_unknown decls (statement ∷ statements) =
    refused_or statement.line (body_unknown decls statement statement.body) (statements_unknown decls statements)

-- the refusal of a text in which a variable is not known where it must be
abbrev pub unknown_of : Text → Option Refused
unknown_of text = statements_unknown (declarations text) text.statements

-- The refusals of a text that are about names, kinds, the facts of the start and the events of denials.
use Rattle.std.specs.Prelude.{ℕ, Bool, true, false, not, nat_eq, List, [], ◌∷◌, Option, Some, None, if◌then◌else◌}
use Rattle.std.specs.Option.{option_or}
use Rattle.std.specs.Str.{bytes_eq}
use Rattle.lps_terms.specs.declared.body.Body.{Body}
use Rattle.lps_terms.specs.declared.body.Body.TheVariants as b
use Rattle.lps_terms.specs.declared.decl.Decl.{Decl}
use Rattle.lps_terms.specs.declared.item.Item.{Item}
use Rattle.lps_terms.specs.declared.item.Item.TheVariants as i
use Rattle.lps_terms.specs.declared.kind.Kind.{Kind}
use Rattle.lps_terms.specs.declared.kind.Kind.TheVariants.{Fluent, Event, Action, Timeless, Derived, Macro}
use Rattle.lps_terms.specs.declared.refused.Refused.{Refused}
use Rattle.lps_terms.specs.declared.refused.Refused.TheVariants.{Undeclared, DeclaredTwice, WrongArity, WrongKind, NotGround, NoEvent}
use Rattle.lps_terms.specs.declared.statement.Statement.{Statement}
use Rattle.lps_terms.specs.declared.text.Text.{Text}
use Rattle.lps_model.specs.declared.declaration.Declaration.{Declaration}
use Rattle.lps_model.specs.declared.occurrence.Occurrence.{Occurrence}
use Rattle.lps_model.specs.declared.place.Place.{Place}
use Rattle.lps_model.specs.declared.place.Place.TheVariants.{Initial, Trigger, Effect, Seen, Done, AtTime, Untimed, Condition, TimelessCondition, Head, MacroHead}
use Rattle.lps_model.specs.Declarations.{decl_among}
use Rattle.lps_model.specs.Occurrences.{occurrences, all_declared}
use Rattle.lps_model.specs.Program.{declarations}
use Rattle.lps_model.specs.Variables.{hold_variables}

-- which kinds may stand at which place
abbrev pub may_stand : Place → Kind → Bool
may_stand Initial Fluent = true
may_stand Trigger Event = true
may_stand Trigger Action = true
may_stand Effect Fluent = true
may_stand Seen Event = true
may_stand Seen Action = true
may_stand Done Event = true
may_stand Done Action = true
may_stand Done Macro = true
may_stand AtTime Fluent = true
may_stand AtTime Derived = true
may_stand Untimed Timeless = true
may_stand Condition Fluent = true
may_stand Condition Derived = true
may_stand Condition Timeless = true
may_stand TimelessCondition Timeless = true
may_stand Head Derived = true
may_stand Head Timeless = true
may_stand MacroHead Macro = true
may_stand _ _ = false

-- a name has no declaration
abbrev pub is_undeclared : Option Decl → Bool
is_undeclared None = true
is_undeclared (Some decl) = false

-- the number of arguments differs from the declaration
abbrev pub is_wrong_arity : ℕ → Option Decl → Bool
is_wrong_arity count None = false
is_wrong_arity count (Some decl) = not (nat_eq count decl.arity)

-- the kind may not stand there
abbrev pub is_wrong_kind : Place → Option Decl → Bool
is_wrong_kind place None = false
is_wrong_kind place (Some decl) = not (may_stand place decl.kind)

-- the first of the names in a text, from the left, at which a test of the name's declaration is true
abbrev pub first_where : (Occurrence → Option Decl → Bool) → List Decl → List Occurrence → Option Occurrence
first_where test decls [] = None
first_where test decls (o ∷ os) = if test o (decl_among decls o.name) then Some o else first_where test decls os

-- the refusal of an occurrence, by its line and name
abbrev pub refused_by : (ℕ → List ℕ → Refused) → Option Occurrence → Option Refused
refused_by refusal None = None
refused_by refusal (Some o) = Some (refusal o.line o.name)

abbrev pub undeclared : List Decl → List Occurrence → Option Refused
undeclared decls os = refused_by Undeclared (first_where (λ o found. is_undeclared found) decls os)

abbrev pub wrong_arity : List Decl → List Occurrence → Option Refused
wrong_arity decls os = refused_by WrongArity (first_where (λ o found. is_wrong_arity o.count found) decls os)

abbrev pub wrong_kind : List Decl → List Occurrence → Option Refused
wrong_kind decls os = refused_by WrongKind (first_where (λ o found. is_wrong_kind o.place found) decls os)

-- whether a name is one of these
abbrev pub is_among : List (List ℕ) → List ℕ → Bool
is_among [] name = false
is_among (n ∷ ns) name = if bytes_eq n name then true else is_among ns name

-- the first declaration of a name that was declared before
abbrev pub first_again : List (List ℕ) → List Declaration → Option Declaration
first_again before [] = None
first_again before (d ∷ ds) = if is_among before d.name then Some d else first_again (d.name ∷ before) ds

abbrev pub twice_by : Option Declaration → Option Refused
twice_by None = None
twice_by (Some d) = Some (DeclaredTwice d.line d.name)

abbrev pub declared_twice : Text → Option Refused
declared_twice text = twice_by (first_again [] (all_declared text))

-- a statement has facts of the start with a variable
abbrev pub is_not_ground : Body → Bool
is_not_ground (b.Initially atoms) = hold_variables atoms
is_not_ground _ = false

-- whether an item goes from a time to a time
abbrev pub is_span : Item → Bool
is_span (i.Span atom begin end) = true
is_span _ = false

abbrev pub has_span : List Item → Bool
has_span [] = false
has_span (item ∷ items) = if is_span item then true else has_span items

-- a statement is a denial without an item that goes from a time to a time
abbrev pub has_no_event : Body → Bool
has_no_event (b.Denial items) = not (has_span items)
has_no_event _ = false

-- the first statement whose facts of the start hold a variable
abbrev pub not_ground : List Statement → Option Refused
not_ground [] = None
not_ground (s ∷ ss) = if is_not_ground s.body then Some (NotGround s.line) else not_ground ss

-- the first denial without an event
abbrev pub no_event : List Statement → Option Refused
no_event [] = None
no_event (s ∷ ss) = if has_no_event s.body then Some (NoEvent s.line) else no_event ss

-- the refusals of the occurrences of names, of which the least number counts, around that of the declarations
abbrev pub name_refusal : Text → List Decl → List Occurrence → Option Refused
name_refusal text decls os = option_or (undeclared decls os) (option_or (declared_twice text) (option_or (wrong_arity decls os) (wrong_kind decls os)))

-- the refusals of whole statements, of which the least number counts
abbrev pub statement_refusal : List Statement → Option Refused
statement_refusal statements = option_or (not_ground statements) (no_event statements)

-- the refusal with the least number that stands anywhere, at the first statement where it stands
abbrev pub kind_refusal : Text → Option Refused
kind_refusal text = option_or (name_refusal text (declarations text) (occurrences (declarations text) text)) (statement_refusal text.statements)

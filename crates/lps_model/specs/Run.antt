-- What a run of a text starts with, and which events a batch may bring.
use Rattle.std.specs.Prelude.{◌≡◌, ◌↔◌, List, [], length, Some, Contains}
use Rattle.std.specs.List.Sorted.{IsStrictlySortedBy}
use Rattle.lps_terms.specs.declared.atom.Atom.{Atom}
use Rattle.lps_terms.specs.declared.kind.Kind.TheVariants as k
use Rattle.lps_terms.specs.declared.text.Text.{Text}
use Rattle.lps_terms.specs.Order.{atom_cmp}
use Rattle.lps_model.specs.declared.trace.Trace.{Trace}
use Rattle.lps_model.specs.Declarations.{arity_among, kind_among}
use Rattle.lps_model.specs.Program.{declarations, initial_atoms}

-- an event that a batch may bring: a declared event, with its number of arguments
pub record IsExternal (text : Text) (event : Atom) : Type 0 where
  pub kind : kind_among (declarations text) event.name ≡ Some k.Event
  pub arity : arity_among (declarations text) event.name ≡ Some (length event.args)

-- the list is the initial facts of the text, strictly sorted
pub record AreInitial (text : Text) (facts : List Atom) : Type 0 where
  pub sorted : IsStrictlySortedBy atom_cmp facts
  pub exact : (fact : Atom) → Contains facts fact ↔ Contains (initial_atoms text) fact

-- the trace of no cycles with these initial facts
abbrev pub first_trace : List Atom → Trace
first_trace initial = record { initial = initial; cycles = [] }

-- Which facts may be a state of a text, and which events may happen.
use Rattle.std.specs.Prelude.{◌≡◌, true, List, Some, Contains}
use Rattle.lps_terms.specs.declared.atom.Atom.{Atom}
use Rattle.lps_terms.specs.declared.kind.Kind.TheVariants as k
use Rattle.lps_terms.specs.declared.text.Text.{Text}
use Rattle.lps_model.specs.Order.{happens}
use Rattle.lps_model.specs.Rules.{kind_of}
use Rattle.lps_solve.specs.Met.{AreGround}

-- a ground atom of a fluent
pub record IsFluent (text : Text) (a : Atom) : Type 0 where
  pub ground : AreGround a.args
  pub kind : kind_of text a.name ≡ Some k.Fluent

-- a ground atom of an event or an action
pub record IsEvent (text : Text) (a : Atom) : Type 0 where
  pub ground : AreGround a.args
  pub kind : happens (kind_of text a.name) ≡ true

-- each of the atoms is a ground atom of a fluent
pub record AreFluents (text : Text) (facts : List Atom) : Type 0 where
  pub each : (a : Atom) → Contains facts a → IsFluent text a

-- each of the atoms is a ground atom of an event or an action
pub record AreEvents (text : Text) (events : List Atom) : Type 0 where
  pub each : (a : Atom) → Contains events a → IsEvent text a

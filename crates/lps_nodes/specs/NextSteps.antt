-- What a node proposes: the group of actions that is its next step, where it may begin now. Told from the node alone.
use Rattle.std.specs.Prelude.{◌≡◌, ◌↔◌, ◌++◌, ℕ, ℤ, pos, true, List, [], ◌∷◌, Contains, if◌then◌else◌}
use Rattle.std.specs.List.Sorted.{IsStrictlySortedBy}
use Rattle.lps_terms.specs.declared.atom.Atom.{Atom}
use Rattle.lps_terms.specs.declared.text.Text.{Text}
use Rattle.lps_terms.specs.Order.{atom_cmp}
use Rattle.lps_model.specs.Order.{is_action}
use Rattle.lps_model.specs.Rules.{kind_of}
use Rattle.lps_meaning.specs.declared.node.Left.{Left}
use Rattle.lps_meaning.specs.declared.node.LeftItem.{LeftItem}
use Rattle.lps_meaning.specs.declared.node.LeftItem.TheVariants as l
use Rattle.lps_meaning.specs.declared.node.Node.{Node}
use Rattle.lps_meaning.specs.declared.when.When.{When}
use Rattle.lps_nodes.specs.Conditions.{CanComeTrue, are_together, time_in}
use Rattle.lps_nodes.specs.Integers.{CanComeTrueIn, integer_in}
use Rattle.lps_nodes.specs.Nodes.{left_in}
use Rattle.lps_nodes.specs.Shapes.{Shape}

-- a group or a macro call that begins now
abbrev pub IsBegun : ℕ → (ℕ → ℕ) → LeftItem → Type 0
IsBegun now x (l.Span a from to) = time_in x from ≡ now
IsBegun now x _ = ⊥

-- the next step may begin now: all time conditions have a solution in which it does
pub record MayBegin (text : Text) (now : ℕ) (g : Shape) : Type 0 where
  pub can : CanComeTrue text now g
  pub begun : IsBegun now can.times can.first.item

-- the same with integers for the unknown times
abbrev pub IsBegunIn : ℕ → (ℕ → ℤ) → LeftItem → Type 0
IsBegunIn now x (l.Span a from to) = integer_in x from ≡ pos now
IsBegunIn now x _ = ⊥

pub record MayBeginIn (text : Text) (now : ℕ) (g : Shape) : Type 0 where
  pub can : CanComeTrueIn text now g
  pub begun : IsBegunIn now can.times can.first.item

-- the atom of an event or action
abbrev pub atoms_of : LeftItem → List Atom
atoms_of (l.Span a from to) = a ∷ []
atoms_of _ = []

-- the atoms of the items that go on with the group of the item before them
abbrev pub atoms_behind : Text → LeftItem → List Left → List Atom
atoms_behind text before [] = []
atoms_behind text before (left ∷ rest) = if are_together text before left.item then atoms_of left.item ++ atoms_behind text left.item rest else []

-- the next step of the node is the group of exactly these actions, sorted and each once, and may begin now
pub record IsProposed (text : Text) (now : ℕ) (node : Node) (group : List Atom) : Type 0 where
  pub first : Left
  pub behind : List Left
  pub is_first : node.rest ≡ first ∷ behind
  pub atom : Atom
  pub from : When
  pub to : When
  pub item : first.item ≡ l.Span atom from to
  pub action : is_action (kind_of text atom.name) ≡ true
  pub may_begin : MayBegin text now (left_in node)
  pub sorted : IsStrictlySortedBy atom_cmp group
  pub exact : (a : Atom) → Contains group a ↔ Contains (atom ∷ atoms_behind text first.item behind) a

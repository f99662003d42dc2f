-- The laws that join what walks say of a time to what steps alone lead to.
use Rattle.std.specs.Prelude.{◌≡◌, ◌↔◌, ◌≤◌, ℕ, suc, IsTrue, true, false, List, ◌∷◌, Contains}
use Rattle.std.specs.List.{AllByRecursion, list_all}
use Rattle.lps_terms.specs.declared.atom.Atom.{Atom}
use Rattle.lps_terms.specs.declared.item.Item.{Item}
use Rattle.lps_terms.specs.declared.term.Term.{Term}
use Rattle.lps_terms.specs.declared.text.Text.{Text}
use Rattle.lps_model.specs.declared.trace.Trace.{Trace}
use Rattle.lps_model.specs.Acceptance.{IsAccepted}
use Rattle.lps_model.specs.Formed.{is_formed}
use Rattle.lps_model.specs.Order.{is_action}
use Rattle.lps_model.specs.Rules.{Rule, kind_of, rules}
use Rattle.lps_model.specs.Trace.{cycle_at}
use Rattle.lps_derivation.specs.Ground.{is_ground}
use Rattle.lps_meaning.specs.declared.node.Carry.{Carry}
use Rattle.lps_meaning.specs.declared.node.Left.{Left}
use Rattle.lps_meaning.specs.declared.node.LeftItem.TheVariants as l
use Rattle.lps_meaning.specs.declared.node.Node.{Node}
use Rattle.lps_meaning.specs.declared.when.When.{When}
use Rattle.lps_meaning.specs.Sequences.{is_call}
use Rattle.lps_nodes.specs.Laws.{IsOfText}
use Rattle.lps_nodes.specs.Led.{AreGivenBy, AreGivenGround, IsEnteredShape, IsLedTo, IsLedToCut, IsLedToEnd, entered_shape, node_stage, start_stage}
use Rattle.lps_nodes.specs.NextSteps.{IsProposed, atoms_behind}
use Rattle.lps_nodes.specs.Nodes.{left_in}
use Rattle.lps_nodes.specs.Plans.{EndsWith, Entrance, GoesOnTo, IsCutNext, IsCutNow, IsEnded, IsNode, Proposes}
use Rattle.lps_nodes.specs.Shapes.{IsCanonical, Shape, Sequence, alternative_of, untested}

-- A node goes on to exactly the nodes that steps alone, each of which ends at the next time, lead to from it.
abbrev pub NodesAreLedOn : Type 0
NodesAreLedOn = (text : Text) → IsAccepted text → IsTrue (is_formed text) → (level : List ℕ → ℕ) (trace : Trace) (depth : ℕ) (e : Entrance) → IsOfText text e.sequence →
    (now : ℕ) → e.since ≤ now → (node : Node) → IsNode text level trace depth e now node → (other : Node) →
    GoesOnTo text level trace depth e now node other ↔ IsLedTo text level trace depth (suc now) (node_stage now node) e.alternative other

-- And the instances that end with it carry exactly what those steps lead to.
abbrev pub NodesAreLedToEnds : Type 0
NodesAreLedToEnds = (text : Text) → IsAccepted text → IsTrue (is_formed text) → (level : List ℕ → ℕ) (trace : Trace) (depth : ℕ) (e : Entrance) → IsOfText text e.sequence →
    (now : ℕ) → e.since ≤ now → (node : Node) → IsNode text level trace depth e now node → (carry : Carry) →
    EndsWith text level trace depth e now node carry ↔ IsLedToEnd text level trace depth (suc now) (node_stage now node) carry

-- At the time of its entrance a sequence has exactly the nodes that steps alone of that time lead to from where it is entered.
abbrev pub StartsAreLedOn : Type 0
StartsAreLedOn = (text : Text) → IsAccepted text → IsTrue (is_formed text) → (level : List ℕ → ℕ) (trace : Trace) (depth : ℕ) (e : Entrance) → IsOfText text e.sequence → AreGivenGround e →
    (g : Shape) → IsEnteredShape text e g → (node : Node) →
    IsNode text level trace depth e e.since node ↔ IsLedTo text level trace depth e.since (start_stage e g) e.alternative node

abbrev pub StartsAreLedToEnds : Type 0
StartsAreLedToEnds = (text : Text) → IsAccepted text → IsTrue (is_formed text) → (level : List ℕ → ℕ) (trace : Trace) (depth : ℕ) (e : Entrance) → IsOfText text e.sequence → AreGivenGround e →
    (g : Shape) → IsEnteredShape text e g → (carry : Carry) →
    IsEnded text level trace depth e e.since carry ↔ IsLedToEnd text level trace depth e.since (start_stage e g) carry

-- A plan is cut at a time exactly where those steps lead to a macro call that nests too deep.
abbrev pub NodesAreLedToCuts : Type 0
NodesAreLedToCuts = (text : Text) → IsAccepted text → IsTrue (is_formed text) → (level : List ℕ → ℕ) (trace : Trace) (depth : ℕ) (e : Entrance) → IsOfText text e.sequence →
    (now : ℕ) → e.since ≤ now → (node : Node) → IsNode text level trace depth e now node →
    IsCutNext text level trace depth e now node ↔ IsLedToCut text level trace depth (suc now) (node_stage now node)

abbrev pub StartsAreLedToCuts : Type 0
StartsAreLedToCuts = (text : Text) → IsAccepted text → IsTrue (is_formed text) → (level : List ℕ → ℕ) (trace : Trace) (depth : ℕ) (e : Entrance) → IsOfText text e.sequence → AreGivenGround e →
    (g : Shape) → IsEnteredShape text e g →
    IsCutNow text level trace depth e e.since ↔ IsLedToCut text level trace depth e.since (start_stage e g)

-- What is left where a sequence is entered is its items and constraints with what is given put in.
abbrev pub EnteredAreGiven : Type 0
EnteredAreGiven = (text : Text) (e : Entrance) (f : ℕ → Term) (h : ℕ → When) → AreGivenBy e f h → IsEnteredShape text e (entered_shape e f h)

-- A node has canonical numbers, and no constraint whose times are all known.
abbrev pub NodesAreResiduals : Type 0
NodesAreResiduals = (text : Text) (level : List ℕ → ℕ) (trace : Trace) (depth : ℕ) (e : Entrance) (now : ℕ) (node : Node) → IsNode text level trace depth e now node →
    IsCanonical (left_in node) × (untested (left_in node) ≡ left_in node) × (node.alternative ≡ e.alternative)

-- the sequence has no macro call
abbrev pub IsWithoutCalls : Text → Sequence → Type 0
IsWithoutCalls text q = AllByRecursion (λ item. is_call text item ≡ false) q.items

-- A plan of a sequence with no macro call is never cut.
abbrev pub NoneIsCutWithoutCalls : Type 0
NoneIsCutWithoutCalls = (text : Text) (level : List ℕ → ℕ) (trace : Trace) (depth : ℕ) (e : Entrance) → IsWithoutCalls text e.sequence → (now : ℕ) →
    IsCutNow text level trace depth e now → ⊥

-- the two traces have the same cycles up to now
pub record AgreeUpTo (now : ℕ) (trace other : Trace) : Type 0 where
  pub initial : trace.initial ≡ other.initial
  pub cycles : (k : ℕ) → k ≤ now → cycle_at trace k ≡ cycle_at other k

-- What a sequence gives by now is the same in traces that agree up to now.
abbrev pub NodesAreThoseOfPrefix : Type 0
NodesAreThoseOfPrefix = (text : Text) (level : List ℕ → ℕ) (now : ℕ) (trace other : Trace) → AgreeUpTo now trace other → (depth : ℕ) (e : Entrance) (node : Node) →
    IsNode text level trace depth e now node → IsNode text level other depth e now node

-- where the node's next step is an action, the atoms of its group are ground
abbrev pub IsNextGround : Text → Node → Type 0
IsNextGround text node = (first : Left) (behind : List Left) → node.rest ≡ first ∷ behind → (atom : Atom) (from to : When) → first.item ≡ l.Span atom from to → is_action (kind_of text atom.name) ≡ true →
    AllByRecursion (λ a. IsTrue (list_all is_ground a.args)) (atom ∷ atoms_behind text first.item behind)

-- A node proposes exactly the groups that are the next steps of live plans that leave it, and begin now.
abbrev pub NodesPropose : Type 0
NodesPropose = (text : Text) (level : List ℕ → ℕ) (trace : Trace) (depth : ℕ) (e : Entrance) (now : ℕ) → e.since ≤ now → (node : Node) → IsNode text level trace depth e now node →
    IsNextGround text node → (group : List Atom) → IsProposed text now node group ↔ Proposes text level trace depth e now node group

-- In an accepted text they are ground in each node of an alternative.
abbrev pub ActionsAreGround : Type 0
ActionsAreGround = (text : Text) → IsAccepted text → IsTrue (is_formed text) → (level : List ℕ → ℕ) (trace : Trace) (depth : ℕ) (e : Entrance) → (rule : Rule) → Contains (rules text) rule → (items : List Item) →
    Contains rule.alternatives items → e.sequence ≡ alternative_of rule items → (now : ℕ) → e.since ≤ now → (node : Node) → IsNode text level trace depth e now node → IsNextGround text node

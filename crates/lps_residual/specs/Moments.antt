-- What holds of each node that is given, whatever the trace is: what has to be so for steps to be made on it.
use Rattle.std.specs.Prelude.{◌≡◌, ◌⊎◌, ◌≤◌, ℕ, Bool, true, false, List, [], ◌∷◌, Some, None, map}
use Rattle.std.specs.List.{AllByRecursion}
use Rattle.lps_terms.specs.declared.kind.Kind.TheVariants.{Timeless}
use Rattle.lps_terms.specs.declared.term.Term.{Term}
use Rattle.lps_terms.specs.declared.text.Text.{Text}
use Rattle.lps_meaning.specs.declared.node.Left.{Left}
use Rattle.lps_meaning.specs.declared.node.LeftItem.{LeftItem}
use Rattle.lps_meaning.specs.declared.node.LeftItem.TheVariants as l
use Rattle.lps_meaning.specs.declared.node.Node.{Node}
use Rattle.lps_meaning.specs.declared.when.When.{When}
use Rattle.lps_model.specs.Known.{Scope, built_needs, learnt, lit_needs, unknown_among}
use Rattle.lps_model.specs.Order.{happens}
use Rattle.lps_model.specs.Program.{declarations}
use Rattle.lps_model.specs.Rules.{kind_of}
use Rattle.lps_nodes.specs.Conditions.{IsLeftAhead, IsLeftSmall}
use Rattle.lps_nodes.specs.Nodes.{left_in}
use Rattle.lps_nodes.specs.Shapes.{IsCanonical, Shape, left_vars, put_left, put_shape}
use Rattle.lps_windows.specs.declared.window.Window.{Window}
use Rattle.lps_windows.specs.Conditions.{BeginsAt, conditions_of}
use Rattle.lps_windows.specs.Windows.{HaveNoSolution, IsOpenFrom, IsTime, IsWindow, IsWithin}
use Rattle.lps_residual.specs.declared.waiting.Begin.{Begin}

-- ---- what has to be known

-- what has to be known at an item that is left, where some variables are known; an event or an action may be met with any
abbrev pub left_needs : Scope → List ℕ → LeftItem → List ℕ
left_needs scope known (l.At lit time) = lit_needs scope lit
left_needs scope known (l.Bare lit) = lit_needs scope lit
left_needs scope known (l.Built built) = built_needs known built
left_needs scope known (l.Span a from to) = []

-- from the left, each variable of the items is known where it has to be
abbrev pub AreModedLeft : Scope → List ℕ → List Left → Type 0
AreModedLeft scope known [] = Unit {0}
AreModedLeft scope known (left ∷ rest) =
    (unknown_among scope.names known (left_needs scope known left.item) ≡ None) × AreModedLeft scope (learnt known (left_vars left.item)) rest

-- the same of the items of a node, none of whose variables is known
pub record IsModedNode (text : Text) (node : Node) : Type 0 where
  pub scope : Scope
  pub declared : scope.decls ≡ declarations text
  pub seen : scope.is_planned ≡ false
  pub moded : AreModedLeft scope [] node.rest

-- ---- times

abbrev pub IsTimeOf : ℕ → LeftItem → Type 0
IsTimeOf unknowns (l.At lit time) = IsTime unknowns time
IsTimeOf unknowns (l.Span a from to) = IsTime unknowns from × IsTime unknowns to
IsTimeOf unknowns _ = Unit {0}

-- there are few unknown times, the known ones are not too late, and no constraint shifts one by too much
pub record IsTimed (unknowns : ℕ) (node : Node) : Type 0 where
  pub few : unknowns ≤ 1000000
  pub items : AllByRecursion (λ left. IsTimeOf unknowns left.item) node.rest
  pub limits : AllByRecursion (IsWithin unknowns) node.limits
  pub carried : AllByRecursion (IsTime unknowns) node.carry.times

-- ---- nodes

-- what has two times is an event or an action, and a literal that has none is timeless
abbrev pub HappensOrHolds : Text → LeftItem → Type 0
HappensOrHolds text (l.Span a from to) = happens (kind_of text a.name) ≡ true
HappensOrHolds text (l.Bare lit) = kind_of text lit.atom.name ≡ Some Timeless
HappensOrHolds text _ = Unit {0}

-- values and times that make the items left the same make all that is left the same
abbrev pub IsDecided : Shape → Type 0
IsDecided g = (s r : ℕ → Term) (w x : ℕ → When) → map (put_left s w) g.rest ≡ map (put_left r x) g.rest → put_shape s w g ≡ put_shape r x g

-- Each variable is known where it has to be, the items left decide all that is left, the times are in range, and there are no macro calls.
pub record IsReady (text : Text) (node : Node) : Type 0 where
  pub canonical : IsCanonical (left_in node)
  pub moded : IsModedNode text node
  pub decided : IsDecided (left_in node)
  pub unknowns : ℕ
  pub timed : IsTimed unknowns node
  pub no_calls : AllByRecursion (λ left. HappensOrHolds text left.item) node.rest

-- ---- whether it waits

-- nothing is left, or the first item is no step
abbrev pub HasNoBegin : Node → Type 0
HasNoBegin node = (first : Left) (behind : List Left) → node.rest ≡ first ∷ behind → (now : ℕ) (x : ℕ → ℕ) → IsLeftAhead now x first.item → ⊥

-- the first item is a step that begins so
pub record IsBegin (unknowns : ℕ) (node : Node) (now : ℕ) (begin : Begin) : Type 0 where
  pub first : Left
  pub behind : List Left
  pub is_first : node.rest ≡ first ∷ behind
  pub begins : BeginsAt first.item begin.time now begin.earliest
  pub in_range : IsTime unknowns begin.time

-- something is large, or the time conditions have no solution
abbrev pub MeetsNone : Text → Node → Type 0
MeetsNone text node = (AllByRecursion (λ left. IsLeftSmall left.item) node.rest → ⊥) ⊎ HaveNoSolution (conditions_of text (left_in node))

-- nothing is large, and the window has the times that a time can have by the time conditions
pub record IsWindowOf (text : Text) (node : Node) (time : When) (window : Window) : Type 0 where
  pub small : AllByRecursion (λ left. IsLeftSmall left.item) node.rest
  pub of_conditions : IsWindow (conditions_of text (left_in node)) time window

-- true: nothing is large, and by the time conditions the time can be this or later; false: it cannot
abbrev pub IsOpenOn : Bool → Text → Node → When → ℕ → Type 0
IsOpenOn true text node time earliest = (window : Window) × IsWindowOf text node time window × IsOpenFrom window earliest
IsOpenOn false text node time earliest = MeetsNone text node ⊎ ((window : Window) × IsWindowOf text node time window × (IsOpenFrom window earliest → ⊥))

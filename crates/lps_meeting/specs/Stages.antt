-- Stages on the way through the steps of one time, as stages of steps alone, and what steps need to be made on them.
use Rattle.std.specs.Prelude.{◌≡◌, ◌⊎◌, ◌↔◌, ◌<◌, ◌≤◌, ℕ, suc, true, false, List, [], ◌∷◌, Contains, Some}
use Rattle.std.specs.List.{AllByRecursion}
use Rattle.lps_terms.specs.declared.atom.Atom.{Atom}
use Rattle.lps_terms.specs.declared.kind.Kind.TheVariants.{Timeless}
use Rattle.lps_terms.specs.declared.text.Text.{Text}
use Rattle.lps_model.specs.declared.trace.Trace.{Trace}
use Rattle.lps_model.specs.Trace.{events_at}
use Rattle.lps_meaning.specs.declared.node.Left.{Left}
use Rattle.lps_meaning.specs.declared.node.LeftItem.{LeftItem}
use Rattle.lps_meaning.specs.declared.node.LeftItem.TheVariants as l
use Rattle.lps_meaning.specs.declared.when.When.{When}
use Rattle.lps_meaning.specs.Holds.{Holds, IsTrueAt}
use Rattle.lps_nodes.specs.Alone.{IsLeftTrue, IsToldItem, Stage as WalkStage, met_to}
use Rattle.lps_nodes.specs.Conditions.{IsLeftPlaced, IsLeftSmall, goes_on}
use Rattle.lps_nodes.specs.Led.{AreVariants, IsMetNow}
use Rattle.lps_nodes.specs.Nodes.{left_in}
use Rattle.lps_nodes.specs.Shapes.{Shape, shape_vars, untested}
use Rattle.lps_nodes.specs.Steps.{PassesTo}
use Rattle.lps_model.specs.Order.{happens}
use Rattle.lps_model.specs.Rules.{kind_of}
use Rattle.lps_meeting.specs.declared.moment.Moment.{Moment}
use Rattle.lps_meeting.specs.declared.stage.Stage.{Stage}
use Rattle.lps_residual.specs.Moments.{HappensOrHolds, IsDecided, IsModedNode, IsTimed}
use Rattle.lps_meeting.specs.Steps.{joins_at}
use Rattle.lps_residual.specs.Limits.{IsOpenOrTrue}

-- ---- the moment in a trace

-- the facts are state i of the trace
abbrev pub IsStateOf : Text → (List ℕ → ℕ) → Trace → ℕ → List Atom → Type 0
IsStateOf text level trace i facts = (f : Atom) → Contains facts f ↔ Holds text level trace i f

-- what is timeless is true in state i exactly where it is in state 0
abbrev pub AreTimelessAlike : Text → (List ℕ → ℕ) → Trace → ℕ → Type 0
AreTimelessAlike text level trace i = (a : Atom) → kind_of text a.name ≡ Some Timeless → IsTrueAt text level trace 0 a ↔ IsTrueAt text level trace i a

-- the events are those of cycle i of the trace
abbrev pub AreEventsOf : Trace → ℕ → List Atom → Type 0
AreEventsOf trace i events = (a : Atom) → Contains events a ↔ Contains (events_at trace i) a

-- the events are those of the cycle in which steps are made; or a sequence is entered, and no event can be met
abbrev pub AreEventsFor : Moment → Stage → Trace → Type 0
AreEventsFor m stage trace = AreEventsOf trace m.time m.events.now ⊎ ((stage.before ≡ m.time) × (stage.joins ≡ false))

-- ---- what steps need

-- The stage of a moment can be stepped on: each variable is known where it has to be, the items left decide all that is left, the numbers
-- are in range, there are no macro calls, and what was met last is of this cycle where the last step is.
pub record IsReadyStage (m : Moment) (stage : Stage) : Type 0 where
  pub variables : AllByRecursion (λ v. v < m.variables) (shape_vars (left_in stage.node))
  pub moded : IsModedNode m.program.now stage.node
  pub decided : IsDecided (left_in stage.node)
  pub timed : IsTimed m.unknowns stage.node
  pub no_calls : AllByRecursion (λ left. HappensOrHolds m.program.now left.item) stage.node.rest
  pub before : (stage.before ≡ m.time) ⊎ (suc stage.before ≡ m.time)
  pub joins : stage.joins ≡ true → stage.before ≡ m.time
  pub early : m.time ≤ 1000000

-- the item is the first that is left
abbrev pub IsFirst : Stage → LeftItem → Type 0
IsFirst stage item = (nest : ℕ) × (behind : List Left) × (stage.node.rest ≡ record { item = item; nest = nest } ∷ behind)

-- ---- stages of steps alone

-- The stage as one of steps alone, but for names of variables and unknown times, and without the constraints whose times are all known, which
-- are true.
pub record IsStageOf (text : Text) (time : ℕ) (stage : Stage) (x : WalkStage) : Type 0 where
  pub before : x.before ≡ stage.before
  pub rank : x.rank ≡ stage.node.rank
  pub done : x.done ≡ stage.node.done
  pub shape : AreVariants (untested x.shape) (left_in stage.node)
  pub tested : AllByRecursion IsOpenOrTrue x.shape.limits
  pub joins : (a : Atom) (from to : When) → happens (kind_of text a.name) ≡ true → goes_on text x.last (l.Span a from to) ≡ joins_at stage from to time

-- one item is met now
pub record Meets (text : Text) (level : List ℕ → ℕ) (trace : Trace) (now : ℕ) (x y : WalkStage) : Type 0 where
  pub first : Left
  pub behind : List Left
  pub is_first : x.shape.rest ≡ first ∷ behind
  pub met : Left
  pub left : Shape
  pub told : IsToldItem met.item
  pub is_true : IsLeftTrue text level trace now met.item
  pub is_now : IsMetNow now met.item
  pub small : IsLeftSmall met.item
  pub placed : IsLeftPlaced text (λ k. 0) x.before (goes_on text x.last first.item) met.item
  pub passes : PassesTo (met ∷ []) x.shape left
  pub to : y ≡ met_to text x first met left

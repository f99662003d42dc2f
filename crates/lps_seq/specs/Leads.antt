-- What the steps of one time lead to from a stage, told by steps alone.
use Rattle.std.specs.Prelude.{◌≡◌, ◌⊎◌, ℕ, List, None, map}
use Rattle.std.specs.List.{AllByRecursion}
use Rattle.lps_terms.specs.declared.atom.Atom.{Atom}
use Rattle.lps_terms.specs.declared.term.Term.{Term}
use Rattle.lps_terms.specs.declared.text.Text.{Text}
use Rattle.lps_terms.specs.Put.{put}
use Rattle.lps_model.specs.declared.trace.Trace.{Trace}
use Rattle.lps_model.specs.Clauses.{clauses}
use Rattle.lps_derivation.specs.Levels.{AreLevels}
use Rattle.lps_facts.specs.Facts.{members}
use Rattle.lps_meaning.specs.declared.node.Carry.{Carry}
use Rattle.lps_meaning.specs.declared.node.LeftItem.{LeftItem}
use Rattle.lps_meaning.specs.declared.node.Node.{Node}
use Rattle.lps_meaning.specs.declared.when.When.{When}
use Rattle.lps_nodes.specs.Alone.{Stage as WalkStage}
use Rattle.lps_nodes.specs.Led.{AreVariants, IsLeftAt, IsLedTo, IsLedToEnd}
use Rattle.lps_nodes.specs.Nodes.{left_in}
use Rattle.lps_nodes.specs.Shapes.{untested}
use Rattle.lps_residual.specs.Limits.{HasFalse, IsOpenOrTrue}
use Rattle.lps_residual.specs.Moments.{HappensOrHolds, IsDecided, IsModedNode, IsReady, IsTimed}
use Rattle.lps_residual.specs.Putting.{value_at}
use Rattle.lps_meeting.specs.declared.moment.Moment.{Moment}
use Rattle.lps_meeting.specs.declared.stage.Stage.{Stage}
use Rattle.lps_meeting.specs.Stages.{AreEventsFor, AreEventsOf, IsStageOf, IsStateOf, Meets}
use Rattle.lps_meeting.specs.Steps.{AreValuesBy, limits_with, stage_behind}
use Rattle.lps_seq.specs.declared.found.Found.{Found}
use Rattle.lps_seq.specs.declared.stepped.Stepped.{Stepped}
use Rattle.lps_seq.specs.Found.{Adds, AreGiven}

-- The stage stands in a trace as one of steps alone: the levels are those of the text, the facts and events those of the time.
pub record IsIn (m : Moment) (stage : Stage) (level : List ℕ → ℕ) (trace : Trace) (x : WalkStage) : Type 0 where
  pub levels : AreLevels (clauses m.program.now) level
  pub state : IsStateOf m.program.now level trace m.time (members m.facts.now)
  pub events : AreEventsFor m stage trace
  pub is : IsStageOf m.program.now m.time stage x

-- wherever the stage stands, what is added to what was found is this
abbrev pub AddsBy : Moment → Stage → Found → Found → ((List ℕ → ℕ) → Trace → ℕ → WalkStage → Node → Type 0) → ((List ℕ → ℕ) → Trace → ℕ → WalkStage → Carry → Type 0) → Type 0
AddsBy m stage old new N C = (level : List ℕ → ℕ) (trace : Trace) (x : WalkStage) → IsIn m stage level trace x → (depth : ℕ) → Adds old new (N level trace depth x) (C level trace depth x)

-- all that steps lead to from the stage is added
abbrev pub Leads : Moment → Stage → Found → Found → Type 0
Leads m stage old new =
    AddsBy m stage old new (λ level trace depth x. IsLedTo m.program.now level trace depth m.time x stage.node.alternative) (λ level trace depth x. IsLedToEnd m.program.now level trace depth m.time x)

-- what is led to once its first item is met
abbrev pub LeadsByMeeting : Moment → Stage → Found → Found → Type 0
LeadsByMeeting m stage old new = AddsBy m stage old new
    (λ level trace depth x node. (y : WalkStage) × Meets m.program.now level trace m.time x y × IsLedTo m.program.now level trace depth m.time y stage.node.alternative node)
    (λ level trace depth x carry. (y : WalkStage) × Meets m.program.now level trace m.time x y × IsLedToEnd m.program.now level trace depth m.time y carry)

-- what is left with no step
abbrev pub LeadsWithout : Moment → Stage → Found → Found → Type 0
LeadsWithout m stage old new = AddsBy m stage old new (λ level trace depth x. IsLeftAt m.program.now m.time x stage.node.alternative) (λ level trace depth x carry. ⊥)

-- once the item is met with s and w put in: nothing, where a constraint is false then, and else what is led to from what is left behind it
abbrev pub LeadsBehind : Moment → Stage → LeftItem → (ℕ → Term) → (ℕ → When) → Found → Found → Type 0
LeadsBehind m stage item s w old new =
    (HasFalse (limits_with stage w) × (new ≡ old)) ⊎ (AllByRecursion IsOpenOrTrue (limits_with stage w) × Leads m (stage_behind stage m.time s w item) old new)

-- by one way to meet it: nothing, where nothing makes the terms the row, and else what is led to with the values that make them so
abbrev pub LeadsByRow : Moment → Stage → LeftItem → List Term → List Term → (ℕ → When) → Found → Found → Type 0
LeadsByRow m stage item terms row w old new =
    (((s : ℕ → Term) → map (put s) terms ≡ row → ⊥) × (new ≡ old))
    ⊎ ((values : List Term) × AreValuesBy m.variables terms row values × LeadsBehind m stage item (value_at values) w old new)

-- exactly what steps lead to from the stage
abbrev pub IsAllLed : Moment → Stage → Stepped → Type 0
IsAllLed m stage stepped = (level : List ℕ → ℕ) (trace : Trace) (x : WalkStage) → IsIn m stage level trace x → (depth : ℕ) →
    AreGiven (IsLedTo m.program.now level trace depth m.time x stage.node.alternative) (IsLedToEnd m.program.now level trace depth m.time x) ⊥ stepped

-- nodes that are added can be stepped on
abbrev pub StaysReady : Moment → Found → Found → Type 0
StaysReady m old new = AllByRecursion (IsReady m.program.now) old.nodes.items → AllByRecursion (IsReady m.program.now) new.nodes.items

-- ---- nodes

-- The node can be stepped on: each variable is known where it has to be, the items left decide all that is left, the numbers are in range, and
-- there are no macro calls.
pub record CanBeStepped (text : Text) (node : Node) : Type 0 where
  pub moded : IsModedNode text node
  pub decided : IsDecided (left_in node)
  pub unknowns : ℕ
  pub timed : IsTimed unknowns node
  pub no_calls : AllByRecursion (λ left. HappensOrHolds text left.item) node.rest

-- The node stands for a stage at which nothing was met: but for names, and for constraints that are true, what is left is the same.
pub record StandsAt (node : Node) (before : ℕ) (x : WalkStage) : Type 0 where
  pub same_before : x.before ≡ before
  pub last : x.last ≡ None
  pub rank : x.rank ≡ node.rank
  pub done : x.done ≡ node.done
  pub shape : AreVariants (untested x.shape) (left_in node)
  pub tested : AllByRecursion IsOpenOrTrue x.shape.limits

-- exactly what steps at a time lead to from the node, where no step ended later than `before`
abbrev pub IsAllLedFrom : Text → Node → ℕ → ℕ → List Atom → List Atom → Stepped → Type 0
IsAllLedFrom text node before time facts events stepped =
    (level : List ℕ → ℕ) → AreLevels (clauses text) level → (trace : Trace) → IsStateOf text level trace time facts → AreEventsOf trace time events ⊎ (before ≡ time) →
    (x : WalkStage) → StandsAt node before x → (depth : ℕ) →
    AreGiven (IsLedTo text level trace depth time x node.alternative) (IsLedToEnd text level trace depth time x) ⊥ stepped

-- Nodes that a cycle leaves as they are: those that it does not touch.
use Rattle.std.specs.Prelude.{◌≡◌, ◌≤◌, ◌↔◌, ℕ, suc, List}
use Rattle.lps_terms.specs.declared.atom.Atom.{Atom}
use Rattle.lps_terms.specs.declared.text.Text.{Text}
use Rattle.lps_model.specs.Acceptance.{IsAccepted}
use Rattle.lps_model.specs.declared.trace.Trace.{Trace}
use Rattle.lps_model.specs.Clauses.{clauses}
use Rattle.lps_derivation.specs.Levels.{AreLevels}
use Rattle.lps_meaning.specs.declared.node.Carry.{Carry}
use Rattle.lps_meaning.specs.declared.node.Node.{Node}
use Rattle.lps_nodes.specs.Laws.{IsOfText}
use Rattle.lps_nodes.specs.Plans.{EndsWith, Entrance, GoesOnTo, IsCutNext, IsNode}
use Rattle.lps_residual.specs.Moments.{IsReady}
use Rattle.lps_residual.specs.Waking.{IsTouched, IsWake}
use Rattle.lps_residual.specs.declared.waking.Wake.{Wake}
use Rattle.lps_meeting.specs.Stages.{AreEventsOf}

-- at this time, with these events, the node goes on to itself alone; no instance ends with it, and no plan of it is cut
abbrev pub Rests : Text → ℕ → Node → ℕ → List Atom → Type 0
Rests text depth node time events =
    (level : List ℕ → ℕ) → AreLevels (clauses text) level → (trace : Trace) (e : Entrance) → IsOfText text e.sequence → (now : ℕ) → time ≡ suc now → e.since ≤ now →
    IsNode text level trace depth e now node → AreEventsOf trace time events →
    ((o : Node) → GoesOnTo text level trace depth e now node o ↔ (o ≡ node)) × ((carry : Carry) → EndsWith text level trace depth e now node carry → ⊥)
    × (IsCutNext text level trace depth e now node → ⊥)

-- a node that is ready rests in each cycle that does not touch what wakes it
abbrev pub RestsUntilTouched : Type 0
RestsUntilTouched =
    (text : Text) → IsAccepted text → (node : Node) (wake : Wake) → IsReady text node → IsWake text node wake → (depth time : ℕ) (events : List Atom) →
    time ≤ 1000000 → (IsTouched wake time events → ⊥) → Rests text depth node time events

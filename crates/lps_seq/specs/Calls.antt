-- What the calls of this crate are given and give, told by walks over the whole trace.
use Rattle.std.specs.Prelude.{◌≡◌, ◌≤◌, ℕ, suc, List}
use Rattle.lps_terms.specs.declared.atom.Atom.{Atom}
use Rattle.lps_terms.specs.declared.text.Text.{Text}
use Rattle.lps_model.specs.declared.trace.Trace.{Trace}
use Rattle.lps_model.specs.Clauses.{clauses}
use Rattle.lps_derivation.specs.Levels.{AreLevels}
use Rattle.lps_meaning.specs.declared.node.Node.{Node}
use Rattle.lps_nodes.specs.Laws.{IsOfText}
use Rattle.lps_nodes.specs.Plans.{EndsWith, Entrance, GoesOnTo, IsCutNext, IsCutNow, IsEnded, IsNode}
use Rattle.lps_seq.specs.declared.start.Start.{Start}
use Rattle.lps_seq.specs.declared.stepped.Stepped.{Stepped}
use Rattle.lps_seq.specs.Found.{AreGiven}
use Rattle.lps_meeting.specs.Stages.{AreEventsOf, IsStateOf}
use Rattle.lps_seq.specs.Starts.{IsEntered}

-- What a start gives at its own time: what is left there of the plans of its sequence that are live then, what its instances carry
-- that end then, and whether a plan of it is cut then.
abbrev pub IsEntry : Text → ℕ → Start → ℕ → List Atom → Stepped → Type 0
IsEntry text depth start time facts stepped =
    (level : List ℕ → ℕ) → AreLevels (clauses text) level → (trace : Trace) (e : Entrance) → IsEntered text start e → IsStateOf text level trace time facts →
    AreGiven (IsNode text level trace depth e time) (IsEnded text level trace depth e time) (IsCutNow text level trace depth e time) stepped

-- What a node of the time before gives at this time: the nodes that it goes on to, what the instances carry that end with it, and whether
-- a plan of it is cut.
abbrev pub IsNext : Text → ℕ → Node → ℕ → List Atom → List Atom → Stepped → Type 0
IsNext text depth node time facts events stepped =
    (level : List ℕ → ℕ) → AreLevels (clauses text) level → (trace : Trace) (e : Entrance) → IsOfText text e.sequence → (now : ℕ) → time ≡ suc now → e.since ≤ now →
    IsNode text level trace depth e now node → IsStateOf text level trace time facts → AreEventsOf trace time events →
    AreGiven (GoesOnTo text level trace depth e now node) (EndsWith text level trace depth e now node) (IsCutNext text level trace depth e now node) stepped

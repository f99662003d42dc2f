-- What waits for the antecedents of rules: what is left of those that are partly met, and what a list of it stands for.
use Rattle.std.specs.Prelude.{◌≡◌, ℕ, zero, suc, List}
use Rattle.lps_terms.specs.declared.atom.Atom.{Atom}
use Rattle.lps_terms.specs.declared.text.Text.{Text}
use Rattle.lps_model.specs.declared.trace.Trace.{Trace}
use Rattle.lps_model.specs.Clauses.{clauses}
use Rattle.lps_derivation.specs.Levels.{AreLevels}
use Rattle.lps_meaning.specs.declared.goal.GoalKey.{GoalKey}
use Rattle.lps_nodes.specs.Nodes.{IsListOf}
use Rattle.lps_nodes.specs.Plans.{AreKeysOf, IsWaiting}
use Rattle.lps_meeting.specs.Stages.{AreEventsOf, IsStateOf}
use Rattle.lps_residual.specs.declared.waking.Wake.{Wake}
use Rattle.lps_antecedents.specs.declared.held.Held.{Held}
use Rattle.lps_antecedents.specs.Buckets.{AreReadyIn}

-- what waits now, what waited before, which can be given back, and all that lies in the buckets by what wakes it
pub record WaitingNodes : Type 0 where
  pub held : List Held
  pub before : List Held
  pub kept : List (Wake × List Held)

-- What waits stands for the trace at a time where it is exactly what is left then of the antecedents that are partly met, each once with
-- the number of its rule.
abbrev pub StandsFor : Text → (List ℕ → ℕ) → Trace → ℕ → List Held → Type 0
StandsFor text level trace now held = IsListOf (λ h. IsWaiting text level trace now h.rule h.node) held

-- steps can be made on all that waits or waited before, and each is woken by what it waits for
abbrev pub IsReadyWaiting : Text → WaitingNodes → Type 0
IsReadyWaiting text waiting = AreReadyIn text waiting.kept

-- Whatever trace has these facts as its initial state, what waits stands for it at 0, and the keys are those of goals created at 0.
abbrev pub StandAtFirst : Text → List Atom → List Held → List GoalKey → Type 0
StandAtFirst text facts held keys =
    (level : List ℕ → ℕ) → AreLevels (clauses text) level → (trace : Trace) → IsStateOf text level trace zero facts →
    StandsFor text level trace zero held × AreKeysOf text level trace zero keys

-- Whatever trace what waited stands for at the time before, where the facts are its state at this time and the events are those of its
-- cycle that ends at it, what waits now stands for it at this time, and the keys are those of the cycle.
abbrev pub StandAfter : Text → ℕ → List Atom → List Atom → List Held → List Held → List GoalKey → Type 0
StandAfter text time facts events before held keys =
    (level : List ℕ → ℕ) → AreLevels (clauses text) level → (trace : Trace) (now : ℕ) → time ≡ suc now → IsStateOf text level trace time facts → AreEventsOf trace time events →
    StandsFor text level trace now before → StandsFor text level trace time held × AreKeysOf text level trace time keys

-- The laws of goals that are pursued, each a statement over texts, traces and keys.
use Rattle.std.specs.Prelude.{◌≡◌, ◌⊎◌, ◌↔◌, ◌≤◌, ℕ, suc, IsTrue, List, length}
use Rattle.lps_terms.specs.declared.text.Text.{Text}
use Rattle.lps_model.specs.declared.trace.Trace.{Trace}
use Rattle.lps_model.specs.Acceptance.{IsAccepted}
use Rattle.lps_model.specs.Formed.{is_formed}
use Rattle.lps_meaning.specs.declared.goal.GoalKey.{GoalKey}
use Rattle.lps_meaning.specs.declared.node.Carry.{Carry}
use Rattle.lps_meaning.specs.Cycles.{IsProposal}
use Rattle.lps_meaning.specs.Goals.{IsFulfilledWithin}
use Rattle.lps_meaning.specs.Laws.{IsContinuation}
use Rattle.lps_meaning.specs.Plain.{Ranked}
use Rattle.lps_meaning.specs.Sequences.{rank}
use Rattle.lps_nodes.specs.Plans.{Entrance, IsAlternativeEntered, IsEnded}
use Rattle.lps_goaltrees.specs.declared.goal.Goal.{Goal}
use Rattle.lps_goaltrees.specs.Followed.{IsFollowed, StandsAt}
use Rattle.lps_goaltrees.specs.Offers.{IsOffered}
use Rattle.lps_goaltrees.specs.Pursued.{Pursuit}

-- an alternative of the goal ends now
abbrev pub EndsNow : Text → (List ℕ → ℕ) → Trace → ℕ → GoalKey → ℕ → Type 0
EndsNow text level trace depth key now =
    (number : ℕ) × (e : Entrance) × IsAlternativeEntered text key number e × (carry : Carry) × IsEnded text level trace depth e now carry

-- a goal is solved at its own time exactly where an alternative ends then
abbrev pub SolvedAtOnce : Type 0
SolvedAtOnce = (text : Text) (level : List ℕ → ℕ) (trace : Trace) (depth : ℕ) (key : GoalKey) →
    IsFulfilledWithin text level trace depth key key.time ↔ EndsNow text level trace depth key key.time

-- later it is exactly where it was, or an alternative ends
abbrev pub SolvedNext : Type 0
SolvedNext = (text : Text) (level : List ℕ → ℕ) (trace : Trace) (depth : ℕ) (key : GoalKey) (now : ℕ) → key.time ≤ now →
    IsFulfilledWithin text level trace depth key (suc now) ↔ (IsFulfilledWithin text level trace depth key now ⊎ EndsNow text level trace depth key (suc now))

-- what is offered by the nodes of a goal that is pursued is what it proposes in the trace, with the alternative and the rank of a plan of it
abbrev pub OffersAreProposals : Type 0
OffersAreProposals = (text : Text) → IsAccepted text → IsTrue (is_formed text) → (level : List ℕ → ℕ) (trace : Trace) (depth : ℕ) (goal : Goal) → goal.key.time ≤ length trace.cycles →
    IsFollowed text level trace depth (length trace.cycles) goal → (r : Ranked) →
    IsOffered text (length trace.cycles) goal.nodes r
    ↔ ((p : IsProposal text level depth trace goal.key r.group) × (p.live.plan.reaches.alternative ≡ r.alternative) × (rank p.end ≡ r.rank))

-- what stands for a trace at a time stands for each continuation of the trace at that time
abbrev pub StandsInContinuations : Type 0
StandsInContinuations = (text : Text) (level : List ℕ → ℕ) (depth : ℕ) (trace longer : Trace) → IsContinuation trace longer → (now : ℕ) → now ≤ length trace.cycles →
    (p : Pursuit) → StandsAt text level trace depth now p → StandsAt text level longer depth now p

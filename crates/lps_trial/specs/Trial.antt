-- The events of a cycle so far, with the states before and after them.
use Rattle.std.specs.Prelude.{◌≡◌, ◌≤◌, ◌↔◌, ℕ, List, [], Contains, IsTrue, length, take}
use Rattle.lps_terms.specs.declared.atom.Atom.{Atom}
use Rattle.lps_terms.specs.declared.text.Text.{Text}
use Rattle.lps_model.specs.declared.trace.Trace.{Trace}
use Rattle.lps_model.specs.Acceptance.{IsAccepted}
use Rattle.lps_model.specs.Clauses.{clauses}
use Rattle.lps_model.specs.Formed.{is_formed}
use Rattle.lps_derivation.specs.Levels.{AreLevels}
use Rattle.lps_facts.specs.Facts.{IsLater, TrailedSet, back_to, members, with_effects}
use Rattle.lps_meaning.specs.Reports.{IsState}
use Rattle.lps_causal.specs.Names.{AreEvents, AreFluents}
use Rattle.lps_precond.specs.Stages.{ViolateNone}
use Rattle.lps_causal.specs.Next.{AreBegun, AreEnded, IsAfter}

-- what a trial is seen as: the state before, the state after the events so far, what they initiate, what they terminate but for
-- what was initiated, and the events, as a list and as a set
pub record TrialState : Type 0 where
  pub state : TrailedSet
  pub next : TrailedSet
  pub begun : TrailedSet
  pub ended : List Atom
  pub events : List Atom
  pub happened : TrailedSet

-- a moment in the life of a trial: how many changes of the sets, and how many terminations and events, there were
pub record Moment : Type 0 where
  pub next : ℕ
  pub begun : ℕ
  pub ended : ℕ
  pub events : ℕ
  pub happened : ℕ

-- it holds by any levels of the text, after any trace of which the facts are the last state
abbrev pub InState : Text → List Atom → ((List ℕ → ℕ) → Trace → Type 0) → Type 0
InState text facts P = (level : List ℕ → ℕ) → AreLevels (clauses text) level → (trace : Trace) → IsState text level trace (length trace.cycles) facts → P level trace

-- The events may happen by the text, and the sets have the state that they make of the state before, what they initiate, and
-- what they terminate.
pub record IsGrown (text : Text) (trial : TrialState) : Type 0 where
  pub fluents : AreFluents text (members trial.state)
  pub happening : AreEvents text trial.events
  pub next_fluents : AreFluents text (members trial.next)
  pub next_is : (level : List ℕ → ℕ) → AreLevels (clauses text) level → IsAfter text level (members trial.state) trial.events (members trial.next)
  pub begun_are : (level : List ℕ → ℕ) → AreLevels (clauses text) level → AreBegun text level (members trial.state) trial.events (members trial.begun)
  pub ended_are : (level : List ℕ → ℕ) → AreLevels (clauses text) level → AreEnded text level (members trial.state) trial.events trial.ended
  pub happened_are : (a : Atom) → Contains (members trial.happened) a ↔ Contains trial.events a

-- the same, and by an accepted text the events violate no denial
pub record IsTrial (text : Text) (trial : TrialState) : Type 0 where
  pub grown : IsGrown text trial
  pub allowed : IsAccepted text → IsTrue (is_formed text) → ViolateNone text (members trial.happened) (members trial.state) (members trial.next)

-- a set with no facts
abbrev pub no_facts : TrailedSet
no_facts = record { base = []; changes = [] }

-- a trial without events
abbrev pub trial_in : TrailedSet → TrialState
trial_in state = record { state = state; next = state; begun = no_facts; ended = []; events = []; happened = no_facts }

-- the trial at an earlier moment
abbrev pub back_at : Moment → TrialState → TrialState
back_at moment trial = record {
  state = trial.state;
  next = back_to moment.next trial.next;
  begun = back_to moment.begun trial.begun;
  ended = take moment.ended trial.ended;
  events = take moment.events trial.events;
  happened = back_to moment.happened trial.happened;
}

-- the moment is one of the trial
pub record IsMoment (moment : Moment) (trial : TrialState) : Type 0 where
  pub next : moment.next ≤ length trial.next.changes
  pub begun : moment.begun ≤ length trial.begun.changes
  pub happened : moment.happened ≤ length trial.happened.changes

-- this moment of the trial
abbrev pub moment_of : TrialState → Moment
moment_of trial = record { next = length trial.next.changes; begun = length trial.begun.changes; ended = length trial.ended; events = length trial.events; happened = length trial.happened.changes }

-- the later trial goes back to the earlier one
pub record IsLonger (earlier later : TrialState) : Type 0 where
  pub state : later.state ≡ earlier.state
  pub next : IsLater earlier.next later.next
  pub begun : IsLater earlier.begun later.begun
  pub ended : take (length earlier.ended) later.ended ≡ earlier.ended
  pub events : take (length earlier.events) later.events ≡ earlier.events
  pub happened : IsLater earlier.happened later.happened

-- the trial with all effects made in the state before
abbrev pub made_at_once : TrialState → TrialState
made_at_once trial = record {
  state = with_effects (record { initiated = members trial.begun; terminated = trial.ended }) trial.state;
  next = trial.next;
  begun = trial.begun;
  ended = trial.ended;
  events = trial.events;
  happened = trial.happened;
}

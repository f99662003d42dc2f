-- A cycle that is being made: what happens in it so far, and what is decided of it.
use Rattle.std.specs.Prelude.{◌≡◌, ◌≤◌, ◌++◌, ◌↔◌, ℕ, IsTrue, List, [], length, map, take, Contains}
use Rattle.std.specs.List.{AllByRecursion, AllZip, flat_map}
use Rattle.lps_terms.specs.declared.atom.Atom.{Atom}
use Rattle.lps_terms.specs.declared.prefer.Prefer.{Prefer}
use Rattle.lps_terms.specs.declared.text.Text.{Text}
use Rattle.lps_model.specs.declared.cycle.Group.{Group}
use Rattle.lps_model.specs.declared.cycle.Pick.{Pick}
use Rattle.lps_model.specs.declared.trace.Trace.{Trace}
use Rattle.lps_model.specs.declared.verdict.Verdict.{Verdict}
use Rattle.lps_model.specs.Clauses.{clauses}
use Rattle.lps_model.specs.Trace.{admitted}
use Rattle.lps_derivation.specs.Levels.{AreLevels}
use Rattle.lps_meaning.specs.declared.goal.GoalKey.{GoalKey}
use Rattle.lps_meaning.specs.Cycles.{ArePicks, AreJudged}
use Rattle.lps_meaning.specs.Denials.{ViolatesNumber}
use Rattle.lps_meaning.specs.Plain.{AllPasses, order_of}
use Rattle.lps_meaning.specs.Reports.{IsState}
use Rattle.lps_causal.specs.Names.{AreEvents}
use Rattle.lps_choice.specs.Choices.{Choice, goals_of}
use Rattle.lps_choice.specs.Standing.{NoMore}
use Rattle.lps_goaltrees.specs.declared.goal.Goal.{Goal}
use Rattle.lps_goaltrees.specs.Followed.{StandsFor}
use Rattle.lps_goaltrees.specs.Offers.{AreProposed}
use Rattle.lps_goaltrees.specs.Pursued.{Pursuit}
use Rattle.lps_trial.specs.Trial.{InState, IsLonger, IsTrial, Moment, TrialState, moment_of}
use Rattle.lps_cycle.specs.declared.candidates.Candidate.{Candidate}
use Rattle.lps_cycle.specs.Candidates.{Proposer, groups_of, number_of}

-- What a round is seen as: the text, the facts of the state before, what happens so far, the facts of the state that this makes of it, and
-- the picks among what happens; and the events of the batch that happen, and what the pending goals propose.
pub record RoundState : Type 0 where
  pub text : Text
  pub facts : List Atom
  pub events : List Atom
  pub next : List Atom
  pub picks : List Pick
  pub admitted : List Atom
  pub proposers : List Proposer

-- what happens by some picks
abbrev pub by_picks : List Pick → List Atom
by_picks picks = flat_map (λ pick. pick.group.atoms) picks

-- nothing happens yet
pub record IsAnew (round : RoundState) : Type 0 where
  pub events : round.events ≡ []
  pub picks : round.picks ≡ []

-- ---- the choice in a round

-- what stays the same while picks are made
pub record Setting : Type 0 where
  pub text : Text
  pub facts : List Atom
  pub admitted : List Atom
  pub proposers : List Proposer

abbrev pub setting_of : RoundState → Setting
setting_of round = record { text = round.text; facts = round.facts; admitted = round.admitted; proposers = round.proposers }

-- in each trace that has these facts as its last state, the events violate this denial
abbrev pub ViolatesAfter : Text → List Atom → List Atom → ℕ → Type 0
ViolatesAfter text facts events k = InState text facts (λ level trace. ViolatesNumber text level trace events k)

abbrev pub choice_in : Setting → Choice
choice_in setting = record {
  goals = map (λ proposer. proposer.goal) setting.proposers;
  proposals = groups_of setting.proposers;
  events = setting.admitted;
  Violates = ViolatesAfter setting.text setting.facts;
}

-- ---- what holds of a round

-- the trial was longer since this moment, in which nothing happened yet
pub record IsSince (text : Text) (moment : Moment) (trial : TrialState) : Type 0 where
  pub first : TrialState
  pub is : IsTrial text first
  pub anew : first.events ≡ []
  pub marked : moment ≡ moment_of first
  pub longer : IsLonger first trial

-- each proposal is of events
abbrev pub MayHappen : Text → Candidate → Type 0
MayHappen text candidate = AllByRecursion (λ (group : Group). AreEvents text group.atoms) candidate.proposals

-- the candidate is noted as picked exactly where its goal has a pick
abbrev pub IsNoted : List Pick → Candidate → Type 0
IsNoted picks candidate = IsTrue candidate.is_picked ↔ Contains (goals_of picks) (number_of candidate)

-- The trial, of whose events so many are of the batch and the others those of the picks, can be taken back to where nothing happened; each
-- candidate may happen, and is noted as picked where it is.
pub record IsRound (text : Text) (trial : TrialState) (count : ℕ) (candidates : List Candidate) (picks : List Pick) (start : Moment) : Type 0 where
  pub is : IsTrial text trial
  pub since : IsSince text start trial
  pub within : count ≤ length trial.events
  pub events : trial.events ≡ take count trial.events ++ by_picks picks
  pub may : AllByRecursion (MayHappen text) candidates
  pub noted : AllByRecursion (IsNoted picks) candidates

-- the proposer is the goal with what it proposes at a time
pub record IsProposer (text : Text) (time : ℕ) (goal : Goal) (proposer : Proposer) : Type 0 where
  pub number : proposer.goal ≡ goal.goal.0
  pub proposed : AreProposed text time goal.nodes proposer.groups

-- each of them is that of a goal
abbrev pub AreProposers : Text → ℕ → List Goal → List Proposer → Type 0
AreProposers text time goals proposers = AllZip (IsProposer text time) goals proposers

-- one round is the other but for what the goals propose
pub record IsSameBut (old new : RoundState) : Type 0 where
  pub text : new.text ≡ old.text
  pub facts : new.facts ≡ old.facts
  pub picks : new.picks ≡ old.picks
  pub admitted : new.admitted ≡ old.admitted

-- ---- what is decided

-- the goals are those that are pending after some trace of so many cycles that has these facts as its last state
pub record ArePursued (text : Text) (depth time : ℕ) (facts : List Atom) (goals : List Goal) : Type 0 where
  pub level : List ℕ → ℕ
  pub levels : AreLevels (clauses text) level
  pub trace : Trace
  pub state : IsState text level trace (length trace.cycles) facts
  pub count : length trace.cycles ≡ time
  pub pursuit : Pursuit
  pub goals_are : pursuit.goals ≡ goals
  pub stands : StandsFor text level depth trace pursuit

-- The events of a batch have these verdicts, and with those that are admitted these picks are the plain ones of the goals with these keys.
pub record AreDecided (text : Text) (level : List ℕ → ℕ) (depth : ℕ) (prefer : Prefer) (trace : Trace) (keys : List GoalKey) (events : List Atom) (verdicts : List Verdict) (chosen : List Pick) : Type 0 where
  pub judged : AreJudged text level trace [] events verdicts
  pub picks : ArePicks text level depth trace keys [] (admitted events verdicts) chosen
  pub no_more : NoMore text level depth trace keys (admitted events verdicts) chosen
  pub passes : AllPasses text level depth trace keys (order_of prefer (length keys)) [] (admitted events verdicts) chosen

-- Whatever trace of so many cycles has these facts as its last state, and has these goals pending.
abbrev pub IsDecision : Text → ℕ → Prefer → ℕ → List Atom → Pursuit → List Atom → List Verdict → List Pick → Type 0
IsDecision text depth prefer time facts pursuit events verdicts picks =
    InState text facts (λ level trace. length trace.cycles ≡ time → (stands : StandsFor text level depth trace pursuit) →
    AreDecided text level depth prefer trace stands.keys events verdicts picks)

-- The laws of statuses, each a statement over texts, traces and keys.
use Rattle.std.specs.Prelude.{◌≡◌, ◌≤◌, ℕ, List, length, Option}
use Rattle.lps_terms.specs.declared.text.Text.{Text}
use Rattle.lps_model.specs.declared.trace.Trace.{Trace}
use Rattle.lps_meaning.specs.declared.goal.Closed.{Closed}
use Rattle.lps_meaning.specs.declared.goal.Closed.TheVariants as c
use Rattle.lps_meaning.specs.declared.goal.Counts.{Counts}
use Rattle.lps_meaning.specs.declared.goal.GoalKey.{GoalKey}
use Rattle.lps_meaning.specs.Goals.{IsClosed, HasStatus, IsFulfilled, IsFulfilledWithin, IsRuleTrue}
use Rattle.lps_meaning.specs.Laws.{IsContinuation}
use Rattle.lps_meaning.specs.Reports.{AreCounts}

-- What is known of a goal at a time of a trace is known in every continuation of the trace and at every later time.
abbrev pub InEachContinuation : (Trace → GoalKey → ℕ → Type 0) → (Trace → GoalKey → ℕ → Type 0) → Type 0
InEachContinuation Now Later = (trace longer : Trace) → IsContinuation trace longer → (key : GoalKey) (now later : ℕ) →
    key.time ≤ now → now ≤ length trace.cycles → now ≤ later → Now trace key now → Later longer key later

-- a goal that is closed stays closed so, in texts of this sort
abbrev pub StatusStays : (Text → Type 0) → Type 0
StatusStays IsOfSort = (text : Text) (level : List ℕ → ℕ) (depth : ℕ) → IsOfSort text → (how : Closed) → InEachContinuation
    (λ trace key now. IsClosed text level trace depth key now how) (λ longer key later. IsClosed text level longer depth key later how)

-- in texts of this sort no alternative becomes true after Failed, at any nesting
abbrev pub FailedIsForever : (Text → Type 0) → Type 0
FailedIsForever IsOfSort = (text : Text) (level : List ℕ → ℕ) (depth : ℕ) → IsOfSort text → InEachContinuation
    (λ trace key now. IsClosed text level trace depth key now c.Failed) (λ longer key later. IsFulfilled text level longer key later → ⊥)

-- in texts of this sort none does after Cut by an instance that nests at most the depth
abbrev pub CutIsForever : (Text → Type 0) → Type 0
CutIsForever IsOfSort = (text : Text) (level : List ℕ → ℕ) (depth : ℕ) → IsOfSort text → InEachContinuation
    (λ trace key now. IsClosed text level trace depth key now c.Cut) (λ longer key later. IsFulfilledWithin text level longer depth key later → ⊥)

-- where no goal is pending, failed or cut, every rule is true
abbrev pub RulesAreTrue : Type 0
RulesAreTrue = (text : Text) (level : List ℕ → ℕ) (depth : ℕ) (trace : Trace) (counts : Counts) → AreCounts text level depth trace counts →
    counts.pending ≡ 0 → counts.failed ≡ 0 → counts.cut ≡ 0 → (n : ℕ) → IsRuleTrue text level trace (length trace.cycles) n

-- a goal has one status at a time
abbrev pub StatusesAreUnique : Type 0
StatusesAreUnique = (text : Text) (level : List ℕ → ℕ) (trace : Trace) (depth : ℕ) (key : GoalKey) (now : ℕ) (one other : Option Closed) →
    HasStatus text level trace depth key now one → HasStatus text level trace depth key now other → one ≡ other

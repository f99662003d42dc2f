-- Two goals that want what may not happen at once: plain runs by either preference, cycles that are not legal, and a whole report.
--   event e/0, f/0. action a/0, c/0.
--   false a from T to T1, c from T to T1.
--   if e from T to T1 then a from T2 to T3, T3 =< T1 + 2.
--   if f from T to T1 then c from T2 to T3, T3 =< T1 + 1.
-- Events e and f happen in cycle 1, so that goal 1 wants a and goal 2 wants c, and e again in cycle 2.
use Rattle.std.specs.Prelude.{◌++◌, ℕ, List, [], ◌∷◌, codes}
use Rattle.lps_terms.specs.declared.atom.Atom.{Atom}
use Rattle.lps_terms.specs.declared.body.Body.TheVariants as b
use Rattle.lps_terms.specs.declared.item.Item.{Item}
use Rattle.lps_terms.specs.declared.kind.Kind.TheVariants as k
use Rattle.lps_terms.specs.declared.prefer.Prefer.TheVariants.{Oldest, Newest}
use Rattle.lps_terms.specs.declared.statement.Statement.{Statement}
use Rattle.lps_terms.specs.declared.text.Text.{Text}
use Rattle.lps_model.specs.declared.cycle.Cycle.{Cycle}
use Rattle.lps_model.specs.declared.cycle.Pick.{Pick}
use Rattle.lps_model.specs.declared.trace.Trace.{Trace}
use Rattle.lps_model.specs.declared.verdict.Verdict.TheVariants.{Admitted}
use Rattle.lps_model.specs.Rules.{Rule}
use Rattle.lps_meaning.specs.declared.goal.GoalKey.{GoalKey}
use Rattle.lps_meaning.specs.Cycles.{IsLegal, IsRun}
use Rattle.lps_meaning.specs.Denials.{ViolatesNone}
use Rattle.lps_meaning.specs.Plain.{IsPlainRun}
use Rattle.lps_meaning.specs.Reports.{IsReport}
use Rattle.lps_examples.specs.Examples.{said, declared_as, nullary, from_to, at_most, happening, trace_of, event_e, event_f, action_a, action_c}

-- ---- the text

-- after the event the action is to be done, and to end at most so much later
abbrev pub due_rule : List ℕ → List ℕ → ℕ → Rule
due_rule event action plus = record {
  antecedent = from_to (nullary event) 0 1 ∷ [];
  alternatives = (from_to (nullary action) 2 3 ∷ at_most 3 1 plus ∷ []) ∷ [];
}

abbrev rule_of : Rule → Statement
rule_of rule = said (b.Rule rule.antecedent rule.alternatives)

abbrev pub conflict_denial : List Item
conflict_denial = from_to action_a 0 1 ∷ from_to action_c 0 1 ∷ []

abbrev pub conflict_text : Text
conflict_text = record {
  statements = said (b.Declare (declared_as k.Event (codes "e") 0 ∷ declared_as k.Event (codes "f") 0 ∷ []))
      ∷ said (b.Declare (declared_as k.Action (codes "a") 0 ∷ declared_as k.Action (codes "c") 0 ∷ []))
      ∷ said (b.Denial conflict_denial)
      ∷ rule_of (due_rule (codes "e") (codes "a") 2) ∷ rule_of (due_rule (codes "f") (codes "c") 1) ∷ [];
}

-- the key of a goal of such a rule
abbrev pub due_key : ℕ → ℕ → GoalKey
due_key rule time = record { rule = rule; values = []; times = time ∷ []; time = time }

-- ---- cycles and traces

abbrev pub picked : ℕ → Atom → Pick
picked goal action = record { goal = goal; group = record { atoms = action ∷ [] } }

-- cycle 1, and cycle 2 with these picks
abbrev pub cycle_one : Cycle
cycle_one = happening (event_e ∷ event_f ∷ [])

abbrev pub cycle_two : List Pick → Cycle
cycle_two picks = record { events = event_e ∷ []; verdicts = Admitted ∷ []; picks = picks }

abbrev pub trace_at_one : Trace
trace_at_one = trace_of [] (cycle_one ∷ [])

abbrev pub trace_with : List Pick → Trace
trace_with picks = trace_of [] (cycle_one ∷ cycle_two picks ∷ [])

-- the one action is done, or the other
abbrev pub picks_a : List Pick
picks_a = picked 1 action_a ∷ []

abbrev pub picks_c : List Pick
picks_c = picked 2 action_c ∷ []

abbrev pub conflict_batches : List (List Atom)
conflict_batches = (event_e ∷ event_f ∷ []) ∷ (event_e ∷ []) ∷ []

-- ---- plain runs

-- With the oldest goal first a is done, and with the newest c, and not the other way round. With the event alone c violates no denial:
-- beside the pick of a it may not be picked since it is tried with all that happens in the cycle.
abbrev pub ConflictExample : Type 0
ConflictExample = (level : List ℕ → ℕ) → IsPlainRun conflict_text level 100 Oldest conflict_batches (trace_with picks_a)
    × IsPlainRun conflict_text level 100 Newest conflict_batches (trace_with picks_c)
    × (IsPlainRun conflict_text level 100 Oldest conflict_batches (trace_with picks_c) → ⊥)
    × (IsPlainRun conflict_text level 100 Newest conflict_batches (trace_with picks_a) → ⊥)
    × ViolatesNone conflict_text level trace_at_one (event_e ∷ action_c ∷ [])

-- either trace is a run, whatever is preferred
abbrev pub EitherIsRun : Type 0
EitherIsRun = (level : List ℕ → ℕ) → IsRun conflict_text level 100 (trace_with picks_a) × IsRun conflict_text level 100 (trace_with picks_c)

-- ---- cycles that are not legal

-- after a trace a cycle with event e and these picks is not legal
abbrev pub IsIllegal : (List ℕ → ℕ) → Trace → List Pick → Type 0
IsIllegal level trace picks = IsLegal conflict_text level 100 trace (cycle_two picks) → ⊥

-- Both at once, which a denial forbids; none, where one more may be made; two picks of one goal; a pick of what another goal wants;
-- and in the next cycle a pick of a goal that is solved, or of one that has failed.
abbrev pub IllegalExample : Type 0
IllegalExample = (level : List ℕ → ℕ) → IsIllegal level trace_at_one (picked 1 action_a ∷ picked 2 action_c ∷ []) × IsIllegal level trace_at_one []
    × IsIllegal level trace_at_one (picked 1 action_a ∷ picked 1 action_a ∷ []) × IsIllegal level trace_at_one (picked 2 action_a ∷ [])
    × IsIllegal level (trace_with picks_a) picks_a × IsIllegal level (trace_with picks_a) picks_c

-- ---- a report

-- the whole report of the run with a: in cycle 2 a goal comes, one is picked and solved, and one fails
abbrev pub ReportExample : Type 0
ReportExample = (level : List ℕ → ℕ) → IsReport conflict_text level 100 (trace_with picks_a) 0 (codes "cycle 0\nstate\ncycle 1\nadmit e\nadmit f\nstate\ngoal 1 rule 1 with 1\ngoal 2 rule 2 with 1\n"
    ++ codes "cycle 2\nadmit e\ndo a for 1\nstate\ngoal 3 rule 1 with 2\nsolved 1\nfailed 2\nopen 1 failed 1 cut 0\n")

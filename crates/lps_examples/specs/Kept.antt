-- What is kept in the trace with a of `Conflicts`: of each rule what is left of its antecedent, and of each pending goal what is left of
-- its plans.
use Rattle.std.specs.Prelude.{◌≡◌, pos, ℕ, List, [], ◌∷◌, codes}
use Rattle.lps_terms.specs.declared.time_rel.TimeRel.TheVariants as r
use Rattle.lps_meaning.specs.declared.goal.Closed.TheVariants as c
use Rattle.lps_meaning.specs.declared.node.LeftItem.TheVariants as l
use Rattle.lps_meaning.specs.declared.node.Node.{Node}
use Rattle.lps_meaning.specs.declared.when.When.TheVariants.{Known, Unknown}
use Rattle.lps_meaning.specs.Goals.{IsClosed}
use Rattle.lps_nodes.specs.Nodes.{IsGoalNode, IsKept}
use Rattle.lps_examples.specs.Examples.{nullary, trace_of}
use Rattle.lps_examples.specs.Conflicts.{conflict_text, trace_at_one, trace_with, picks_a, due_key}

-- `e from T1 to T0` is left of an antecedent that carries T0
abbrev pub antecedent_left : List ℕ → Node
antecedent_left event = record {
  alternative = 0;
  rank = [];
  done = 0;
  carry = record { values = []; times = Unknown 0 ∷ [] };
  rest = record { item = l.Span (nullary event) (Unknown 1) (Unknown 0); nest = 0 } ∷ [];
  limits = [];
}

-- `a from T0 to T1, T1 =< time + plus` is left of a goal of that time
abbrev pub goal_left : List ℕ → ℕ → ℕ → Node
goal_left action plus time = record {
  alternative = 1;
  rank = [];
  done = 0;
  carry = record { values = []; times = [] };
  rest = record { item = l.Span (nullary action) (Unknown 0) (Unknown 1); nest = 0 } ∷ [];
  limits = record { left = Unknown 1; rel = r.AtMost; right = Known time; plus = pos plus } ∷ [];
}

-- the second goal has exactly this node in cycle 1; in cycle 2 it has none, and has failed
abbrev pub GoalNodeExample : Type 0
GoalNodeExample = (level : List ℕ → ℕ) → IsGoalNode conflict_text level trace_at_one 100 (due_key 2 1) 1 (goal_left (codes "c") 1 1)
    × ((node : Node) → IsGoalNode conflict_text level trace_at_one 100 (due_key 2 1) 1 node → node ≡ goal_left (codes "c") 1 1)
    × ((node : Node) → IsGoalNode conflict_text level (trace_with picks_a) 100 (due_key 2 1) 2 node → ⊥)
    × IsClosed conflict_text level (trace_with picks_a) 100 (due_key 2 1) 2 c.Failed

-- Of each rule 5 symbols are kept, always; of each goal 9 while it is pending, and none once it is solved or has failed. So 10 are
-- kept at first, 28 with two goals, and 19 in cycle 2 with a third one alone.
abbrev pub KeptExample : Type 0
KeptExample = (level : List ℕ → ℕ) → IsKept conflict_text level 100 (trace_of [] []) 0 10 × IsKept conflict_text level 100 trace_at_one 1 28
    × IsKept conflict_text level 100 (trace_with picks_a) 2 19

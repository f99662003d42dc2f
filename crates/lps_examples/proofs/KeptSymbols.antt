-- What is kept for two goals that want what may not happen at once.
use Rattle.std.proofs.Common.{ℕ, List, [], ◌∷◌, refl, arith, inr}
use Rattle.std.specs.List.{AllZip}
use Rattle.lps_meaning.specs.declared.goal.Closed.TheVariants as c
use Rattle.lps_model.specs.declared.trace.Trace.{Trace}
use Rattle.lps_model.specs.Rules.{rules}
use Rattle.lps_nodes.specs.Nodes.{IsKeptForRule, IsKeptForGoal}
use Rattle.lps_examples.specs.Examples.{trace_of}
use Rattle.lps_examples.specs.Conflicts.{conflict_text, trace_at_one, trace_with, picks_a, due_key}
use Rattle.lps_examples.specs.Kept.{GoalNodeExample, KeptExample}
use Rattle.lps_examples.proofs.ConflictTraces.{keys_at_one, keys_at_two, no_goals, goals_at_one, goals_at_two, due_a, due_c, solved, failed}
use Rattle.lps_examples.proofs.DueNodes as due
use Rattle.lps_examples.proofs.DueRules as d

pub goal_node : GoalNodeExample
goal_node level = (
  due.goal_node conflict_text level trace_at_one due_c 100 1 1 (omega arith) (omega arith),
  due.only_goal_node conflict_text level trace_at_one due_c 100 1 1,
  due.no_goal_node conflict_text level (trace_with picks_a) due_c 100 1 2 (omega arith),
  failed level,
)

module _ (level : List ℕ → ℕ) (trace : Trace) (now : ℕ) where
  for_rules : AllZip (IsKeptForRule conflict_text level 100 trace now) (rules conflict_text) (5 ∷ 5 ∷ [])
  for_rules = (due.kept_for_rule conflict_text level trace due_a 100 now, (due.kept_for_rule conflict_text level trace due_c 100 now, tt))

  -- a goal is kept in the cycle in which it comes
  new_a : IsKeptForGoal conflict_text level 100 trace now (due_key 1 now) 9
  new_a = due.kept_for_goal conflict_text level trace due_a 100 now now (omega arith) (omega arith) (d.new_pending conflict_text level trace due_a 100 now (omega arith))

  new_c : IsKeptForGoal conflict_text level 100 trace now (due_key 2 now) 9
  new_c = due.kept_for_goal conflict_text level trace due_c 100 now now (omega arith) (omega arith) (d.new_pending conflict_text level trace due_c 100 now (omega arith))

pub kept : KeptExample
kept level = (
  record {
    keys = [];
    goals = no_goals level (trace_of [] []);
    for_rules = 5 ∷ 5 ∷ [];
    are_for_rules = for_rules level (trace_of [] []) 0;
    for_goals = [];
    are_for_goals = tt;
    all = refl;
  },
  record {
    keys = keys_at_one;
    goals = goals_at_one level trace_at_one refl;
    for_rules = 5 ∷ 5 ∷ [];
    are_for_rules = for_rules level trace_at_one 1;
    for_goals = 9 ∷ 9 ∷ [];
    are_for_goals = (new_a level trace_at_one 1, (new_c level trace_at_one 1, tt));
    all = refl;
  },
  record {
    keys = keys_at_two;
    goals = goals_at_two level;
    for_rules = 5 ∷ 5 ∷ [];
    are_for_rules = for_rules level (trace_with picks_a) 2;
    for_goals = 0 ∷ 0 ∷ 9 ∷ [];
    are_for_goals = (inr ((c.Solved, solved level), refl), (inr ((c.Failed, failed level), refl), (new_a level (trace_with picks_a) 2, tt)));
    all = refl;
  },
)

-- What stands for a trace at a time stands for each continuation of it at that time.
use Rattle.std.proofs.Common.{ℕ, ◌≤◌, List, arith, inl, inr}
use Rattle.std.specs.Prelude.{Some, None}
use Rattle.lps_terms.specs.declared.text.Text.{Text}
use Rattle.lps_model.specs.declared.trace.Trace.{Trace}
use Rattle.lps_model.proofs.Growth.{AreSame, same_back}
use Rattle.lps_meaning.specs.declared.goal.GoalKey.{GoalKey}
use Rattle.lps_meaning.specs.declared.node.Node.{Node}
use Rattle.lps_meaning.specs.Goals.{shared_values}
use Rattle.lps_meaning.proofs.Prefixes.{goal_same, met_within_same, same_now, status_same, walk_same}
use Rattle.lps_nodes.specs.Nodes.{IsGoalNode}
use Rattle.lps_goaltrees.specs.declared.goal.Goal.{Goal}
use Rattle.lps_goaltrees.specs.Followed.{IsFollowed}
use Rattle.lps_goaltrees.specs.Laws.{StandsInContinuations}

le_self : (n : ℕ) → n ≤ n
le_self n = omega arith

module _ (text : Text) (level : List ℕ → ℕ) (now : ℕ) (depth : ℕ) where
  node_same : (trace other : Trace) → AreSame now trace other → (key : GoalKey) (node : Node) → IsGoalNode text level trace depth key now node → IsGoalNode text level other depth key now node
  node_same trace other same key node n =
      let r = n.live.plan.reaches in record {
        end = n.end;
        live = record {
          plan = record {
            reaches = record {
              rule = r.rule;
              of_text = r.of_text;
              alternative = r.alternative;
              items = r.items;
              of_rule = r.of_rule;
              values = r.values;
              times = r.times;
              ground = r.ground;
              of_key = r.of_key;
              walk = walk_same text level now trace other same (shared_values r.rule) r.values r.times (le_self now) r.walk;
            };
            within = n.live.plan.within;
            on = n.live.plan.on;
          };
          no_call = n.live.no_call;
        };
        alternative = n.alternative;
        residual = n.residual;
      }

  followed_same : (trace other : Trace) → AreSame now trace other → (goal : Goal) → IsFollowed text level trace depth now goal → IsFollowed text level other depth now goal
  followed_same trace other same goal h = record {
    nodes = record {
      once = h.nodes.once;
      exact = λ node. (
        λ there. node_same trace other same goal.key node ((h.nodes.exact node).0 there),
        λ n. (h.nodes.exact node).1 (node_same other trace (same_back now trace other same) goal.key node n),
      );
    };
    solved = λ is. met_within_same text level now trace other same goal.key depth now (le_self now) (h.solved is);
    unsolved = λ is met. h.unsolved is (met_within_same text level now other trace (same_back now trace other same) goal.key depth now (le_self now) met);
  }

pub stands_in_continuations : StandsInContinuations
stands_in_continuations text level depth trace longer on now upto p stands =
    let same : AreSame now trace longer = same_now trace longer on now upto in
    let back : AreSame now longer trace = same_back now trace longer same in
    record {
      keys = stands.keys;
      goals = record {
        sorted = stands.goals.sorted;
        exact = λ key. (
          λ h. let m = (stands.goals.exact key).0 h in (m.0, goal_same text level now trace longer same key m.0 m.1),
          λ m. (stands.goals.exact key).1 (m.0, goal_same text level now longer trace back key m.0 m.1),
        );
      };
      kept = record {
        next = stands.kept.next;
        early = stands.kept.early;
        rising = stands.kept.rising;
        numbers = stands.kept.numbers;
        followed = λ goal h. followed_same text level now depth trace longer same goal (stands.kept.followed goal h);
      };
      pending = λ goal h. status_same text level now trace longer same depth goal.key now (le_self now) None (stands.pending goal h);
      others = λ n key h. elim (stands.others n key h) [
        | inl m ↦ inl m
        | inr closed ↦ inr (closed.0, status_same text level now trace longer same depth key now (le_self now) (Some closed.0) closed.1)
      ];
    }

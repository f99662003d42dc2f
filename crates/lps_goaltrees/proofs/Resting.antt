-- A goal that a cycle does not touch is led on to itself.
use Rattle.std.proofs.Common.{ℕ, suc, ◌≡◌, ◌≤◌, List, refl, sym, subst, inl}
use Rattle.std.specs.Prelude.{IsTrue, Contains}
use Rattle.lps_terms.specs.declared.atom.Atom.{Atom}
use Rattle.lps_terms.specs.declared.text.Text.{Text}
use Rattle.lps_model.specs.declared.trace.Trace.{Trace}
use Rattle.lps_model.specs.Acceptance.{IsAccepted}
use Rattle.lps_model.specs.Clauses.{clauses}
use Rattle.lps_model.specs.Formed.{is_formed}
use Rattle.lps_derivation.specs.Levels.{AreLevels}
use Rattle.lps_meaning.specs.declared.node.Node.{Node}
use Rattle.lps_meaning.proofs.Lists.{of_element}
use Rattle.lps_meeting.specs.Stages.{AreEventsOf}
use Rattle.lps_nodes.specs.Plans.{Entrance, IsAlternativeEntered}
use Rattle.lps_nodes.proofs.Entrances.{goal_nodes}
use Rattle.lps_residual.specs.declared.waking.Wake.{Wake}
use Rattle.lps_residual.specs.Moments.{IsReady}
use Rattle.lps_residual.specs.Waking.{IsTouched, IsWake}
use Rattle.lps_seq.specs.Resting.{Rests, RestsUntilTouched}
use Rattle.lps_goaltrees.specs.declared.goal.Goal.{Goal}
use Rattle.lps_goaltrees.specs.Followed.{IsFollowed}
use Rattle.lps_goaltrees.specs.Found.{EndsNext, IsAdvanced, IsNextNode}
use Rattle.lps_goaltrees.specs.Pursued.{IsReadyGoal}
use Rattle.lps_goaltrees.proofs.Growing.{entered_of_text, entered_since}
use Rattle.lps_goaltrees.proofs.Kept.{is_followed_next}
use Rattle.lps_goaltrees.proofs.Lists.{to_zipped}

module _ (rest : RestsUntilTouched) (text : Text) (accepted : IsAccepted text) (formed : IsTrue (is_formed text)) (depth time : ℕ) (events : List Atom) (within : time ≤ 1000000) (goal : Goal)
    (ready : IsReadyGoal text goal) (untouched : (wake : Wake) → Contains goal.wakes wake → IsTouched wake time events → ⊥) where
  node_rests : (node : Node) → Contains goal.nodes node → Rests text depth node time events
  node_rests node there =
      let woken = to_zipped (IsWake text) goal.nodes goal.wakes ready.wakes node there in
      rest text accepted node woken.0 (of_element (IsReady text) goal.nodes node ready.nodes there) woken.2 depth time events within (untouched woken.0 woken.1)

  module _ (level : List ℕ → ℕ) (levels : AreLevels (clauses text) level) (trace : Trace) (happened : AreEventsOf trace time events) (now : ℕ) (is : time ≡ suc now) (after : goal.key.time ≤ now)
      (was : IsFollowed text level trace depth now goal) where
    late : (number : ℕ) (e : Entrance) → IsAlternativeEntered text goal.key number e → e.since ≤ now
    late number e entered = subst (λ n. n ≤ now) (sym (entered_since text goal.key number e entered)) after

    -- a node of the goal goes on to itself alone
    itself : (node o : Node) → Contains goal.nodes node → IsNextNode text level trace depth goal.key now node o → o ≡ node
    itself node o there n =
        ((node_rests node there level levels trace n.1 (entered_of_text text goal.key n.0 n.1 n.2) now is (late n.0 n.1 n.2) n.3 happened).0 o).0 n.4

    to_itself : (node : Node) → Contains goal.nodes node → IsNextNode text level trace depth goal.key now node node
    to_itself node there =
        let m = (goal_nodes text level trace depth goal.key now node).0 ((was.nodes.exact node).0 there) in (
          m.0,
          m.1,
          m.2,
          m.3,
          ((node_rests node there level levels trace m.1 (entered_of_text text goal.key m.0 m.1 m.2) now is (late m.0 m.1 m.2) m.3 happened).0 node).1 refl,
        )

    nothing_ends : (node : Node) → Contains goal.nodes node → EndsNext text level trace depth goal.key now node → ⊥
    nothing_ends node there n = (node_rests node there level levels trace n.1 (entered_of_text text goal.key n.0 n.1 n.2) now is (late n.0 n.1 n.2) n.3 happened).1 n.4 n.5

    stays : IsFollowed text level trace depth (suc now) goal
    stays = is_followed_next text level trace depth accepted formed now goal goal after was refl was.nodes.once
        (λ o. (λ there. (o, there, to_itself o there), λ m. subst (Contains goal.nodes) (sym (itself m.0 o m.1 m.2)) m.1)) (λ solved. inl solved)
        (λ unsolved. (unsolved, λ ends. nothing_ends ends.0 ends.1 ends.2))

  pub led_to_itself : (facts : List Atom) → IsAdvanced text depth time facts events goal goal
  led_to_itself facts = record {
    number = refl;
    key = refl;
    followed = λ level levels trace state happened now is after was. subst (λ n. IsFollowed text level trace depth n goal) (sym is) (stays level levels trace happened now is after was);
  }

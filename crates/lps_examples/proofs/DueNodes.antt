-- What is left of a rule with one event and one action that is due: of its antecedent, and of its goals.
use Rattle.std.proofs.Common.{ℕ, zero, suc, false, ◌≡◌, ◌≤◌, ◌<◌, List, [], ◌∷◌, refl, sym, ap, subst, ◌∙◌, arith, inl, inr}
use Rattle.std.specs.Prelude.{◌+◌, pos, Contains, Some, slice_get}
use Rattle.lps_terms.specs.declared.item.Item.{Item}
use Rattle.lps_terms.specs.declared.text.Text.{Text}
use Rattle.lps_terms.specs.declared.time_rel.TimeRel.TheVariants as r
use Rattle.lps_model.specs.declared.trace.Trace.{Trace}
use Rattle.lps_model.specs.Rules.{Rule, kind_of, is_macro}
use Rattle.lps_model.proofs.Elements.{first_is_contained}
use Rattle.lps_meaning.specs.declared.goal.GoalKey.{GoalKey}
use Rattle.lps_meaning.specs.declared.node.LeftItem.TheVariants as l
use Rattle.lps_meaning.specs.declared.node.Node.{Node}
use Rattle.lps_meaning.specs.declared.when.When.{When}
use Rattle.lps_meaning.specs.declared.when.When.TheVariants.{Known, Unknown}
use Rattle.lps_meaning.specs.Goals.{IsPending}
use Rattle.lps_meaning.specs.Sequences.{Entry, Place, Values, Times, stop, passed, start}
use Rattle.lps_nodes.specs.Nodes.{IsResidual, IsGoalNode, IsWaitingNode, IsListOf, IsKeptForRule, IsKeptForGoal, left_in}
use Rattle.lps_nodes.specs.Shapes.{Whens, alternative_of, antecedent_of}
use Rattle.lps_nodes.proofs.Canonical.{residual_unique}
use Rattle.lps_examples.specs.Examples.{nullary, from_to, at_most}
use Rattle.lps_examples.specs.Conflicts.{due_rule, due_key}
use Rattle.lps_examples.specs.Kept.{antecedent_left, goal_left}
use Rattle.lps_examples.proofs.ExampleWalks.{first_same, not_empty, only_one, constants, constants_ground, stops_or_passes, stops, small_atom}
use Rattle.lps_examples.proofs.DueRules as due
use Rattle.lps_examples.proofs.DueRules.{Due}

-- ---- lists of one element

one_listed : {X : Type 0} (P : X → Type 0) (x : X) → P x → ((y : X) → P y → y ≡ x) → IsListOf P (x ∷ [])
one_listed {X = X} P x is only = record {
  once = λ i j y at_i at_j. zero_of i y at_i ∙ sym (zero_of j y at_j);
  exact = λ y. ((λ among. subst P (only_one x y among) is), (λ h. subst (Contains (x ∷ [])) (sym (only y h)) (first_is_contained x [])));
}
  where
    zero_of : (i : ℕ) (y : X) → slice_get (x ∷ []) i ≡ Some y → i ≡ 0
    zero_of zero y e = refl
    zero_of (suc i) y e = absurd (cc)

abbrev whens_of : When → When → When → When → Whens
whens_of a b c d env zero = a
whens_of a b c d env (suc zero) = b
whens_of a b c d env (suc (suc zero)) = c
whens_of a b c d env (suc (suc (suc v))) = d

abbrev two : When → When → ℕ → When
two a b zero = a
two a b (suc n) = b

module _ (text : Text) (level : List ℕ → ℕ) (trace : Trace) (q : Due text) where
  abbrev x : List ℕ
  x = q.event

  abbrev y : List ℕ
  y = q.action

  abbrev d : ℕ
  d = q.plus

  x_no_macro : is_macro (kind_of text x) ≡ false
  x_no_macro = ap is_macro q.event_kind

  abbrev rule : Rule
  rule = due_rule x y d

  abbrev consequent : List Item
  consequent = from_to (nullary y) 2 3 ∷ at_most 3 1 d ∷ []

  -- ---- the antecedent

  -- before the event all of it is left, under any values
  antecedent_residual : (s : Values) (t : Times) → IsResidual (antecedent_of rule) s t (start text 0 rule.antecedent) (antecedent_left x)
  antecedent_residual s t = record {
    whole = left_in (antecedent_left x);
    general = record {
      values = constants;
      whens = whens_of (Unknown 1) (Unknown 0) (Unknown 0) (Unknown 0);
      possible = record { values = refl; times = refl; past = tt; links = tt; when_links = tt };
      own = refl;
      general = λ u w possible. (constants 0, two (w 0 1) (w 0 0), refl);
    };
    tested = refl;
    canonical = (refl, refl);
    of_rank = refl;
    of_done = refl;
  }

  only_antecedent : (now : ℕ) (node : Node) → IsWaitingNode text level trace rule now node → node ≡ antecedent_left x
  only_antecedent now node w =
      elim (stops_or_passes text level trace [] w.values w.times entry_x [] refl x_no_macro w.walk) [
        | inl e ↦ residual_unique (antecedent_of rule) w.values w.times w.ground begin node (antecedent_left x)
            (subst (λ p. IsResidual (antecedent_of rule) w.values w.times p node) e w.residual) (antecedent_residual w.values w.times) w.alternative
        | inr p ↦
            let here : w.end ≡ passed w.times begin entry_x [] = stops text level trace [] w.values w.times refl p.walk in
            absurd (not_empty w.on.next w.on.rest (sym w.on.is_next ∙ ap (λ p. p.left) here))
      ]
    where
      begin : Place
      begin = start text 0 rule.antecedent

      entry_x : Entry
      entry_x = record { env = 0; nest = 0; joins = false; item = from_to (nullary x) 0 1 }

  waits : (now : ℕ) → IsWaitingNode text level trace rule now (antecedent_left x)
  waits now = record {
    values = constants;
    times = times;
    ground = constants_ground;
    end = start text 0 rule.antecedent;
    walk = stop;
    on = record {
      next = record { env = 0; nest = 0; joins = false; item = from_to (nullary x) 0 1 };
      rest = [];
      is_next = refl;
      step = refl;
      ahead = omega arith;
      in_order = (due.placed text level trace q x x_no_macro 0 now (omega arith), tt);
      limits = (tt, tt);
      small = (record { other = constants; alike = record { start = refl; past = tt; links = tt }; small = small_atom x }, tt);
    };
    no_call = x_no_macro;
    alternative = refl;
    residual = antecedent_residual constants times;
  }
    where
      times : Times
      times env zero = now
      times env (suc v) = suc now

  pub kept_for_rule : (depth now : ℕ) → IsKeptForRule text level depth trace now rule 5
  kept_for_rule depth now = (antecedent_left x ∷ [], one_listed (IsWaitingNode text level trace rule now) (antecedent_left x) (waits now) (only_antecedent now), refl)

  -- ---- goals

  abbrev key_at : ℕ → GoalKey
  key_at time = due_key q.number time

  -- before the action all of its alternative is left, with the time of the goal
  goal_residual : (time : ℕ) (s : Values) (t : Times) → t 0 1 ≡ time → IsResidual (alternative_of rule consequent) s t (start text time consequent) (goal_left y d time)
  goal_residual time s t of_time = record {
    whole = left_in (goal_left y d time);
    general = record {
      values = constants;
      whens = whens_of (Unknown 0) (Known time) (Unknown 0) (Unknown 1);
      possible = record { values = refl; times = ap (λ k. Known k ∷ []) (sym of_time); past = tt; links = tt; when_links = tt };
      own = refl;
      general = λ u w possible.
          let known : w 0 1 ≡ Known time = first_same possible.times ∙ ap (λ k. Known k) of_time in (
            constants 0,
            two (w 0 2) (w 0 3),
            λ j. record {
              carry = record { values = []; times = [] };
              rest = record { item = l.Span (nullary y) (w 0 2) (w 0 3); nest = 0 } ∷ [];
              limits = record { left = w 0 3; rel = r.AtMost; right = known j; plus = pos d } ∷ [];
            },
          );
    };
    tested = refl;
    canonical = (refl, refl);
    of_rank = refl;
    of_done = refl;
  }

  module _ (depth time now : ℕ) where
    pub goal_node : time ≤ now → now < time + d → IsGoalNode text level trace depth (key_at time) now (goal_left y d time)
    unfolding due.is_live
    goal_node since ahead = record {
      end = start text time consequent;
      live = due.is_live text level trace q depth time now since ahead;
      alternative = refl;
      residual = goal_residual time constants _ refl;
    }

    pub only_goal_node : (node : Node) → IsGoalNode text level trace depth (key_at time) now node → node ≡ goal_left y d time
    only_goal_node node h =
        let reached = h.live.plan.reaches in
        let here = (due.goes_on text level trace q time now h.end reached h.live.plan.on).here in
        let rules = due.rule_is text level trace q time now h.end reached in
        let items = due.items_are text level trace q time now h.end reached in
        let times = due.time_is text level trace q time now h.end reached in
        let one = subst (λ r. IsResidual (alternative_of r reached.items) reached.values reached.times h.end node) (sym rules) h.residual in
        let two = subst (λ its. IsResidual (alternative_of rule its) reached.values reached.times h.end node) (sym items.1) one in
        let three = subst (λ p. IsResidual (alternative_of rule consequent) reached.values reached.times p node) here two in
        residual_unique (alternative_of rule consequent) reached.values reached.times reached.ground (start text time consequent) node (goal_left y d time)
        three (goal_residual time reached.values reached.times times) (h.alternative ∙ items.0)

    pub no_goal_node : time + d ≤ now → (node : Node) → IsGoalNode text level trace depth (key_at time) now node → ⊥
    no_goal_node late node h = due.not_live text level trace q depth time now late (h.end, h.live)

    pub kept_for_goal : time ≤ now → now < time + d → IsPending text level trace depth (key_at time) now → IsKeptForGoal text level depth trace now (key_at time) 9
    kept_for_goal since ahead pending =
        inl (pending, (goal_left y d time ∷ [], one_listed (IsGoalNode text level trace depth (key_at time) now) (goal_left y d time) (goal_node since ahead) only_goal_node, refl))

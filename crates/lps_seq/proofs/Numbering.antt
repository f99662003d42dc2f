-- A node in canonical numbers is a stage that steps can be made on, and one of each stage that the node stands for.
use Rattle.std.proofs.Common.{ℕ, ◌≡◌, ◌⊎◌, ◌<◌, ◌≤◌, false, List, [], ◌∷◌, ◌++◌, length, refl, sym, ap, subst, ◌∙◌, inl, inr}
use Rattle.std.specs.Prelude.{◌&&◌, Err, IfOk, Ok, Result, suc, zero}
use Rattle.std.specs.List.{AllByRecursion, flat_map}
use Rattle.std.specs.declared.alloc.AllocError.{AllocError}
use Rattle.lps_facts.specs.Facts.{members}
use Rattle.lps_facts.proofs.Sets.{true_not_false}
use Rattle.lps_model.specs.VariableLists.{term_vars}
use Rattle.lps_meaning.specs.declared.node.LeftItem.TheVariants as l
use Rattle.lps_meaning.specs.declared.node.Node.{Node}
use Rattle.lps_meaning.specs.declared.when.When.{When}
use Rattle.lps_meaning.specs.declared.when.When.TheVariants.{Known}
use Rattle.lps_meaning.proofs.Occurrences.{vars-Var}
use Rattle.lps_nodes.specs.Alone.{Stage as WalkStage}
use Rattle.lps_nodes.specs.Conditions.{goes_on, is_same_time}
use Rattle.lps_nodes.specs.Led.{AreVariants, IsLedTo, IsLedToEnd}
use Rattle.lps_nodes.specs.Nodes.{left_in}
use Rattle.lps_nodes.specs.Shapes.{shape_vars, untested}
use Rattle.lps_nodes.proofs.ShapeTerms.{vars_of_put}
use Rattle.lps_unify.specs.Canonical.{place_of, renumbered}
use Rattle.lps_residual.specs.Moments.{IsReady, IsTimed}
use Rattle.lps_residual.specs.Numbered.{canonical_node, seen_unknowns, seen_variables}
use Rattle.lps_residual.specs.Putting.{when_renumbered}
use Rattle.lps_residual.proofs.Places.{all_placed}
use Rattle.lps_residual.proofs.Readying.{ready_numbered}
use Rattle.lps_meeting.specs.declared.moment.Moment.{Moment}
use Rattle.lps_meeting.specs.declared.stage.Stage.{Stage}
use Rattle.lps_meeting.specs.Stages.{AreEventsFor, AreEventsOf, IsReadyStage, IsStageOf}
use Rattle.lps_meeting.specs.Steps.{joins_at}
use Rattle.lps_seq.specs.declared.stepped.Stepped.{Stepped}
use Rattle.lps_seq.specs.Found.{AreGiven}
use Rattle.lps_seq.specs.Leads.{CanBeStepped, IsAllLed, IsAllLedFrom, StandsAt}
use Rattle.lps_seq.proofs.Waiting.{numbered_variants, then}

below_all : (seen vs : List ℕ) (n : ℕ) → AllByRecursion (λ v. place_of seen v < n) vs → AllByRecursion (λ v. v < n) (flat_map (λ v. term_vars (renumbered seen v)) vs)
below_all seen [] n h = tt
below_all seen (v ∷ vs) n h = subst (λ us. AllByRecursion (λ u. u < n) (us ++ flat_map (λ v. term_vars (renumbered seen v)) vs)) (sym (vars-Var (place_of seen v))) (h.0, below_all seen vs n h.1)

-- the variables of a node in canonical numbers have numbers below their count
numbers_below : (node : Node) → AllByRecursion (λ v. v < length (seen_variables node)) (shape_vars (left_in (canonical_node node)))
numbers_below node =
    subst (AllByRecursion (λ v. v < length (seen_variables node))) (sym (vars_of_put (renumbered (seen_variables node)) (when_renumbered (seen_unknowns node)) (left_in node)))
    (below_all (seen_variables node) (shape_vars (left_in node)) (length (seen_variables node)) (all_placed (shape_vars (left_in node))))

module _ (m : Moment) (node : Node) (can : CanBeStepped m.program.now node) (stage : Stage) (is : stage.node ≡ canonical_node node) (joins : stage.joins ≡ false) where
  pub stage_ready : m.variables ≡ length (seen_variables node) → IsTimed m.unknowns stage.node → (stage.before ≡ m.time) ⊎ (suc stage.before ≡ m.time) → m.time ≤ 1000000 → IsReadyStage m stage
  stage_ready variables timed before early =
      let ready : IsReady m.program.now stage.node = subst (IsReady m.program.now) (sym is) (ready_numbered m.program.now node can.unknowns can.moded can.decided can.timed can.no_calls) in
      record {
        variables = subst (λ n. AllByRecursion (λ v. v < n) (shape_vars (left_in stage.node))) (sym variables)
            (subst (λ z. AllByRecursion (λ v. v < length (seen_variables node)) (shape_vars (left_in z))) (sym is) (numbers_below node));
        moded = ready.moded;
        decided = ready.decided;
        timed = timed;
        no_calls = ready.no_calls;
        before = before;
        joins = λ e. absurd (true_not_false (sym e ∙ joins));
        early = early;
      }

  not_joined : (from to : When) (time : ℕ) → joins_at stage from to time ≡ false
  not_joined from to zero = refl
  not_joined from to (suc before) = ap (λ b. b && (is_same_time from (Known before) && is_same_time to (Known (suc before)))) joins

  is_stage : (x : WalkStage) → StandsAt node stage.before x → IsStageOf m.program.now m.time stage x
  is_stage x at = record {
    before = at.same_before;
    rank = at.rank ∙ ap (λ (n : Node). n.rank) (sym is);
    done = at.done ∙ ap (λ (n : Node). n.done) (sym is);
    shape = subst (λ n. AreVariants (untested x.shape) (left_in n)) (sym is) (then (untested x.shape) (left_in node) (left_in (canonical_node node)) at.shape (numbered_variants node));
    tested = at.tested;
    joins = λ a from to happening. ap (λ last. goes_on m.program.now last (l.Span a from to)) at.last ∙ sym (not_joined from to m.time);
  }

  all_from : (stepped : Stepped) → IsAllLed m stage stepped → IsAllLedFrom m.program.now node stage.before m.time (members m.facts.now) m.events.now stepped
  all_from stepped led level levels trace state events x at depth =
      subst (λ alternative. AreGiven (IsLedTo m.program.now level trace depth m.time x alternative) (IsLedToEnd m.program.now level trace depth m.time x) ⊥ stepped) (ap (λ (n : Node). n.alternative) is)
      (led level trace x (record { levels = levels; state = state; events = events_for events; is = is_stage x at }) depth)
    where
      events_for : AreEventsOf trace m.time m.events.now ⊎ (stage.before ≡ m.time) → AreEventsFor m stage trace
      events_for (inl same) = inl same
      events_for (inr now) = inr (now, joins)

  pub all_led_from : (r : Result Stepped AllocError) → IfOk r (IsAllLed m stage) → IfOk r (IsAllLedFrom m.program.now node stage.before m.time (members m.facts.now) m.events.now)
  all_led_from (Ok stepped) led = all_from stepped led
  all_led_from (Err e) led = tt

-- The instances of a walk that end at a time are those that steps alone of that time lead to the end of.
use Rattle.std.proofs.Common.{ℕ, suc, cond, false, ◌≡◌, ◌≤◌, List, [], ◌∷◌, ◌++◌, ◌∙◌, map, refl, sym, ap, subst, arith, inl, inr}
use Rattle.std.specs.Prelude.{IsTrue}
use Rattle.std.specs.List.{AllByRecursion, flat_map}
use Rattle.lps_terms.specs.declared.text.Text.{Text}
use Rattle.lps_model.specs.declared.trace.Trace.{Trace}
use Rattle.lps_model.specs.Acceptance.{IsAccepted}
use Rattle.lps_model.specs.Formed.{is_formed}
use Rattle.lps_meaning.specs.declared.node.Carry.{Carry}
use Rattle.lps_meaning.specs.declared.node.Left.{Left}
use Rattle.lps_meaning.specs.declared.node.LeftCon.{LeftCon}
use Rattle.lps_meaning.specs.declared.node.Node.{Node}
use Rattle.lps_meaning.specs.declared.when.When.{When}
use Rattle.lps_meaning.specs.Sequences.{AreInOrder, Entry, IsSmallSoFar, Link, Place, Times, Values}
use Rattle.lps_meaning.proofs.Lists.{of_filter}
use Rattle.lps_meaning.proofs.Walks.{forward}
use Rattle.lps_nodes.specs.Alone.{Stage, with_shape}
use Rattle.lps_nodes.specs.Conditions.{IsLeftLimit}
use Rattle.lps_nodes.specs.Laws.{IsOfText, IsStageAt}
use Rattle.lps_nodes.specs.Led.{AreGivenGround, IsCarriedAt, IsEnteredShape, IsLedToEnd, node_stage, start_stage}
use Rattle.lps_nodes.specs.Nodes.{left_in}
use Rattle.lps_nodes.specs.Plans.{EndsWith, Entrance, IsCarried, IsEnded, IsNode, IsOver}
use Rattle.lps_nodes.specs.Shapes.{Sequence, Shape, all_known, left_at, put_left_con, shape_of, untested}
use Rattle.lps_nodes.proofs.Carried.{carried_known, closed_limits}
use Rattle.lps_nodes.proofs.LedBack.{Comes, by_first, first_place, first_times, first_values, no_earlier, same_shapes, start_walked, step_no_con, still_after, times_given, values_given, whole_fits}
use Rattle.lps_nodes.proofs.LedLimits.{known_of_limits, limits_of_known}
use Rattle.lps_nodes.proofs.LedOn.{LeadsNow, node_leads, start_leads}
use Rattle.lps_nodes.proofs.LiftingAlone.{single, skip_all}
use Rattle.lps_nodes.proofs.NodeLaws.{limits_met, possible_own, y}
use Rattle.lps_nodes.proofs.NodeLaws.{limits_of_known as instance_limits}
use Rattle.lps_nodes.proofs.TestedLimits.{AreKnownTrue, alone_tested, is_open, known_stays, open_limits}
use Rattle.lps_nodes.proofs.TimesLeft.{times_left}

-- ---- constraints whose times are all known

none_open : (limits : List LeftCon) → AllByRecursion (λ con. is_open con ≡ false) limits → open_limits limits ≡ []
none_open [] h = refl
none_open (con ∷ limits) h = ap (λ b. cond b (con ∷ open_limits limits) (open_limits limits)) h.0 ∙ none_open limits h.1

all_stay : (x : ℕ → When) (limits : List LeftCon) → AllByRecursion (λ con. is_open con ≡ false) limits → map (put_left_con x) limits ≡ limits
all_stay x [] h = refl
all_stay x (con ∷ limits) h = λ j. known_stays x con h.0 j ∷ all_stay x limits h.1 j

no_item : {x : Left} {xs : List Left} → x ∷ xs ≡ [] → ⊥
no_item e = cc

module _ (text : Text) (accepted : IsAccepted text) (formed : IsTrue (is_formed text)) (level : List ℕ → ℕ) (trace : Trace) (depth : ℕ) (e : Entrance) (of_text : IsOfText text e.sequence) where
  abbrev q : Sequence
  q = e.sequence

  -- ---- from walks to steps alone

  ended_there : (x : Stage) (time : ℕ) (s : Values) (t : Times) (place : Place) → e.since ≤ time → (r : LeadsNow text formed level trace depth e of_text x time s t place) →
      IsOver text level trace depth e time s t place → (carry : Carry) → IsCarried text level trace depth e s t carry → r.end.before ≡ place.before → IsLedToEnd text level trace depth time x carry
  ended_there x time s t place low r over carry carried before =
      let h = over.reached in
      let is = r.general in
      let whole : r.whole.rest ≡ [] = ap (λ (z : Shape). z.rest) is.own ∙ ap (flat_map (left_at is.values is.whens)) over.whole in
      let closed = closed_limits r.whole (times_left text accepted level trace q of_text s t h.ground e.since time place h.walk r.whole is) whole in
      let numbers : ℕ → ℕ = y text level trace q s t h.ground e.since time low place h.walk r.whole is in
      let met : AllByRecursion (IsLeftLimit numbers) r.whole.limits =
      subst (AllByRecursion (IsLeftLimit numbers)) (sym (ap (λ (z : Shape). z.limits) is.own)) (limits_met text level trace q s t h.ground e.since time low place h.walk r.whole is over.limits) in
      let none : open_limits r.end.shape.limits ≡ [] = sym (ap (λ (z : Shape). z.limits) r.same) ∙ none_open r.whole.limits closed in
      let known = carried_known text accepted level trace q.given_values s t is.values is.whens q of_text e.since h.walk is.possible.past over.whole in
      let carry_is : carry ≡ r.end.shape.carry =
      (λ j. record { values = (carried.values ∙ sym known.0) j; times = (carried.times ∙ sym known.1) j }) ∙ sym (ap (λ (z : Shape). z.carry) is.own) ∙ ap (λ (z : Shape). z.carry) r.same in
      record {
        end = r.end;
        steps = r.steps;
        met = r.met;
        carried = record {
          whole = sym (ap (λ (z : Shape). z.rest) r.same) ∙ whole;
          limits = limits_of_known (λ k. 0) r.end.shape.limits (r.fit (known_of_limits numbers r.whole.limits met)) (subst (AllByRecursion (IsLeftLimit (λ k. 0))) (sym none) tt);
          last = before ∙ over.last;
          carried = carry_is;
        };
      }

  pub ends_led : (now : ℕ) → e.since ≤ now → (node : Node) (carry : Carry) → EndsWith text level trace depth e now node carry → IsLedToEnd text level trace depth (suc now) (node_stage now node) carry
  ends_led now after node carry n =
      let last = n.over.last in
      let r = node_leads text formed level trace depth e of_text now after node n.values n.times n.place n.over.reached.within n.through in
      ended_there (node_stage now node) (suc now) n.values n.times n.place (omega arith) r.0 n.over carry n.carried (r.1 (omega (arith, last)))

  pub start_ends_led : (g : Shape) → IsEnteredShape text e g → (carry : Carry) → IsEnded text level trace depth e e.since carry → IsLedToEnd text level trace depth e.since (start_stage e g) carry
  start_ends_led g entered carry n =
      let r = start_leads text formed level trace depth e of_text g entered n.values n.times n.place n.over.reached in
      ended_there (start_stage e g) e.since n.values n.times n.place (omega arith) r.0 n.over carry n.carried r.1

  -- ---- and back

  module _ (time : ℕ) (low : e.since ≤ time) where
    over_there : (s : Values) (t : Times) → map (s 0) q.given_values ≡ e.values → map (t 0) q.given_times ≡ e.times → (middle here : Place) (x : Stage) → IsStageAt depth here x → (carry : Carry) →
        IsCarriedAt time x carry → (place : Place) (comes : Comes text accepted formed level trace depth e of_text time low s t middle place x.shape) → place.left ≡ [] → place.links ≡ here.links → place.before ≡ time →
        IsOver text level trace depth e time comes.at.values comes.at.times place × IsCarried text level trace depth e comes.at.values comes.at.times carry
    over_there s t given_values given_times middle here x at carry c place comes left links last =
        let k = comes.at in
        let is = k.general in
        let closed = closed_limits x.shape (times_left text accepted level trace q of_text k.values k.times k.ground e.since time place k.walk x.shape is) c.whole in
        let instance = is.general k.values (all_known k.times) (possible_own text level trace q k.values k.times k.ground e.since time low place k.walk) in
        let limits : (shape_of q place k.values (all_known k.times)).limits ≡ x.shape.limits = ap (λ (z : Shape). z.limits) instance.2 ∙ all_stay instance.1 x.shape.limits closed in
        let known = carried_known text accepted level trace q.given_values k.values k.times is.values is.whens q of_text e.since k.walk is.possible.past left in
        let carry_is : carry ≡ (shape_of q place is.values is.whens).carry = c.carried ∙ ap (λ (z : Shape). z.carry) is.own in (
          record {
            reached = record {
              ground = k.ground;
              given_values = k.same_values ∙ given_values;
              given_times = k.same_times ∙ given_times;
              walk = k.walk;
              within = subst (AllByRecursion (λ (link : Link). link.nest ≤ depth)) (sym links) at.within;
            };
            whole = left;
            limits = instance_limits k.times q.items place.links (subst (AllByRecursion (IsLeftLimit (λ j. 0))) (sym limits) c.limits);
            last = last;
          },
          record { values = ap (λ (z : Carry). z.values) carry_is ∙ known.0; times = ap (λ (z : Carry). z.times) carry_is ∙ known.1 },
        )

  pub start_ends_back : (ground : AreGivenGround e) (g : Shape) (entered : IsEnteredShape text e g) (carry : Carry) → IsLedToEnd text level trace depth e.since (start_stage e g) carry →
      IsEnded text level trace depth e e.since carry
  start_ends_back ground g entered carry led =
      let s : Values = first_values text accepted formed level trace depth e of_text ground g entered in
      let t : Times = first_times text accepted formed level trace depth e of_text ground g entered in
      let first : Place = first_place text accepted formed level trace depth e of_text ground g entered in
      let r = start_walked text accepted formed level trace depth e of_text ground g entered led.steps in
      let a = skip_all text accepted formed level trace depth q of_text e.since e.since (no_earlier e.since) r.0.left s t first r.0 led.end.shape refl r.2 led.carried.whole in
      let on = forward text level trace q.given_values a.1.at.values a.1.at.times a.1.at.walk in
      let same = a.3 in
      let by_end = r.3 in
      let last = led.carried.last in
      let over = over_there e.since (no_earlier e.since) s t (values_given text accepted formed level trace depth e of_text ground g entered) (times_given text accepted formed level trace depth e of_text ground g entered)
      first r.0 led.end r.1 carry led.carried a.0 a.1 a.2 a.4 (omega (arith, on, same, by_end, last)) in
      record { values = a.1.at.values; times = a.1.at.times; place = a.0; over = over.0; carried = over.1 }

  module _ (now : ℕ) (after : e.since ≤ now) (node : Node) (n : IsNode text level trace depth e now node) where
    abbrev whole : Shape
    whole = n.left.residual.whole

    -- something is left at the node
    not_whole : whole.rest ≡ [] → ⊥
    not_whole empty =
        let is = n.left.residual.general in
        let next : Entry = n.live.on.next in
        let one = single (is.values next.env) (is.whens next.env) next.nest next.item (step_no_con next.item n.live.on.step) in
        no_item (sym (ap (λ ls. ls ++ flat_map (left_at is.values is.whens) n.live.on.rest) one.1) ∙ sym (ap (flat_map (left_at is.values is.whens)) n.live.on.is_next)
        ∙ sym (ap (λ (z : Shape). z.rest) is.own) ∙ empty)

    carried_to : (x : Stage) (h : Shape) → untested x.shape ≡ untested h → (AreKnownTrue x.shape.limits → AreKnownTrue h.limits) → (carry : Carry) → IsCarriedAt (suc now) x carry →
        IsCarriedAt (suc now) (with_shape x h) carry
    carried_to x h same fit carry c = record {
      whole = sym (ap (λ (z : Shape). z.rest) same) ∙ c.whole;
      limits = limits_of_known (λ k. 0) h.limits (fit (known_of_limits (λ k. 0) x.shape.limits c.limits))
          (subst (AllByRecursion (IsLeftLimit (λ k. 0))) (ap (λ (z : Shape). z.limits) same) (of_filter (IsLeftLimit (λ k. 0)) is_open x.shape.limits c.limits));
      last = c.last;
      carried = c.carried ∙ ap (λ (z : Shape). z.carry) same;
    }

    pub ends_back : (carry : Carry) → IsLedToEnd text level trace depth (suc now) (node_stage now node) carry → EndsWith text level trace depth e now node carry
    ends_back carry led =
        let tested = alone_tested text level trace depth (suc now) led.steps whole (same_shapes text accepted formed level trace depth e of_text now after node n) in
        let end : Stage = with_shape led.end tested.0 in
        let c : IsCarriedAt (suc now) end carry =
        carried_to led.end tested.0 tested.2 (tested.4 (whole_fits text accepted formed level trace depth e of_text now after node n (left_in node).limits)) carry led.carried in
        elim (by_first text accepted formed level trace depth e of_text now after node n tested.1 (tested.3 led.met) refl) [
          | inl still ↦ absurd (not_whole (sym (ap (λ (z : Stage). z.shape.rest) still) ∙ c.whole))
          | inr b ↦
              let a = skip_all text accepted formed level trace depth q of_text e.since (suc now) (still_after e.since now after) b.place.left b.values b.times b.first b.place end.shape refl b.comes c.whole in
              let k = a.1.at in
              let on = forward text level trace q.given_values k.values k.times a.1.second in
              let same = a.3 in
              let by_end = b.forward in
              let begun = b.begun in
              let last = c.last in
              let over = over_there (suc now) (still_after e.since now after) b.values b.times b.given_values b.given_times b.first b.place end b.at carry c a.0 a.1 a.2 a.4 (omega (arith, on, same, by_end, begun, last)) in
              record {
                values = k.values;
                times = k.times;
                place = a.0;
                over = over.0;
                carried = over.1;
                through = b.through k.values k.times a.0 over.0.reached (subst (AreInOrder text k.times a.0.before) (sym a.2) tt) over.0.limits
                    (subst (AllByRecursion (IsSmallSoFar q.given_values k.values a.0)) (sym a.2) tt) a.1.second a.1.past;
              }
        ]

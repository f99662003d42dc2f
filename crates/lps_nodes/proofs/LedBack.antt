-- What steps alone of a time lead to is what a walk comes to then.
use Rattle.std.proofs.Common.{ℕ, suc, true, false, ◌≡◌, ◌≤◌, List, [], ◌∷◌, ◌++◌, ◌∙◌, map, refl, sym, ap, subst, arith, inl, inr}
use Rattle.std.specs.Prelude.{◌⊎◌, Bool, IsTrue, None}
use Rattle.std.specs.List.{AllByRecursion, flat_map}
use Rattle.lps_terms.specs.declared.item.Item.{Item}
use Rattle.lps_terms.specs.declared.item.Item.TheVariants as i
use Rattle.lps_terms.specs.declared.term.Term.{Term}
use Rattle.lps_terms.specs.declared.text.Text.{Text}
use Rattle.lps_model.specs.declared.trace.Trace.{Trace}
use Rattle.lps_model.specs.Acceptance.{IsAccepted}
use Rattle.lps_model.specs.Formed.{is_formed}
use Rattle.lps_model.specs.Rules.{is_macro, kind_of}
use Rattle.lps_derivation.specs.Ground.{is_ground}
use Rattle.lps_meaning.specs.declared.node.Left.{Left}
use Rattle.lps_meaning.specs.declared.node.LeftCon.{LeftCon}
use Rattle.lps_meaning.specs.declared.node.Node.{Node}
use Rattle.lps_meaning.specs.declared.when.When.{When}
use Rattle.lps_meaning.specs.declared.when.When.TheVariants.{Known}
use Rattle.lps_meaning.specs.Goals.{AreAllGround, CanGoOn}
use Rattle.lps_meaning.specs.Sequences.{AreInOrder, AreLimits, Entry, HasSameTimes, HasSameValues, IsAhead, IsSmallSoFar, IsSpanPlaced, Link, Place, Times, Values, Walk, end_of, is_call, is_step, start, stop}
use Rattle.lps_meaning.proofs.Framing.{accepted_texts_are_framed}
use Rattle.lps_meaning.proofs.Splits.{limits_back, small_back}
use Rattle.lps_meaning.proofs.Walks.{in_order, wider}
use Rattle.lps_nodes.specs.Alone.{Alone, IsLeftTrue, IsToldItem, Stage, done_then, enter, meet, met_to, stay, with_shape}
use Rattle.lps_nodes.specs.Conditions.{CanComeTrue, IsLeftAhead, IsLeftPlaced, IsLeftSmall, goes_on, time_in}
use Rattle.lps_nodes.specs.Laws.{IsOfText, IsStageAt}
use Rattle.lps_nodes.specs.Led.{AreGivenGround, AreMetNow, AreVariants, IsEnteredShape, IsLedTo, IsLedToCut, IsLeftAt, IsMetNow, is_left_call, node_stage, start_stage}
use Rattle.lps_nodes.specs.Nodes.{IsResidual, left_in}
use Rattle.lps_nodes.specs.Plans.{Entrance, GoesOnTo, IsCutNext, IsCutNow, IsCutPlan, IsLeft, IsLivePlan, IsNode, IsReached, IsThrough}
use Rattle.lps_nodes.specs.Shapes.{IsCanonical, IsGeneral, Sequence, Shape, all_known, left_at, left_of, untested}
use Rattle.lps_nodes.specs.Steps.{PassesTo}
use Rattle.lps_nodes.proofs.Cleaning.{clean, clean_ground, clean_stays}
use Rattle.lps_nodes.proofs.ComingThrough.{entry_or, sooner}
use Rattle.lps_nodes.proofs.ConditionLaws.{ended, false_true, item_or, linked}
use Rattle.lps_nodes.proofs.LedBasics.{untested_twice}
use Rattle.lps_nodes.proofs.LedLimits.{can_to, known_of_limits}
use Rattle.lps_nodes.proofs.LedOn.{first_at, start_is_general}
use Rattle.lps_nodes.proofs.LedVariants.{canonical_same, general_variants}
use Rattle.lps_nodes.proofs.Lifting.{walk_then}
use Rattle.lps_nodes.proofs.LiftingAlone.{ComesFrom, IsOpened, alone_walked, head_left, is_con, past_it, rank_same, skip}
use Rattle.lps_nodes.proofs.Moves.{SameEntry, links_of, moved, past_of}
use Rattle.lps_nodes.proofs.NodeLaws.{all_self, all_two, given_same, map_two, other, past_moved, plan_moved, walk_moved}
use Rattle.lps_nodes.proofs.Numbering.{residual_there}
use Rattle.lps_nodes.proofs.ShownGroups.{shown}
use Rattle.lps_nodes.proofs.TestedLimits.{AreKnownTrue, alone_tested}
use Rattle.lps_nodes.proofs.WaitingNodes.{general_moved, whole_can}

-- ---- times

pub no_earlier : (since : ℕ) → since ≤ since
no_earlier since = omega arith

pub still_after : (since now : ℕ) → since ≤ now → since ≤ suc now
still_after since now after = omega arith

-- ---- items

-- an entry that is an item left, which is ahead, is a step
ahead_step : (now : ℕ) (x : ℕ → ℕ) (u : ℕ → Term) (w : ℕ → When) (nest : ℕ) (item : Item) (rest behind : List Left) (first : Left) → left_of u w nest item ++ rest ≡ first ∷ behind →
    IsLeftAhead now x first.item → is_con item ≡ false → is_step item ≡ true
ahead_step now x u w nest (i.At lit time) rest behind first e ahead no_con = refl
ahead_step now x u w nest (i.Span a from to) rest behind first e ahead no_con = refl
ahead_step now x u w nest (i.Bare lit) rest behind first e ahead no_con = absurd (subst (IsLeftAhead now x) (sym (ap (λ ls. item_or first.item ls) e)) ahead)
ahead_step now x u w nest (i.Built built) rest behind first e ahead no_con = absurd (subst (IsLeftAhead now x) (sym (ap (λ ls. item_or first.item ls) e)) ahead)
ahead_step now x u w nest (i.Con con) rest behind first e ahead no_con = absurd (false_true (sym no_con))

pub step_no_con : (item : Item) → is_step item ≡ true → is_con item ≡ false
step_no_con (i.At lit time) step = refl
step_no_con (i.Span a from to) step = refl
step_no_con (i.Bare lit) step = refl
step_no_con (i.Built built) step = refl
step_no_con (i.Con con) step = absurd (false_true step)

abbrev number_in : When → ℕ
number_in (Known n) = n
number_in _ = 0

span_begins : (now : ℕ) (b goes : Bool) (before from to : ℕ) → b ≡ false → to ≡ suc now → IsSpanPlaced b goes before from to → now ≤ from
span_begins now true goes before from to plain ends h = absurd (false_true (sym plain))
span_begins now false true before from to plain ends h = let one = h.0 in omega (arith, ends, one)
span_begins now false false before from to plain ends h = let one = h.0 in omega (arith, ends, one)

-- a step that is met at the next time was ahead
ahead_met : (text : Text) (now before : ℕ) (goes : Bool) (u : ℕ → Term) (w : ℕ → ℕ) (nest : ℕ) (item : Item) (met : Left) → left_of u (λ v. Known (w v)) nest item ≡ met ∷ [] → is_step item ≡ true →
    is_call text item ≡ false → IsMetNow (suc now) met.item → IsLeftPlaced text (λ k. 0) before goes met.item → IsAhead now w item
ahead_met text now before goes u w nest (i.At lit time) met e step no_call is_now placed =
    let time_is : w time.0 ≡ suc now = ap number_in (subst (IsMetNow (suc now)) (sym (ap (λ ls. item_or met.item ls) e)) is_now) in omega (arith, time_is)
ahead_met text now before goes u w nest (i.Span a from to) met e step no_call is_now placed =
    let same = sym (ap (λ ls. item_or met.item ls) e) in
    span_begins now (is_macro (kind_of text a.name)) goes before (w from.0) (w to.0) no_call (ap number_in (subst (IsMetNow (suc now)) same is_now))
    (subst (IsLeftPlaced text (λ k. 0) before goes) same placed)
ahead_met text now before goes u w nest (i.Bare lit) met e step no_call is_now placed = absurd (false_true step)
ahead_met text now before goes u w nest (i.Built built) met e step no_call is_now placed = absurd (false_true step)
ahead_met text now before goes u w nest (i.Con con) met e step no_call is_now placed = absurd (false_true step)

-- and ends then
end_met : (now before : ℕ) (u : ℕ → Term) (w : ℕ → ℕ) (nest : ℕ) (item : Item) (met : Left) → left_of u (λ v. Known (w v)) nest item ≡ met ∷ [] → is_step item ≡ true → IsMetNow (suc now) met.item →
    end_of w before item ≡ suc now
end_met now before u w nest (i.At lit time) met e step is_now = ap number_in (subst (IsMetNow (suc now)) (sym (ap (λ ls. item_or met.item ls) e)) is_now)
end_met now before u w nest (i.Span a from to) met e step is_now = ap number_in (subst (IsMetNow (suc now)) (sym (ap (λ ls. item_or met.item ls) e)) is_now)
end_met now before u w nest (i.Bare lit) met e step is_now = absurd (false_true step)
end_met now before u w nest (i.Built built) met e step is_now = absurd (false_true step)
end_met now before u w nest (i.Con con) met e step is_now = absurd (false_true step)

-- ---- stages

-- what is left at a stage is left there with other known constraints that are true
left_to : (text : Text) (now alternative : ℕ) (x : Stage) (h : Shape) → untested x.shape ≡ untested h → (AreKnownTrue x.shape.limits → AreKnownTrue h.limits) → (node : Node) →
    IsLeftAt text now x alternative node → IsLeftAt text now (with_shape x h) alternative node
left_to text now alternative x h same fit node left =
    let can = can_to text now x.shape h same fit left.can in
    let first : left.can.first ≡ can.first = ap (head_left can.first) (sym left.can.is_first ∙ ap (λ (z : Shape). z.rest) same ∙ can.is_first) in
    record {
      can = can;
      no_call = subst (λ (first : Left). is_left_call text first.item ≡ false) first left.no_call;
      variants = subst (λ k. AreVariants k (left_in node)) same left.variants;
      canonical = left.canonical;
      of_alternative = left.of_alternative;
      of_rank = left.of_rank;
      of_done = left.of_done;
    }

module _ (text : Text) (accepted : IsAccepted text) (formed : IsTrue (is_formed text)) (level : List ℕ → ℕ) (trace : Trace) (depth : ℕ) (e : Entrance) (of_text : IsOfText text e.sequence) where
  abbrev q : Sequence
  q = e.sequence

  module _ (time : ℕ) (low : e.since ≤ time) where
    abbrev pub Comes : Values → Times → Place → Place → Shape → Type 0
    Comes s t middle place g = ComesFrom text accepted formed level trace depth q of_text e.since time low s t middle place g

    abbrev Opened : Values → Times → Place → Place → Shape → Type 0
    Opened s t middle here g = IsOpened text accepted formed level trace depth q of_text e.since time low s t middle here g

    -- a live plan that leaves the node, which comes through the middle, up to which nothing changed
    record Landed (s : Values) (t : Times) (middle place : Place) (node : Node) : Type 0 where
      pub values : Values
      pub times : Times
      pub live : IsLivePlan text level trace depth e time values times place
      pub left : IsLeft text level trace depth e values times place node
      pub second : Walk text level trace q.given_values values times time place middle
      pub past : AllByRecursion (SameEntry s values t times) middle.past

    -- the same with a cut plan
    record CutLanded (s : Values) (t : Times) (middle place : Place) : Type 0 where
      pub values : Values
      pub times : Times
      pub cut : IsCutPlan text level trace depth e time values times place
      pub second : Walk text level trace q.given_values values times time place middle
      pub past : AllByRecursion (SameEntry s values t times) middle.past

    module _ (s : Values) (t : Times) (given_values : map (s 0) q.given_values ≡ e.values) (given_times : map (t 0) q.given_times ≡ e.times) (middle here : Place) (x : Stage)
        (at : IsStageAt depth here x) (can : CanComeTrue text time x.shape) (o : Opened s t middle here x.shape) where
      abbrev values : Values
      values = o.comes.at.values

      abbrev times : Times
      times = o.comes.at.times

      abbrev ground : AreAllGround values
      ground = o.comes.at.ground

      abbrev walk : Walk text level trace q.given_values values times time o.place (start text e.since q.items)
      walk = o.comes.at.walk

      abbrev is : IsGeneral q values times o.place x.shape
      is = o.comes.at.general

      next_step : is_step o.next.item ≡ true
      next_step = ahead_step time can.times (is.values o.next.env) (is.whens o.next.env) o.next.nest o.next.item (flat_map (left_at is.values is.whens) o.rest) can.behind can.first
          (sym (ap (flat_map (left_at is.values is.whens)) o.left) ∙ sym (ap (λ (h : Shape). h.rest) is.own) ∙ can.is_first) can.ahead o.no_con

      -- other times under which the plan can go on
      abbrev z : Times
      z = other text level trace q values times ground e.since time low o.place walk x.shape is o.next o.rest o.left next_step can

      given : map (z 0) q.given_times ≡ map (times 0) q.given_times
      given = given_same text level trace q values times ground e.since time low o.place walk x.shape is o.next o.rest o.left next_step can

      past : AllByRecursion (SameEntry values values times z) o.place.past
      past = past_moved text level trace q values times ground e.since time low o.place walk x.shape is o.next o.rest o.left next_step can

      walk_z : Walk text level trace q.given_values values z time o.place (start text e.since q.items)
      walk_z = walk_moved text level trace q values times ground e.since time low o.place walk x.shape is o.next o.rest o.left next_step can

      on : CanGoOn text q.given_values values z time q.items o.place
      on = plan_moved text level trace q values times ground e.since time low o.place walk x.shape is o.next o.rest o.left next_step can
          (shown text accepted level trace q of_text values times ground e.since time low o.place walk x.shape is o.next o.rest o.left next_step can)

      general : IsGeneral q values z o.place x.shape
      general = general_moved q values values times z o.place refl given past x.shape is

      -- the first item left is the first entry left
      first_call : (is_left_call text can.first.item ≡ is_call text o.next.item) × (can.first.nest ≡ o.next.nest)
      first_call = first_at text q values times o.place x.shape is o.next o.rest o.left next_step can.first can.behind can.is_first

      same_next : o.next ≡ on.next
      same_next = ap (entry_or o.next) (sym o.left ∙ on.is_next)

      links : AllByRecursion (HasSameValues values) o.place.links × AllByRecursion (HasSameTimes z) o.place.links
      links = linked text level trace q.given_values values z walk_z tt tt

      there : IsReached text level trace depth e time values z o.place
      there = record {
        ground = ground;
        given_values = o.comes.at.same_values ∙ given_values;
        given_times = given ∙ o.comes.at.same_times ∙ given_times;
        walk = walk_z;
        within = subst (AllByRecursion (λ (link : Link). link.nest ≤ depth)) (sym o.links) at.within;
      }

      second : Walk text level trace q.given_values values z time o.place middle
      second = moved values values times z text level trace q.given_values refl o.comes.second past links.0 links.1

      past_middle : AllByRecursion (SameEntry s values t z) middle.past
      past_middle =
          all_two (SameEntry s values t times) (SameEntry values values times z) (SameEntry s values t z) (λ e here there. here ∙ there) middle.past o.comes.past
          (past_of values values times times text level trace q.given_values (SameEntry values values times z) o.comes.second past)

      -- a cut plan is at the place
      land_cut : is_left_call text can.first.item ≡ true → can.first.nest ≡ depth → CutLanded s t middle o.place
      land_cut call deep = record {
        values = values;
        times = z;
        cut = record {
          reached = there;
          on = on;
          call = subst (λ (n : Entry). is_call text n.item ≡ true) same_next (sym first_call.0 ∙ call);
          deep = subst (λ (n : Entry). n.nest ≡ depth) same_next (sym first_call.1 ∙ deep);
        };
        second = second;
        past = past_middle;
      }

      residual : (other : Node) × (other.alternative ≡ e.alternative) × IsResidual q values z o.place other
      residual = residual_there text q values z ground o.place x.shape general e.alternative

      module _ (node : Node) (variants : AreVariants (untested x.shape) (left_in node)) (canonical : IsCanonical (left_in node)) (of_alternative : node.alternative ≡ e.alternative) (of_rank : node.rank ≡ x.rank)
          (of_done : node.done ≡ x.done) where
        same_left : left_in residual.0 ≡ left_in node
        same_left =
            canonical_same (untested x.shape) (left_in residual.0) (left_in node)
            (subst (AreVariants (untested x.shape)) (sym residual.2.tested) (general_variants q values z ground o.place x.shape residual.2.whole general residual.2.general)) variants
            (subst IsCanonical (sym residual.2.tested) residual.2.canonical) canonical

        same_node : residual.0 ≡ node
        same_node =
            let alternatives = residual.1 ∙ sym of_alternative in
            let ranks = residual.2.of_rank ∙ rank_same o.place.links here.links o.links ∙ sym at.of_rank ∙ sym of_rank in
            let dones = residual.2.of_done ∙ o.groups ∙ sym at.of_done ∙ sym of_done in
            λ j. record {
              alternative = alternatives j;
              rank = ranks j;
              done = dones j;
              carry = (same_left j).carry;
              rest = (same_left j).rest;
              limits = (same_left j).limits;
            }

        -- a live plan is at the place, which leaves the node
        land_live : is_left_call text can.first.item ≡ false → Landed s t middle o.place node
        land_live no_call = record {
          values = values;
          times = z;
          live = record { reached = there; on = on; no_call = subst (λ (n : Entry). is_call text n.item ≡ false) same_next (sym first_call.0 ∙ no_call) };
          left = record { residual = subst (IsResidual q values z o.place) same_node residual.2; alternative = of_alternative };
          second = second;
          past = past_middle;
        }

    land : (s : Values) (t : Times) → map (s 0) q.given_values ≡ e.values → map (t 0) q.given_times ≡ e.times → (middle here : Place) (x : Stage) → IsStageAt depth here x → (node : Node)
        (left : IsLeftAt text time x e.alternative node) (o : Opened s t middle here x.shape) → Landed s t middle o.place node
    land s t given_values given_times middle here x at node left o =
        land_live s t given_values given_times middle here x at left.can o node left.variants left.canonical left.of_alternative left.of_rank left.of_done left.no_call

  -- ---- from the start

  module _ (ground_given : AreGivenGround e) (g : Shape) (entered : IsEnteredShape text e g) where
    abbrev pub first_values : Values
    first_values env v = clean (entered.values env v)

    abbrev pub first_times : Times
    first_times env v = time_in (λ k. 0) (entered.whens env v)

    ground_stay : (ts : List Term) → AllByRecursion (λ x. IsTrue (is_ground x)) ts → map clean ts ≡ ts
    ground_stay [] h = refl
    ground_stay (x ∷ ts) h = λ j. clean_stays x h.0 j ∷ ground_stay ts h.1 j

    numbers_stay : (ns : List ℕ) → map (time_in (λ k. 0)) (map (λ n. Known n) ns) ≡ ns
    numbers_stay [] = refl
    numbers_stay (n ∷ ns) = ap (λ more. n ∷ more) (numbers_stay ns)

    pub values_given : map (first_values 0) q.given_values ≡ e.values
    values_given = sym (map_two clean (entered.values 0) q.given_values) ∙ ap (map clean) entered.given_values ∙ ground_stay e.values ground_given

    pub times_given : map (first_times 0) q.given_times ≡ e.times
    times_given = sym (map_two (time_in (λ k. 0)) (entered.whens 0) q.given_times) ∙ ap (map (time_in (λ k. 0))) entered.given_times ∙ numbers_stay e.times

    abbrev pub first_place : Place
    first_place = start text e.since q.items

    -- a walk from the start that steps alone lead along
    pub start_walked : {end : Stage} → Alone text level trace depth e.since end (start_stage e g) →
        (beyond : Place) × IsStageAt depth beyond end × Comes e.since (no_earlier e.since) first_values first_times first_place beyond end.shape × (beyond.before ≤ end.before)
    start_walked steps =
        alone_walked text accepted formed level trace depth q of_text e.since e.since (no_earlier e.since) first_values first_times first_place steps first_place
        (record {
          at = record {
            values = first_values;
            times = first_times;
            ground = λ env v. clean_ground (entered.values env v);
            same_values = refl;
            same_times = refl;
            walk = stop;
            general = start_is_general text formed level trace depth e of_text g entered first_values first_times values_given times_given;
          };
          second = stop;
          past = tt;
        })
        (record { within = tt; of_rank = refl; of_done = refl }) (omega arith) tt

    pub start_cut_back : IsLedToCut text level trace depth e.since (start_stage e g) → IsCutNow text level trace depth e e.since
    start_cut_back led =
        let r = start_walked led.steps in
        let can = led.cut.can in
        let o = skip text accepted formed level trace depth q of_text e.since e.since (no_earlier e.since) r.0.left first_values first_times first_place r.0 led.end.shape refl r.2 can.first can.behind can.is_first in
        let landed = land_cut e.since (no_earlier e.since) first_values first_times values_given times_given first_place r.0 led.end r.1 can o led.cut.call led.cut.deep in
        record { values = landed.values; times = landed.times; place = o.place; cut = landed.cut }

    pub start_back : (node : Node) → IsLedTo text level trace depth e.since (start_stage e g) e.alternative node → IsNode text level trace depth e e.since node
    start_back node led =
        let r = start_walked led.steps in
        let o = skip text accepted formed level trace depth q of_text e.since e.since (no_earlier e.since) r.0.left first_values first_times first_place r.0 led.end.shape refl r.2 led.left.can.first
        led.left.can.behind led.left.can.is_first in
        let landed = land e.since (no_earlier e.since) first_values first_times values_given times_given first_place r.0 led.end r.1 node led.left o in
        record { values = landed.values; times = landed.times; place = o.place; live = landed.live; left = landed.left }

  -- ---- from a node

  module _ (now : ℕ) (after : e.since ≤ now) (node : Node) (n : IsNode text level trace depth e now node) where
    abbrev s : Values
    s = n.values

    abbrev t : Times
    t = n.times

    abbrev middle : Place
    middle = n.place

    abbrev reached : IsReached text level trace depth e now s t middle
    reached = n.live.reached

    abbrev whole : Shape
    whole = n.left.residual.whole

    abbrev is_whole : IsGeneral q s t middle whole
    is_whole = n.left.residual.general

    abbrev pub soon : e.since ≤ suc now
    soon = still_after e.since now after

    next_no_con : is_con n.live.on.next.item ≡ false
    next_no_con = step_no_con n.live.on.next.item n.live.on.step

    -- a walk through the middle, up to which nothing changed, with values and times under which the next step is ahead, goes through the node
    through_by : (v : Values) (w : Times) (place : Place) → IsReached text level trace depth e (suc now) v w place → AreInOrder text w place.before place.left → AreLimits w q.items place.links →
        AllByRecursion (IsSmallSoFar q.given_values v place) place.left → Walk text level trace q.given_values v w (suc now) place middle → AllByRecursion (SameEntry s v t w) middle.past →
        IsAhead now (w n.live.on.next.env) n.live.on.next.item → IsThrough text level trace depth e now (suc now) node v w place
    through_by v w place there order limits small second past ahead =
        let links = linked text level trace q.given_values v w there.walk tt tt in
        let values = links_of v v w w text level trace q.given_values (HasSameValues v) second links.0 in
        let whens = links_of v v w w text level trace q.given_values (HasSameTimes w) second links.1 in
        let given = there.given_values ∙ sym reached.given_values in
        let given_times = there.given_times ∙ sym reached.given_times in
        record {
          middle = middle;
          live = record {
            reached = record {
              ground = there.ground;
              given_values = there.given_values;
              given_times = there.given_times;
              walk = moved s v t w text level trace q.given_values (sym given) reached.walk past values whens;
              within = reached.within;
            };
            on = record {
              next = n.live.on.next;
              rest = n.live.on.rest;
              is_next = n.live.on.is_next;
              step = n.live.on.step;
              ahead = ahead;
              in_order = in_order text level trace q.given_values v w (accepted_texts_are_framed text accepted) second order;
              limits = limits_back text level trace q.given_values v w q.items second limits;
              small = small_back text level trace q.given_values v w values second small;
            };
            no_call = n.live.no_call;
          };
          left = record {
            residual = record {
              whole = whole;
              general = general_moved q s v t w middle given given_times past whole is_whole;
              tested = n.left.residual.tested;
              canonical = n.left.residual.canonical;
              of_rank = n.left.residual.of_rank;
              of_done = n.left.residual.of_done;
            };
            alternative = n.left.alternative;
          };
          walk = second;
        }

    -- ---- the first step

    early : middle.before ≤ now
    early = ended text level trace q.given_values s t reached.walk after

    abbrev comes_here : Comes (suc now) soon s t middle middle whole
    comes_here = record {
      at = record {
        values = s;
        times = t;
        ground = reached.ground;
        same_values = refl;
        same_times = refl;
        walk = wider text level trace q.given_values s t (omega arith) reached.walk;
        general = is_whole;
      };
      second = stop;
      past = all_self (left_at s (all_known t)) middle.past;
    }

    abbrev opened_here : Opened (suc now) soon s t middle middle whole
    opened_here = record {
      place = middle;
      comes = comes_here;
      same = refl;
      links = refl;
      groups = refl;
      next = n.live.on.next;
      rest = n.live.on.rest;
      left = n.live.on.is_next;
      no_con = next_no_con;
    }

    -- behind the first step: a walk comes there from the middle, and the first step was ahead with its values and times
    pub record Begun (end : Stage) : Type 0 where
      pub values : Values
      pub times : Times
      pub ground : AreAllGround values
      pub given_values : map (values 0) q.given_values ≡ e.values
      pub given_times : map (times 0) q.given_times ≡ e.times
      pub first : Place
      pub place : Place
      pub at : IsStageAt depth place end
      pub comes : Comes (suc now) soon values times first place end.shape
      pub forward : place.before ≤ end.before
      pub begun : suc now ≤ first.before
      -- under all values and times under which what was passed there is the same
      pub through : (v : Values) (w : Times) (beyond : Place) → IsReached text level trace depth e (suc now) v w beyond → AreInOrder text w beyond.before beyond.left → AreLimits w q.items beyond.links →
          AllByRecursion (IsSmallSoFar q.given_values v beyond) beyond.left → Walk text level trace q.given_values v w (suc now) beyond first → AllByRecursion (SameEntry values v times w) first.past →
          IsThrough text level trace depth e now (suc now) node v w beyond

    abbrev pub stage : Stage
    stage = with_shape (node_stage now node) whole

    begin : {end : Stage} (first : Left) (behind : List Left) (met : Left) (h : Shape) → whole.rest ≡ first ∷ behind → IsToldItem met.item → IsLeftTrue text level trace (suc now) met.item →
        IsLeftSmall met.item → IsLeftPlaced text (λ k. 0) now (goes_on text None first.item) met.item → PassesTo (met ∷ []) whole h → IsMetNow (suc now) met.item →
        Alone text level trace depth (suc now) end (met_to text stage first met h) → Begun end
    begin first behind met h is_first told is_true small placed step is_now more =
        let next : Entry = n.live.on.next in
        let r = past_it text accepted formed level trace depth q of_text e.since (suc now) soon s t middle now None tt whole middle early opened_here first behind is_first met h told is_true small placed step in
        let s1 : Values = r.1.at.values in
        let t1 : Times = r.1.at.times in
        let a = alone_walked text accepted formed level trace depth q of_text e.since (suc now) soon s1 t1 r.0 more r.0
        (record {
          at = record {
            values = s1;
            times = t1;
            ground = r.1.at.ground;
            same_values = refl;
            same_times = refl;
            walk = r.1.at.walk;
            general = r.1.at.general;
          };
          second = stop;
          past = all_self (left_at s1 (all_known t1)) r.0.past;
        })
        (record {
          within = subst (AllByRecursion (λ (link : Link). link.nest ≤ depth)) (sym r.3) reached.within;
          of_rank = n.left.residual.of_rank ∙ rank_same middle.links r.0.links (sym r.3);
          of_done = ap (λ m. done_then m (goes_on text None first.item) met.item) n.left.residual.of_done ∙ sym r.4;
        }) r.2 told in
        let ends : r.0.before ≡ suc now = ap (λ (p : Place). p.before) r.6 ∙ end_met now middle.before (s1 next.env) (t1 next.env) next.nest next.item met r.5 n.live.on.step is_now in
        record {
          values = s1;
          times = t1;
          ground = r.1.at.ground;
          given_values = r.1.at.same_values ∙ reached.given_values;
          given_times = r.1.at.same_times ∙ reached.given_times;
          first = r.0;
          place = a.0;
          at = a.1;
          comes = a.2;
          forward = a.3;
          begun = omega (arith, ends);
          through = λ v w beyond there order limits small second past.
              let links = linked text level trace q.given_values v w there.walk tt tt in
              let both : AllByRecursion (SameEntry s1 v t1 w) (next ∷ middle.past) = subst (λ (p : Place). AllByRecursion (SameEntry s1 v t1 w) p.past) r.6 past in
              through_by v w beyond there order limits small
              (walk_then beyond
              (moved s1 v t1 w text level trace q.given_values (r.1.at.same_values ∙ reached.given_values ∙ sym there.given_values) r.1.second past
              (links_of v v w w text level trace q.given_values (HasSameValues v) second links.0) (links_of v v w w text level trace q.given_values (HasSameTimes w) second links.1)) second)
              (all_two (SameEntry s s1 t t1) (SameEntry s1 v t1 w) (SameEntry s v t w) (λ x here there. here ∙ there) middle.past r.1.past both.1)
              (ahead_met text now now (goes_on text None first.item) (v next.env) (w next.env) next.nest next.item met (sym both.0 ∙ r.5) n.live.on.step n.live.no_call is_now placed);
        }

    -- steps alone on what is left at the middle are none, or they begin with a step
    pub by_first : {end x : Stage} (steps : Alone text level trace depth (suc now) end x) → AreMetNow steps → x ≡ stage → (end ≡ stage) ⊎ Begun end
    by_first stay mets same = inl same
    by_first {end} (meet first behind met h is_first told is_true small placed step more) mets same =
        inr (begin first behind met h (sym (ap (λ (z : Stage). z.shape.rest) same) ∙ is_first) told is_true small
        (subst (λ (z : Stage). IsLeftPlaced text (λ k. 0) z.before (goes_on text z.last first.item) met.item) same placed)
        (subst (λ (z : Stage). PassesTo (met ∷ []) z.shape h) same step) mets.0
        (subst (λ (z : Stage). Alone text level trace depth (suc now) end (met_to text z first met h)) same more))
    by_first (enter first behind a from to number clause h is_first item macro deep named small step more) mets same =
        let call = first_at text q s t middle whole is_whole n.live.on.next n.live.on.rest n.live.on.is_next n.live.on.step first behind (sym (ap (λ (z : Stage). z.shape.rest) same) ∙ is_first) in
        absurd (false_true (sym n.live.no_call ∙ sym call.0 ∙ ap (is_left_call text) item ∙ macro))

    pub whole_fits : (limits : List LeftCon) → AreKnownTrue limits → AreKnownTrue whole.limits
    whole_fits limits known = let can = whole_can text level trace depth e now after node n in known_of_limits can.times whole.limits can.limits

    pub same_shapes : untested (left_in node) ≡ untested whole
    same_shapes = ap untested n.left.residual.tested ∙ untested_twice whole

    stage_here : IsStageAt depth middle stage
    stage_here = record { within = reached.within; of_rank = n.left.residual.of_rank; of_done = n.left.residual.of_done }

    pub node_back : (other : Node) → IsLedTo text level trace depth (suc now) (node_stage now node) e.alternative other → GoesOnTo text level trace depth e now node other
    node_back other led =
        let tested = alone_tested text level trace depth (suc now) led.steps whole same_shapes in
        let end : Stage = with_shape led.end tested.0 in
        let left : IsLeftAt text (suc now) end e.alternative other = left_to text (suc now) e.alternative led.end tested.0 tested.2 (tested.4 (whole_fits (left_in node).limits)) other led.left in
        elim (by_first tested.1 (tested.3 led.met) refl) [
          | inl still ↦
              let landed = land (suc now) soon s t reached.given_values reached.given_times middle middle stage stage_here other (subst (λ (z : Stage). IsLeftAt text (suc now) z e.alternative other) still left) opened_here in
              let on = landed.live.on in
              let next : on.next ≡ n.live.on.next = ap (entry_or on.next) (sym on.is_next ∙ n.live.on.is_next) in
              record {
                values = landed.values;
                times = landed.times;
                place = middle;
                live = landed.live;
                left = landed.left;
                through = through_by landed.values landed.times middle landed.live.reached on.in_order on.limits on.small landed.second landed.past
                    (subst (λ (x : Entry). IsAhead now (landed.times x.env) x.item) next (sooner now (suc now) (landed.times on.next.env) on.next.item (omega arith) on.ahead));
              }
          | inr b ↦
              let o = skip text accepted formed level trace depth q of_text e.since (suc now) soon b.place.left b.values b.times b.first b.place end.shape refl b.comes left.can.first left.can.behind left.can.is_first in
              let landed = land (suc now) soon b.values b.times b.given_values b.given_times b.first b.place end b.at other left o in
              let on = landed.live.on in
              record {
                values = landed.values;
                times = landed.times;
                place = o.place;
                live = landed.live;
                left = landed.left;
                through = b.through landed.values landed.times o.place landed.live.reached on.in_order on.limits on.small landed.second landed.past;
              }
        ]

    pub cut_back : IsLedToCut text level trace depth (suc now) (node_stage now node) → IsCutNext text level trace depth e now node
    cut_back led =
        let tested = alone_tested text level trace depth (suc now) led.steps whole same_shapes in
        let end : Stage = with_shape led.end tested.0 in
        let can = can_to text (suc now) led.end.shape tested.0 tested.2 (tested.4 (whole_fits (left_in node).limits)) led.cut.can in
        let first : led.cut.can.first ≡ can.first = ap (head_left can.first) (sym led.cut.can.is_first ∙ ap (λ (z : Shape). z.rest) tested.2 ∙ can.is_first) in
        let call : is_left_call text can.first.item ≡ true = subst (λ (left : Left). is_left_call text left.item ≡ true) first led.cut.call in
        elim (by_first tested.1 (tested.3 led.met) refl) [
          | inl still ↦
              let here = first_at text q s t middle whole is_whole n.live.on.next n.live.on.rest n.live.on.is_next n.live.on.step can.first can.behind (sym (ap (λ (z : Stage). z.shape.rest) still) ∙ can.is_first) in
              absurd (false_true (sym n.live.no_call ∙ sym here.0 ∙ call))
          | inr b ↦
              let o = skip text accepted formed level trace depth q of_text e.since (suc now) soon b.place.left b.values b.times b.first b.place end.shape refl b.comes can.first can.behind can.is_first in
              let landed = land_cut (suc now) soon b.values b.times b.given_values b.given_times b.first b.place end b.at can o call (subst (λ (left : Left). left.nest ≡ depth) first led.cut.deep) in
              let on = landed.cut.on in
              record {
                values = landed.values;
                times = landed.times;
                place = o.place;
                cut = landed.cut;
                through = b.through landed.values landed.times o.place landed.cut.reached on.in_order on.limits on.small landed.second landed.past;
              }
        ]

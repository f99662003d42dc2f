-- What a walk comes to at a time is what steps alone of that time lead to.
use Rattle.std.proofs.Common.{ℕ, suc, true, ◌≡◌, ◌≤◌, ◌<◌, List, [], ◌∷◌, ◌++◌, ◌∙◌, map, refl, sym, ap, subst, arith}
use Rattle.std.specs.Prelude.{IsTrue, None}
use Rattle.std.specs.List.{AllByRecursion, flat_map}
use Rattle.lps_terms.specs.declared.item.Item.{Item}
use Rattle.lps_terms.specs.declared.item.Item.TheVariants as i
use Rattle.lps_terms.specs.declared.term.Term.{Term}
use Rattle.lps_terms.specs.declared.text.Text.{Text}
use Rattle.lps_model.specs.declared.trace.Trace.{Trace}
use Rattle.lps_model.specs.Formed.{is_formed}
use Rattle.lps_meaning.specs.declared.node.Left.{Left}
use Rattle.lps_meaning.specs.declared.node.Node.{Node}
use Rattle.lps_meaning.specs.declared.when.When.{When}
use Rattle.lps_meaning.specs.declared.when.When.TheVariants.{Known}
use Rattle.lps_meaning.specs.Sequences.{Entry, Place, Times, Values, IsWithin, is_call, is_step, start}
use Rattle.lps_nodes.specs.Alone.{Alone, Stage, with_shape}
use Rattle.lps_nodes.specs.Conditions.{IsLeftLimit}
use Rattle.lps_nodes.specs.Laws.{IsOfText, IsStageAt, stage_at}
use Rattle.lps_nodes.specs.Led.{AreMetNow, AreVariants, IsEnteredShape, IsLedTo, IsLedToCut, is_left_call, node_stage, start_stage}
use Rattle.lps_nodes.specs.Nodes.{left_in}
use Rattle.lps_nodes.specs.Plans.{Entrance, GoesOnTo, IsCutNext, IsCutNow, IsCutPlan, IsLeft, IsLivePlan, IsNode, IsReached, IsThrough}
use Rattle.lps_nodes.specs.Shapes.{IsCanonical, IsGeneral, Sequence, Shape, all_known, left_at, left_of, untested}
use Rattle.lps_meaning.proofs.Lists.{of_filter}
use Rattle.lps_nodes.proofs.ComingThrough.{live_leads_on}
use Rattle.lps_nodes.proofs.ConditionLaws.{false_true, item_or}
use Rattle.lps_nodes.proofs.LeadingOn.{from_start}
use Rattle.lps_nodes.proofs.LedBasics.{untested_twice}
use Rattle.lps_nodes.proofs.LedLimits.{can_to, known_of_limits}
use Rattle.lps_nodes.proofs.LedVariants.{general_variants}
use Rattle.lps_nodes.proofs.MetNow.{met_all}
use Rattle.lps_nodes.proofs.NodeLaws.{can_come_true, map_two}
use Rattle.lps_nodes.proofs.TestedLimits.{AreKnownTrue, alone_tested, is_open}

-- ---- the first item left

abbrev nest_or : ℕ → List Left → ℕ
nest_or d [] = d
nest_or d (left ∷ rest) = left.nest

-- the first item left is a macro call where the first entry is, and nests as deep
first_is : (text : Text) (u : ℕ → Term) (w : ℕ → When) (nest : ℕ) (item : Item) (rest behind : List Left) (first : Left) → left_of u w nest item ++ rest ≡ first ∷ behind → is_step item ≡ true →
    (is_left_call text first.item ≡ is_call text item) × (first.nest ≡ nest)
first_is text u w nest (i.At lit time) rest behind first e step = (ap (λ ls. is_left_call text (item_or first.item ls)) (sym e), ap (nest_or nest) (sym e))
first_is text u w nest (i.Span a from to) rest behind first e step = (ap (λ ls. is_left_call text (item_or first.item ls)) (sym e), ap (nest_or nest) (sym e))
first_is text u w nest (i.Bare lit) rest behind first e step = absurd (false_true step)
first_is text u w nest (i.Built built) rest behind first e step = absurd (false_true step)
first_is text u w nest (i.Con con) rest behind first e step = absurd (false_true step)

pub first_at : (text : Text) (q : Sequence) (s : Values) (t : Times) (place : Place) (g : Shape) → IsGeneral q s t place g → (next : Entry) (rest : List Entry) → place.left ≡ next ∷ rest → is_step next.item ≡ true →
    (first : Left) (behind : List Left) → g.rest ≡ first ∷ behind → (is_left_call text first.item ≡ is_call text next.item) × (first.nest ≡ next.nest)
first_at text q s t place g is next rest left step first behind is_first =
    first_is text (is.values next.env) (is.whens next.env) next.nest next.item (flat_map (left_at is.values is.whens) rest) behind first
    (sym (ap (flat_map (left_at is.values is.whens)) left) ∙ sym (ap (λ (h : Shape). h.rest) is.own) ∙ is_first) step

module _ (text : Text) (formed : IsTrue (is_formed text)) (level : List ℕ → ℕ) (trace : Trace) (depth : ℕ) (e : Entrance) (of_text : IsOfText text e.sequence) where
  abbrev q : Sequence
  q = e.sequence

  -- steps alone that end at the time lead to a stage of the place, but for constraints whose times are all known
  pub record LeadsNow (x : Stage) (time : ℕ) (s : Values) (t : Times) (place : Place) : Type 0 where
    pub end : Stage
    pub steps : Alone text level trace depth time end x
    pub met : AreMetNow steps
    pub whole : Shape
    pub general : IsGeneral q s t place whole
    pub same : untested whole ≡ untested end.shape
    pub fit : AreKnownTrue whole.limits → AreKnownTrue end.shape.limits
    pub at : IsStageAt depth place end

  -- a live plan is left there
  pub live_there : (x : Stage) (time : ℕ) (s : Values) (t : Times) (place : Place) → e.since ≤ time → LeadsNow x time s t place → IsLivePlan text level trace depth e time s t place →
      (node : Node) → IsLeft text level trace depth e s t place node → IsLedTo text level trace depth time x e.alternative node
  live_there x time s t place low r live node left =
      let can = can_to text time r.whole r.end.shape r.same r.fit
      (can_come_true text level trace q s t live.reached.ground e.since time low place live.reached.walk r.whole r.general live.on) in
      record {
        end = r.end;
        steps = r.steps;
        met = r.met;
        left = record {
          can = can;
          no_call = (first_at text q s t place r.whole r.general live.on.next live.on.rest live.on.is_next live.on.step can.first can.behind
              (ap (λ (z : Shape). z.rest) r.same ∙ can.is_first)).0 ∙ live.no_call;
          variants = subst (λ k. AreVariants k (left_in node)) r.same
              (subst (AreVariants (untested r.whole)) (sym left.residual.tested)
              (general_variants q s t live.reached.ground place r.whole left.residual.whole r.general left.residual.general));
          canonical = subst IsCanonical (sym left.residual.tested) left.residual.canonical;
          of_alternative = left.alternative;
          of_rank = left.residual.of_rank ∙ sym r.at.of_rank;
          of_done = left.residual.of_done ∙ sym r.at.of_done;
        };
      }

  -- a plan is cut there
  pub cut_there : (x : Stage) (time : ℕ) (s : Values) (t : Times) (place : Place) → e.since ≤ time → LeadsNow x time s t place → IsCutPlan text level trace depth e time s t place →
      IsLedToCut text level trace depth time x
  cut_there x time s t place low r cut =
      let can = can_to text time r.whole r.end.shape r.same r.fit
      (can_come_true text level trace q s t cut.reached.ground e.since time low place cut.reached.walk r.whole r.general cut.on) in
      let first = first_at text q s t place r.whole r.general cut.on.next cut.on.rest cut.on.is_next cut.on.step can.first can.behind (ap (λ (z : Shape). z.rest) r.same ∙ can.is_first) in
      record { end = r.end; steps = r.steps; met = r.met; cut = record { can = can; call = first.0 ∙ cut.call; deep = first.1 ∙ cut.deep } }

  -- ---- from a node

  module _ (now : ℕ) (after : e.since ≤ now) (node : Node) (s : Values) (t : Times) (place : Place) (within : IsWithin depth place)
      (through : IsThrough text level trace depth e now (suc now) node s t place) where
    abbrev OnTime : Stage → Type 0
    OnTime x = (r : LeadsNow x (suc now) s t place) × (now < place.before → r.end.before ≡ place.before)

    pub node_leads : OnTime (node_stage now node)
    node_leads =
        let live = through.live in
        let residual = through.left.residual in
        let whole : Shape = residual.whole in
        let r = live_leads_on text formed level trace depth q of_text s t live.reached.ground e.since now (suc now) after (omega arith) through.middle live.reached.walk live.on live.no_call place through.walk
        within whole residual.general in
        let same : untested whole ≡ untested (left_in node) = sym (ap untested residual.tested ∙ untested_twice whole) in
        let tested = alone_tested text level trace depth (suc now) r.0.steps (left_in node) same in
        let stage : ◌≡◌ {A = Stage} (with_shape (stage_at now through.middle whole) (left_in node)) (node_stage now node) =
        λ j. record { before = now; last = None; rank = sym residual.of_rank j; done = sym residual.of_done j; shape = left_in node } in
        let can = can_come_true text level trace q s t live.reached.ground e.since now after through.middle live.reached.walk whole residual.general live.on in
        subst OnTime stage (
          record {
            end = with_shape r.0.end tested.0;
            steps = tested.1;
            met = tested.3 (r.1 (omega arith));
            whole = r.0.end.shape;
            general = r.0.general;
            same = tested.2;
            fit = tested.4 (λ known. known_of_limits can.times (left_in node).limits
                (subst (AllByRecursion (IsLeftLimit can.times)) (ap (λ (z : Shape). z.limits) (sym residual.tested)) (of_filter (IsLeftLimit can.times) is_open whole.limits can.limits)));
            at = record { within = r.0.at.within; of_rank = r.0.at.of_rank; of_done = r.0.at.of_done };
          },
          r.2,
        )

  pub goes_led : (now : ℕ) → e.since ≤ now → (node other : Node) → GoesOnTo text level trace depth e now node other →
      IsLedTo text level trace depth (suc now) (node_stage now node) e.alternative other
  goes_led now after node other g =
      live_there (node_stage now node) (suc now) g.values g.times g.place (omega arith)
      (node_leads now after node g.values g.times g.place g.live.reached.within g.through).0 g.live other g.left

  pub cut_led : (now : ℕ) → e.since ≤ now → (node : Node) → IsCutNext text level trace depth e now node → IsLedToCut text level trace depth (suc now) (node_stage now node)
  cut_led now after node c =
      cut_there (node_stage now node) (suc now) c.values c.times c.place (omega arith) (node_leads now after node c.values c.times c.place c.cut.reached.within c.through).0 c.cut

  -- ---- from the start

  module _ (g : Shape) (entered : IsEnteredShape text e g) where
    -- what is left where the sequence is entered is the most general with all values and times that agree with what is given
    pub start_is_general : (s : Values) (t : Times) → map (s 0) q.given_values ≡ e.values → map (t 0) q.given_times ≡ e.times → IsGeneral q s t (start text e.since q.items) g
    start_is_general s t values times =
        let known : map (all_known t 0) q.given_times ≡ map (λ n. Known n) e.times = sym (map_two (λ n. Known n) (t 0) q.given_times) ∙ ap (map (λ n. Known n)) times in
        record {
          values = entered.values;
          whens = entered.whens;
          possible = record { values = entered.given_values ∙ sym values; times = entered.given_times ∙ sym known; past = tt; links = tt; when_links = tt };
          own = entered.own;
          general = λ u w h. entered.general u w (h.values ∙ values) (h.times ∙ known);
        }

    pub start_leads : (s : Values) (t : Times) (place : Place) → IsReached text level trace depth e e.since s t place →
        (r : LeadsNow (start_stage e g) e.since s t place) × (r.end.before ≡ place.before)
    start_leads s t place h =
        let r = from_start text formed level trace depth q of_text s t h.ground e.since e.since (omega arith) h.walk h.within g (start_is_general s t h.given_values h.given_times) in (
          record {
            end = r.0.end;
            steps = r.0.steps;
            met = met_all text level trace e.since depth r.0.steps (omega arith);
            whole = r.0.end.shape;
            general = r.0.general;
            same = refl;
            fit = λ known. known;
            at = r.0.at;
          },
          r.1,
        )

    pub node_led : (node : Node) → IsNode text level trace depth e e.since node → IsLedTo text level trace depth e.since (start_stage e g) e.alternative node
    node_led node n =
        live_there (start_stage e g) e.since n.values n.times n.place (omega arith) (start_leads n.values n.times n.place n.live.reached).0 n.live node n.left

    pub start_cut_led : IsCutNow text level trace depth e e.since → IsLedToCut text level trace depth e.since (start_stage e g)
    start_cut_led c = cut_there (start_stage e g) e.since c.values c.times c.place (omega arith) (start_leads c.values c.times c.place c.cut.reached).0 c.cut

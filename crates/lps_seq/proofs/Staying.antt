-- A node that no event touches before it is due goes on to itself alone, and nothing ends or is cut with it.
use Rattle.std.proofs.Common.{ℕ, ◌≡◌, ◌≤◌, ◌<◌, true, false, Bool, List, [], ◌∷◌, ◌++◌, ◌∙◌, refl, sym, ap, subst, arith, inl, inr}
use Rattle.std.specs.Prelude.{◌↔◌, ◌⊎◌, suc, Contains, Option, Some, None}
use Rattle.std.specs.List.{AllByRecursion, flat_map}
use Rattle.lps_terms.specs.declared.atom.Atom.{Atom}
use Rattle.lps_terms.specs.declared.item.Item.{Item}
use Rattle.lps_terms.specs.declared.item.Item.TheVariants as i
use Rattle.lps_terms.specs.declared.term.Term.{Term}
use Rattle.lps_terms.specs.declared.text.Text.{Text}
use Rattle.lps_terms.specs.Put.{after, put_atom, put_atom-put_atom}
use Rattle.lps_facts.proofs.Sets.{true_not_false}
use Rattle.lps_model.specs.declared.trace.Trace.{Trace}
use Rattle.lps_model.specs.Rules.{is_macro, kind_of}
use Rattle.lps_model.specs.Trace.{events_at}
use Rattle.lps_meaning.specs.declared.node.Carry.{Carry}
use Rattle.lps_meaning.specs.declared.node.Left.{Left}
use Rattle.lps_meaning.specs.declared.node.LeftItem.{LeftItem}
use Rattle.lps_meaning.specs.declared.node.LeftItem.TheVariants as l
use Rattle.lps_meaning.specs.declared.node.Node.{Node}
use Rattle.lps_meaning.specs.declared.when.When.{When}
use Rattle.lps_meaning.specs.Goals.{CanGoOn}
use Rattle.lps_meaning.specs.Items.{put_item}
use Rattle.lps_meaning.specs.Sequences.{AreInOrder, Entry, IsAhead, IsPlaced, IsSpanPlaced, IsTrueItem, Place, Times, Values, Walk, is_call, is_step, pass, replace, start, stop}
use Rattle.lps_meaning.proofs.Lists.{of_filter}
use Rattle.lps_meaning.proofs.Splits.{le_or_lt}
use Rattle.lps_meaning.proofs.Walks.{tight, wider}
use Rattle.lps_nodes.specs.Conditions.{AreLeftInOrder, CanComeTrue, IsLeftAhead, IsLeftLimit, IsLeftSmall}
use Rattle.lps_nodes.specs.Nodes.{left_in}
use Rattle.lps_nodes.specs.Plans.{EndsWith, Entrance, GoesOnTo, IsCutNext, IsLeft, IsLivePlan, IsNode}
use Rattle.lps_nodes.specs.Shapes.{IsGeneral, Sequence, Shape, Whens, all_known, left_at, left_of, put_shape, shape_of}
use Rattle.lps_nodes.proofs.Canonical.{residual_unique}
use Rattle.lps_nodes.proofs.ComingThrough.{entry_or}
use Rattle.lps_nodes.proofs.ConditionLaws.{AreMarked, TimesAre, end_of_step, ended, false_true, first_placed, first_there, item_or, marked, marked_none, none_some, order_there}
use Rattle.lps_nodes.proofs.NodeLaws.{can_come_true, each_own, instance_own, limits_met, marked_behind, plain, times_are, y}
use Rattle.lps_nodes.proofs.ShapeLaws.{after_when}
use Rattle.lps_nodes.proofs.TestedLimits.{is_open}
use Rattle.lps_nodes.proofs.WaitingNodes.{later_times as times_then, left_later, live_later}
use Rattle.lps_residual.specs.declared.waking.Awaited.{Awaited}
use Rattle.lps_residual.specs.declared.waking.Wake.{Wake}
use Rattle.lps_residual.specs.Waking.{IsAsleep, IsAwaited, IsAwaitedAmong, IsMetByAwaited, IsTouched}
use Rattle.lps_meeting.specs.Stages.{AreEventsOf}
use Rattle.lps_seq.specs.Resting.{RestsUntilTouched}

abbrev left_or : Left → List Left → Left
left_or d [] = d
left_or d (left ∷ rest) = left

-- ---- a walk whose first entry left is not passed

module _ (text : Text) (level : List ℕ → ℕ) (trace : Trace) (given : List ℕ) (s : Values) (t : Times) (later : ℕ) where
  -- the entry is true by then, and stands where it may
  record CanBePassed (before : ℕ) (e : Entry) : Type 0 where
    pub is_true : IsTrueItem text level trace later (t e.env) (put_item (s e.env) e.item)
    pub placed : IsPlaced text (t e.env) before e.joins e.item

  stays : {end place : Place} → Walk text level trace given s t later end place → (e : Entry) (rest : List Entry) → place.left ≡ e ∷ rest → is_call text e.item ≡ false →
      (CanBePassed place.before e → ⊥) → end ≡ place
  stays stop e rest left no_call not_passed = refl
  stays {place = place} (pass env nest joins item others at uncalled is_true small placed walk) e rest left no_call not_passed =
      let same : record { env = env; nest = nest; joins = joins; item = item } ≡ e = ap (entry_or e) (sym at ∙ left) in
      absurd (not_passed (subst (CanBePassed place.before) same (record { is_true = is_true; placed = placed })))
  stays (replace o others a from to number clause at item macro named values times small walk) e rest left no_call not_passed =
      let same : o ≡ e = ap (entry_or e) (sym at ∙ left) in
      absurd (true_not_false (sym macro ∙ sym (ap (is_call text) item) ∙ ap (λ (e : Entry). is_call text e.item) same ∙ no_call))

-- what begins after a time begins after the one before
ahead_before : (now : ℕ) (t : ℕ → ℕ) (item : Item) → IsAhead (suc now) t item → IsAhead now t item
ahead_before now t (i.At lit time) h = omega arith
ahead_before now t (i.Span a from to) h = omega arith
ahead_before now t (i.Bare lit) h = absurd h
ahead_before now t (i.Built built) h = absurd h
ahead_before now t (i.Con con) h = absurd h

abbrev goes_before : (text : Text) (given : List ℕ) (s : Values) (t : Times) (now : ℕ) (items : List Item) (place : Place) → CanGoOn text given s t (suc now) items place → CanGoOn text given s t now items place
goes_before text given s t now items place on = record {
  next = on.next;
  rest = on.rest;
  is_next = on.is_next;
  step = on.step;
  ahead = ahead_before now (t on.next.env) on.next.item on.ahead;
  in_order = on.in_order;
  limits = on.limits;
  small = on.small;
}

-- a step with no body in its place ends one after it begins
one_later : (macro joins : Bool) (before from to : ℕ) → macro ≡ false → IsSpanPlaced macro joins before from to → to ≡ suc from
one_later true joins before from to e h = absurd (true_not_false e)
one_later false true before from to e h = h.0
one_later false false before from to e h = h.0

-- the atom of the first of these, if it is that of an event or an action
abbrev atom_of : Atom → LeftItem → Atom
atom_of d (l.Span a from to) = a
atom_of d _ = d

abbrev first_atom : Atom → List Left → Atom
first_atom d [] = d
first_atom d (left ∷ rest) = atom_of d left.item

module _ (text : Text) (level : List ℕ → ℕ) (trace : Trace) (depth : ℕ) (e : Entrance) (now : ℕ) (after_start : e.since ≤ now) (node : Node) where
  abbrev q : Sequence
  q = e.sequence

  -- ---- a plan that leaves the node

  module _ (s : Values) (t : Times) (middle : Place) (live : IsLivePlan text level trace depth e now s t middle) (left : IsLeft text level trace depth e s t middle node) where
    abbrev walk : Walk text level trace q.given_values s t now middle (start text e.since q.items)
    walk = live.reached.walk

    abbrev whole : Shape
    whole = left.residual.whole

    abbrev general : IsGeneral q s t middle whole
    general = left.residual.general

    abbrev u : Values
    u = general.values

    abbrev w : Whens
    w = general.whens

    abbrev on : CanGoOn text q.given_values s t now q.items middle
    on = live.on

    abbrev next : Entry
    next = on.next

    abbrev numbers : ℕ → ℕ
    numbers = y text level trace q s t live.reached.ground e.since now after_start middle walk whole general

    times_next : AllByRecursion (λ (o : Entry). TimesAre numbers (w o.env) (t o.env) o.item) (next ∷ on.rest)
    times_next =
        subst (AllByRecursion (λ (o : Entry). TimesAre numbers (w o.env) (t o.env) o.item)) on.is_next
        (times_are text level trace q s t live.reached.ground e.since now after_start middle walk whole general)

    order_next : AreInOrder text t middle.before (next ∷ on.rest)
    order_next = subst (AreInOrder text t middle.before) on.is_next on.in_order

    marks_next : AreMarked text (Some next) on.rest
    marks_next =
        let m = marked text level trace q.given_values s t walk None (marked_none text 0 0 q.items None) in
        (subst (AreMarked text m.0) on.is_next m.1).1

    order_left : AreLeftInOrder text numbers now None (flat_map (left_at u w) (next ∷ on.rest))
    order_left =
        order_there text u w t numbers now None None (plain next ∷ on.rest) (λ p a from to is span. absurd (none_some is)) tt
        ((λ is. absurd (false_true is)), marked_behind text next on.rest marks_next) (times_next.0, times_next.1) (
          first_placed text u w t numbers middle.before now next next.item on.step on.ahead order_next.0,
          subst (λ b. AreInOrder text t b on.rest) (end_of_step text u w t numbers middle.before now next.env next.item on.step) order_next.1,
        )

    abbrev first_left : (first : Left) × (left_of (u next.env) (w next.env) next.nest next.item ≡ first ∷ []) × IsLeftAhead now numbers first.item
    first_left = first_there text u w t numbers now next.env next.nest next.item on.step on.ahead times_next.0

    rest_is : node.rest ≡ flat_map (left_at u w) middle.left
    rest_is = ap (λ (g : Shape). g.rest) left.residual.tested ∙ ap (λ (g : Shape). g.rest) general.own

    abbrev opaque : CanComeTrue text now whole
    opaque = can_come_true text level trace q s t live.reached.ground e.since now after_start middle walk whole general on

    -- the plan's own times solve the time conditions of the node
    abbrev can_here : CanComeTrue text now (left_in node)
    can_here = record {
      times = numbers;
      first = first_left.0;
      behind = flat_map (left_at u w) on.rest;
      is_first = rest_is ∙ ap (flat_map (left_at u w)) on.is_next ∙ ap (λ ls. ls ++ flat_map (left_at u w) on.rest) first_left.1;
      ahead = first_left.2;
      in_order = subst (AreLeftInOrder text numbers now None) (sym (rest_is ∙ ap (flat_map (left_at u w)) on.is_next)) order_left;
      limits = subst (λ (g : Shape). AllByRecursion (IsLeftLimit numbers) g.limits) (sym left.residual.tested)
          (of_filter (IsLeftLimit numbers) is_open whole.limits
          (subst (λ (g : Shape). AllByRecursion (IsLeftLimit numbers) g.limits) (sym general.own)
          (limits_met text level trace q s t live.reached.ground e.since now after_start middle walk whole general on.limits)));
      small = subst (λ (g : Shape). AllByRecursion (λ (left : Left). IsLeftSmall left.item) g.rest) (sym left.residual.tested) opaque.small;
    }

    -- ---- it stays where it is

    abbrev instance : (v : ℕ → Term) × (x : ℕ → When) × (shape_of q middle s (all_known t) ≡ put_shape v x whole)
    instance = instance_own text level trace q s t live.reached.ground e.since now after_start middle walk whole general

    own_next : left_at (λ env. after instance.0 (u env)) (λ env. after_when instance.1 (w env)) next ≡ left_at s (all_known t) next
    own_next =
        (subst (AllByRecursion (λ (o : Entry). left_at (λ env. after instance.0 (u env)) (λ env. after_when instance.1 (w env)) o ≡ left_at s (all_known t) o)) on.is_next
        (each_own text level trace q s t live.reached.ground e.since now after_start middle walk whole general)).0

    module _ (awaited : Option Awaited) (asleep : IsAsleep text node awaited (suc now)) (events : List Atom) (are : AreEventsOf trace (suc now) events) (unmet : IsAwaitedAmong awaited events → ⊥) where
      met_left : IsMetByAwaited text node awaited (suc now) first_left.0.item
      met_left =
          subst (λ (left : Left). IsMetByAwaited text node awaited (suc now) left.item) (ap (left_or asleep.can.first) (sym asleep.can.is_first ∙ can_here.is_first)) asleep.met

      -- its next item is not met
      not_met : (item : Item) → is_step item ≡ true → (first : Left) → left_of (u next.env) (w next.env) next.nest item ≡ first ∷ [] → IsMetByAwaited text node awaited (suc now) first.item →
          TimesAre numbers (w next.env) (t next.env) item → IsAhead now (t next.env) item → is_call text item ≡ false →
          left_of (λ v. after instance.0 (u next.env) v) (λ k. after_when instance.1 (w next.env) k) next.nest item ≡ left_of (s next.env) (all_known t next.env) next.nest item →
          IsTrueItem text level trace (suc now) (t next.env) (put_item (s next.env) item) → IsPlaced text (t next.env) middle.before next.joins item → ⊥
      not_met (i.At lit time) step first is met times ahead call own is_true placed =
          let late = subst (IsMetByAwaited text node awaited (suc now)) (sym (ap (item_or first.item) is)) met now can_here in
          let by_now = is_true.0 in
          omega (arith, late, times, by_now)
      not_met (i.Span a from to) step first is met times ahead call own is_true placed =
          let found = subst (IsMetByAwaited text node awaited (suc now)) (sym (ap (item_or first.item) is)) met in
          let same : put_atom instance.0 (put_atom (u next.env) a) ≡ put_atom (s next.env) a = put_atom-put_atom instance.0 (u next.env) a ∙ ap (first_atom a) own in
          let one = one_later (is_macro (kind_of text a.name)) next.joins middle.before (t next.env from.0) (t next.env to.0) call placed in
          let by_now = is_true.0 in
          let ends : t next.env to.0 ≡ suc now = omega (arith, one, ahead, by_now) in
          unmet (
            found.0,
            found.1,
            put_atom (s next.env) a,
            (are (put_atom (s next.env) a)).1 (subst (λ n. Contains (events_at trace n) (put_atom (s next.env) a)) ends is_true.1),
            subst (IsAwaited found.0) same (found.2 instance.0),
          )
      not_met (i.Bare lit) step first is met times ahead call own is_true placed = absurd (false_true step)
      not_met (i.Built built) step first is met times ahead call own is_true placed = absurd (false_true step)
      not_met (i.Con con) step first is met times ahead call own is_true placed = absurd (false_true step)

      stays_here : {place : Place} → Walk text level trace q.given_values s t (suc now) place middle → place ≡ middle
      stays_here walk =
          stays text level trace q.given_values s t (suc now) walk next on.rest on.is_next live.no_call
          (λ can. not_met next.item on.step first_left.0 first_left.1 met_left times_next.0 on.ahead live.no_call own_next can.is_true can.placed)

  -- ---- what becomes of the node

  module _ (is_node : IsNode text level trace depth e now node) (awaited : Option Awaited) (asleep : IsAsleep text node awaited (suc now)) (events : List Atom) (are : AreEventsOf trace (suc now) events)
      (unmet : IsAwaitedAmong awaited events → ⊥) where
    next_cycle : now ≤ suc now
    next_cycle = omega arith

    abbrev later_times : Times
    later_times = times_then text level trace depth e now (suc now) after_start next_cycle node is_node asleep.can

    abbrev later : IsLivePlan text level trace depth e (suc now) is_node.values later_times is_node.place
    later = live_later text level trace depth e now (suc now) after_start next_cycle node is_node asleep.can

    abbrev left_then : IsLeft text level trace depth e is_node.values later_times is_node.place node
    left_then = left_later text level trace depth e now (suc now) after_start next_cycle node is_node asleep.can

    -- the plan that is live then is live now
    live_now : IsLivePlan text level trace depth e now is_node.values later_times is_node.place
    live_now = record {
      reached = record {
        ground = later.reached.ground;
        given_values = later.reached.given_values;
        given_times = later.reached.given_times;
        walk = wider text level trace q.given_values is_node.values later_times (ended text level trace q.given_values is_node.values is_node.times is_node.live.reached.walk after_start)
            (tight text level trace q.given_values is_node.values later_times later.reached.walk);
        within = later.reached.within;
      };
      on = goes_before text q.given_values is_node.values later_times now q.items is_node.place later.on;
      no_call = later.no_call;
    }

    goes_on : GoesOnTo text level trace depth e now node node
    goes_on = record {
      values = is_node.values;
      times = later_times;
      place = is_node.place;
      live = later;
      left = left_then;
      through = record { middle = is_node.place; live = live_now; left = left_then; walk = stop };
    }

    no_other : (o : Node) → GoesOnTo text level trace depth e now node o → o ≡ node
    no_other o g =
        let through = g.through in
        let here = stays_here g.values g.times through.middle through.live through.left awaited asleep events are unmet through.walk in
        let left = subst (λ (place : Place). IsLeft text level trace depth e g.values g.times place o) here g.left in
        residual_unique q g.values g.times through.live.reached.ground through.middle o node left.residual through.left.residual (left.alternative ∙ sym through.left.alternative)

    none_ends : (carry : Carry) → EndsWith text level trace depth e now node carry → ⊥
    none_ends carry g =
        let through = g.through in
        let here = stays_here g.values g.times through.middle through.live through.left awaited asleep events are unmet through.walk in
        something through.live.on.next through.live.on.rest (sym through.live.on.is_next ∙ sym (ap (λ (place : Place). place.left) here) ∙ g.over.whole)
      where
        something : (o : Entry) (rest : List Entry) → o ∷ rest ≡ [] → ⊥
        something o rest e = cc

    none_cut : IsCutNext text level trace depth e now node → ⊥
    none_cut g =
        let through = g.through in
        let here = stays_here g.values g.times through.middle through.live through.left awaited asleep events are unmet through.walk in
        let same : g.cut.on.next ≡ through.live.on.next = ap (entry_or g.cut.on.next) (sym g.cut.on.is_next ∙ ap (λ (place : Place). place.left) here ∙ through.live.on.is_next) in
        true_not_false (sym g.cut.call ∙ ap (λ (o : Entry). is_call text o.item) same ∙ through.live.no_call)

    pub rests : ((o : Node) → GoesOnTo text level trace depth e now node o ↔ (o ≡ node)) × ((carry : Carry) → EndsWith text level trace depth e now node carry → ⊥)
        × (IsCutNext text level trace depth e now node → ⊥)
    rests = (λ o. (no_other o, λ same. subst (GoesOnTo text level trace depth e now node) (sym same) goes_on), none_ends, none_cut)

-- ---- the law

not_due : (wake : Wake) (time : ℕ) (events : List Atom) → (IsTouched wake time events → ⊥) → time < wake.due
not_due wake time events untouched = by (le_or_lt wake.due time)
  where
    by : (wake.due ≤ time) ⊎ (time < wake.due) → time < wake.due
    by (inl le) = absurd (untouched (inl le))
    by (inr lt) = lt

pub rests_until_touched : RestsUntilTouched
rests_until_touched text accepted node wake ready is_wake depth time events early untouched level levels trace e of_text now is_time since is_node are =
    let asleep = is_wake.asleep time (not_due wake time events untouched) in
    rests text level trace depth e now since node is_node wake.awaited (subst (IsAsleep text node wake.awaited) is_time asleep) events (subst (λ n. AreEventsOf trace n events) is_time are)
    (λ met. untouched (inr met))

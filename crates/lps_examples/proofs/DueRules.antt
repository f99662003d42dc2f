-- A rule with one event and one action that is due, in any text and trace: its goals, their plans, and what they propose.
use Rattle.std.proofs.Common.{ℕ, zero, suc, Bool, false, ◌≡◌, ◌≤◌, ◌<◌, ◌⊎◌, List, [], ◌∷◌, ◌++◌, map, length, refl, sym, ap, subst, ◌∙◌, arith, inl, inr}
use Rattle.std.specs.Prelude.{◌+◌, pos, ◌+ℤ◌, ◌≤ℤ◌, Contains, Some}
use Rattle.std.specs.declared.cmp.Ordering.TheVariants.{Less, Equal}
use Rattle.std.proofs.lemmas.Cmp.{lists_total, tied_itself}
use Rattle.std.proofs.lemmas.Int.{ints}
use Rattle.lps_terms.specs.declared.atom.Atom.{Atom}
use Rattle.lps_terms.specs.declared.item.Item.{Item}
use Rattle.lps_terms.specs.declared.item.Item.TheVariants as i
use Rattle.lps_terms.specs.declared.kind.Kind.TheVariants as k
use Rattle.lps_terms.specs.declared.text.Text.{Text}
use Rattle.lps_terms.specs.Order.{atom_cmp}
use Rattle.lps_terms.specs.OrderLaws.{atom_cmp_total, atom_cmp-IsAntisymmetric}
use Rattle.lps_terms.specs.Put.{put_atom}
use Rattle.lps_model.specs.declared.trace.Trace.{Trace}
use Rattle.lps_model.specs.Order.{is_action}
use Rattle.lps_model.specs.Rules.{rules, numbered, kind_of, is_macro}
use Rattle.lps_model.specs.Trace.{events_at}
use Rattle.lps_model.proofs.Elements.{sorted_same}
use Rattle.lps_meaning.specs.declared.goal.GoalKey.{GoalKey}
use Rattle.lps_meaning.specs.Cycles.{IsProposal, IsNextGroup, joined}
use Rattle.lps_meaning.specs.Denials.{ViolatesNone, ViolatesNumber}
use Rattle.lps_meaning.specs.Goals.{IsGoal, HasInstance, Reaches, CanGoOn, IsFulfilledWithin, IsLive, HasMetCut, HasLive, IsPending, shared_values, shared_times}
use Rattle.lps_meaning.specs.Items.{IsSmallItem, put_item}
use Rattle.lps_meaning.specs.Plain.{Ranked, ranked_cmp, IsOffer, IsFirstOffer, IsGiven, IsPassedOver}
use Rattle.lps_meaning.specs.Sequences.{Entry, Place, Values, Times, Walk, stop, pass, passed, start, is_call, is_step, done, rank, IsSmallSoFar, IsSpanPlaced, AreInOrder, IsAhead, AreLimits}
use Rattle.lps_meaning.proofs.Numbers.{some_same}
use Rattle.lps_examples.specs.Examples.{nullary, from_to, at_most}
use Rattle.lps_examples.specs.Conflicts.{due_rule, due_key}
use Rattle.lps_examples.proofs.ExampleWalks.{first_same, rest_same, not_empty, constants, constants_ground, stops_or_passes, stops, only_numbered, small_atom, one_sorted}

-- a group of which the first item is this one, and which no later item joins, is its action alone
pub group_of_one : {text : Text} {s : Values} {t : Times} {now : ℕ} {next : Entry} {rest : List Entry} {group : List Atom} → (g : IsNextGroup text s t now next rest group) →
    (name : List ℕ) (from to : ℕ) → from_to (nullary name) from to ≡ next.item → joined s rest ≡ [] → group ≡ nullary name ∷ []
group_of_one {s = s} {next = next} {rest = rest} {group = group} g name from to item alone =
    let atom : nullary name ≡ g.atom = ap (atom_in (nullary name)) (item ∙ g.item) in
    let atoms : put_atom (s next.env) g.atom ∷ joined s rest ≡ nullary name ∷ [] = λ j. put_atom (s next.env) (sym atom j) ∷ alone j in
    sorted_same atom_cmp_total atom_cmp-IsAntisymmetric group (nullary name ∷ []) g.sorted (one_sorted atom_cmp (nullary name))
    (λ a among. subst (λ xs. Contains xs a) atoms ((g.exact a).0 among)) (λ a among. (g.exact a).1 (subst (λ xs. Contains xs a) (sym atoms) among))
  where
    atom_in : Atom → Item → Atom
    atom_in b (i.Span a from to) = a
    atom_in b _ = b

-- a rule of the text: its number, its event, its action, and how much later that is due
pub record Due (text : Text) : Type 0 where
  pub number : ℕ
  pub event : List ℕ
  pub action : List ℕ
  pub plus : ℕ
  pub of_text : numbered (rules text) number ≡ Some (due_rule event action plus)
  pub event_kind : kind_of text event ≡ Some k.Event
  pub action_kind : kind_of text action ≡ Some k.Action

module _ (text : Text) (level : List ℕ → ℕ) (trace : Trace) (q : Due text) where
  abbrev n : ℕ
  n = q.number

  abbrev x : List ℕ
  x = q.event

  abbrev y : List ℕ
  y = q.action

  abbrev d : ℕ
  d = q.plus

  abbrev key_at : ℕ → GoalKey
  key_at time = due_key n time

  abbrev pub x_no_macro : is_macro (kind_of text x) ≡ false
  x_no_macro = ap is_macro q.event_kind

  abbrev pub y_no_macro : is_macro (kind_of text y) ≡ false
  y_no_macro = ap is_macro q.action_kind

  abbrev pub consequent : List Item
  consequent = from_to (nullary y) 2 3 ∷ at_most 3 1 d ∷ []

  abbrev pub entry_of : Item → Entry
  entry_of item = record { env = 0; nest = 0; joins = false; item = item }

  abbrev pub entry_x : Entry
  entry_x = entry_of (from_to (nullary x) 0 1)

  abbrev pub entry_y : Entry
  entry_y = entry_of (from_to (nullary y) 2 3)

  abbrev pub entry_due : Entry
  entry_due = entry_of (at_most 3 1 d)

  abbrev pub before_event : Place
  before_event = start text 0 (due_rule x y d).antecedent

  abbrev pub begin : ℕ → Place
  begin time = start text time consequent

  abbrev behind : Times → ℕ → Place
  behind t time = passed t (begin time) entry_y (entry_due ∷ [])

  abbrev Happens : List ℕ → ℕ → Type 0
  Happens name k = Contains (events_at trace k) (nullary name)

  pub placed : (name : List ℕ) → is_macro (kind_of text name) ≡ false → (before from : ℕ) → before ≤ from → IsSpanPlaced (is_macro (kind_of text name)) false before from (suc from)
  placed name e before from le = subst (λ b. IsSpanPlaced b false before from (suc from)) (sym e) (refl, le)

  -- ---- goals

  abbrev event_times : ℕ → Times
  event_times j env zero = j
  event_times j env (suc v) = suc j

  pub is_goal : (j : ℕ) → Happens x (suc j) → IsGoal text level trace (key_at (suc j))
  is_goal j happens = record {
    rule = due_rule x y d;
    of_text = q.of_text;
    instance = record {
      values = constants;
      times = event_times j;
      ground = constants_ground;
      of_key = record { values = refl; times = refl };
      end = _;
      walk = pass 0 0 false (from_to (nullary x) 0 1) [] refl x_no_macro (omega arith, happens) (small_atom x) (placed x x_no_macro 0 j (omega arith)) stop;
      whole = refl;
      limits = (tt, tt);
      last = refl;
    };
  }

  -- a goal of the rule is one of those
  pub goal_is : (key : GoalKey) → key.rule ≡ n → IsGoal text level trace key → Happens x key.time × (key_at key.time ≡ key)
  goal_is key number g =
      let rule : due_rule x y d ≡ g.rule = some_same (sym q.of_text ∙ sym (ap (numbered (rules text)) number) ∙ g.of_text) in
      let h : HasInstance text level trace (due_rule x y d) key = subst (λ r. HasInstance text level trace r key) (sym rule) g.instance in
      elim (stops_or_passes text level trace [] h.values h.times entry_x [] refl x_no_macro h.walk) [
        | inl e ↦ absurd (not_empty entry_x [] (sym (ap (λ p. p.left) e) ∙ h.whole))
        | inr p ↦
            let here : h.end ≡ passed h.times before_event entry_x [] = stops text level trace [] h.values h.times refl p.walk in
            let time : h.times 0 1 ≡ key.time = sym (ap (λ q. q.before) here) ∙ h.last in
            let values : [] ≡ key.values = h.of_key.values in
            let times : key.time ∷ [] ≡ key.times = ap (λ t. t ∷ []) (sym time) ∙ h.of_key.times in (
              subst (Happens x) time p.is_true.1,
              λ j. record { rule = sym number j; values = values j; times = times j; time = key.time },
            )
      ]

  -- ---- plans

  abbrev plan_times : ℕ → ℕ → Times
  plan_times time from env zero = time
  plan_times time from env (suc zero) = time
  plan_times time from env (suc (suc zero)) = from
  plan_times time from env (suc (suc (suc v))) = suc from

  pub due : (time from : ℕ) → suc from ≤ time + d → pos (suc from) ≤ℤ (pos time +ℤ pos d)
  due time from le = omega (arith, ints)

  not_due : (time k : ℕ) → pos k ≤ℤ (pos time +ℤ pos d) → k ≤ time + d
  not_due time k le = omega (arith, ints)

  pub small_at : (time from : ℕ) (e : Entry) → IsSmallItem (put_item (constants e.env) e.item) → IsSmallSoFar [] constants (begin time) e
  small_at time from e h = record { other = constants; alike = record { start = refl; past = tt; links = tt }; small = h }

  abbrev reaches_begin : (time from now : ℕ) → Reaches text level trace (key_at time) now (begin time)
  reaches_begin time from now = record {
    rule = due_rule x y d;
    of_text = q.of_text;
    alternative = 1;
    items = consequent;
    of_rule = refl;
    values = constants;
    times = plan_times time from;
    ground = constants_ground;
    of_key = record { values = refl; times = refl };
    walk = stop;
  }

  -- while it may still be done, a plan is to begin it now
  unfoldable pub is_live : (depth time now : ℕ) → time ≤ now → now < time + d → IsLive text level trace depth (key_at time) now (begin time)
  is_live depth time now since ahead = record {
    plan = record {
      reaches = reaches_begin time now now;
      within = tt;
      on = record {
        next = entry_y;
        rest = entry_due ∷ [];
        is_next = refl;
        step = refl;
        ahead = omega arith;
        in_order = (placed y y_no_macro time now since, (tt, tt));
        limits = (tt, (due time now ahead, tt));
        small = (small_at time now entry_y (small_atom y), (small_at time now entry_due tt, tt));
      };
    };
    no_call = y_no_macro;
  }

  -- what is reached is the start, or a place behind the action
  module _ (time now : ℕ) (end : Place) (r : Reaches text level trace (key_at time) now end) where
    pub rule_is : due_rule x y d ≡ r.rule
    rule_is = some_same (sym q.of_text ∙ r.of_text)

    pub items_are : (r.alternative ≡ 1) × (consequent ≡ r.items)
    items_are = only_numbered consequent r.items r.alternative (subst (λ q. numbered q.alternatives r.alternative ≡ Some r.items) (sym rule_is) r.of_rule)

    pub time_is : r.times 0 1 ≡ time
    time_is = first_same (subst (λ q. map (r.times 0) (shared_times q) ≡ time ∷ []) (sym rule_is) r.of_key.times)

    record IsBehind : Type 0 where
      upto : r.times 0 3 ≤ now
      happens : Happens y (r.times 0 3)
      order : (r.times 0 3 ≡ suc (r.times 0 2)) × (time ≤ r.times 0 2)
      where_is : (end ≡ behind r.times time) ⊎ (end ≡ passed r.times (behind r.times time) entry_due [])

    where_is : (end ≡ begin time) ⊎ IsBehind
    where_is =
        let given = shared_values r.rule in
        let walk : Walk text level trace given r.values r.times now end (begin time) =
        subst (λ items. Walk text level trace given r.values r.times now end (start text time items)) (sym items_are.1) r.walk in
        elim (stops_or_passes text level trace given r.values r.times entry_y (entry_due ∷ []) refl y_no_macro walk) [
          | inl e ↦ inl e
          | inr g ↦ inr record {
            upto = g.is_true.0;
            happens = g.is_true.1;
            order = subst (λ b. IsSpanPlaced b false time (r.times 0 2) (r.times 0 3)) y_no_macro g.placed;
            where_is = elim (stops_or_passes text level trace given r.values r.times entry_due [] refl refl g.walk) [
              | inl e ↦ inl e
              | inr h ↦ inr (stops text level trace given r.values r.times refl h.walk)
            ];
          }
        ]

    -- what can go on is at the start, where the action may still be done
    pub record IsAtBegin (on : CanGoOn text (shared_values r.rule) r.values r.times now r.items end) : Type 0 where
      pub here : end ≡ begin time
      pub next : entry_y ≡ on.next
      pub rest : entry_due ∷ [] ≡ on.rest
      pub room : now < time + d

    pub goes_on : (on : CanGoOn text (shared_values r.rule) r.values r.times now r.items end) → IsAtBegin on
    goes_on on = elim where_is [
      | inl here ↦
          let left = sym (ap (λ p. p.left) here) ∙ on.is_next in
          let next : entry_y ≡ on.next = first_same left in
          let ahead : now ≤ r.times 0 2 = subst (λ e. IsAhead now (r.times e.env) e.item) (sym next) on.ahead in
          let order = (subst (λ p. AreInOrder text r.times p.before p.left) here on.in_order).0 in
          let after = (subst (λ b. IsSpanPlaced b false time (r.times 0 2) (r.times 0 3)) y_no_macro order).0 in
          let limits = subst (λ items. AreLimits r.times items []) (sym items_are.1) (subst (λ p. AreLimits r.times r.items p.links) here on.limits) in
          let bound = not_due time (r.times 0 3) (subst (λ k. pos (r.times 0 3) ≤ℤ (pos k +ℤ pos d)) time_is limits.1.0) in
          record { here = here; next = next; rest = rest_same left; room = omega (arith, ahead, after, bound) }
      | inr done ↦ absurd (no_step done.where_is)
    ]
      where
        step_of : Entry → Bool
        step_of e = is_step e.item

        no_step : (end ≡ behind r.times time) ⊎ (end ≡ passed r.times (behind r.times time) entry_due []) → ⊥
        no_step (inl e) =
            let next : entry_due ≡ on.next = first_same (sym (ap (λ p. p.left) e) ∙ on.is_next) in
            let none : false ≡ is_step on.next.item = ap step_of next in let step = on.step in absurd (cc)
        no_step (inr e) = not_empty on.next on.rest (sym on.is_next ∙ ap (λ p. p.left) e)

  -- ---- statuses

  -- the action was done after the goal came, and in time
  pub record IsDoneIn (time now k : ℕ) : Type 0 where
    pub later : time < k
    pub upto : k ≤ now
    pub in_time : k ≤ time + d
    pub happens : Happens y k

  -- in the cycle in which the goal comes it is not done yet
  pub not_yet : (time k : ℕ) → IsDoneIn time time k → ⊥
  not_yet time k h = let later = h.later in let upto = h.upto in omega (arith, later, upto)

  pub met : (depth time now k : ℕ) → IsDoneIn time now (suc k) → IsFulfilledWithin text level trace depth (key_at time) now
  met depth time now k h = record {
    met = record {
      end = _;
      reaches = record {
        rule = due_rule x y d;
        of_text = q.of_text;
        alternative = 1;
        items = consequent;
        of_rule = refl;
        values = constants;
        times = plan_times time k;
        ground = constants_ground;
        of_key = record { values = refl; times = refl };
        walk = pass 0 0 false (from_to (nullary y) 2 3) (entry_due ∷ []) refl y_no_macro (h.upto, h.happens) (small_atom y)
            (placed y y_no_macro time k (let lt = h.later in omega (arith, lt))) (pass 0 0 false (at_most 3 1 d) [] refl refl tt tt tt stop);
      };
      whole = refl;
      limits = (tt, (due time k h.in_time, tt));
    };
    within = tt;
  }

  pub not_met : (depth time now : ℕ) → ((k : ℕ) → IsDoneIn time now k → ⊥) → IsFulfilledWithin text level trace depth (key_at time) now → ⊥
  not_met depth time now never h =
      let r = h.met.reaches in
      elim (where_is time now h.met.end r) [
        | inl e ↦ not_empty entry_y (entry_due ∷ []) (sym (ap (λ p. p.left) e) ∙ h.met.whole)
        | inr b ↦
            elim b.where_is [
              | inl e ↦ not_empty entry_due [] (sym (ap (λ p. p.left) e) ∙ h.met.whole)
              | inr e ↦
                  let order = b.order.0 in let since = b.order.1 in
                  let limits = subst (λ items. AreLimits r.times items []) (sym (items_are time now h.met.end r).1) (subst (λ p. AreLimits r.times r.items p.links) e h.met.limits) in
                  let bound = not_due time (r.times 0 3) (subst (λ k. pos (r.times 0 3) ≤ℤ (pos k +ℤ pos d)) (time_is time now h.met.end r) limits.1.0) in
                  never (r.times 0 3) (record { later = omega (arith, order, since); upto = b.upto; in_time = bound; happens = b.happens })
            ]
      ]

  pub not_live : (depth time now : ℕ) → time + d ≤ now → HasLive text level trace depth (key_at time) now → ⊥
  not_live depth time now late has = let room = (goes_on time now has.0 has.1.plan.reaches has.1.plan.on).room in omega (arith, room, late)

  pub not_cut : (depth time now : ℕ) → HasMetCut text level trace depth (key_at time) now → ⊥
  not_cut depth time now met =
      let cut = met.4 in
      let next = (goes_on time met.1 met.0 cut.plan.reaches cut.plan.on).next in
      let plain : is_call text cut.plan.on.next.item ≡ false = subst (λ e. is_call text e.item ≡ false) next y_no_macro in
      let call = cut.call in absurd (cc)

  pub pending : (depth time now : ℕ) → time ≤ now → now < time + d → ((k : ℕ) → IsDoneIn time now k → ⊥) → IsPending text level trace depth (key_at time) now
  pending depth time now since ahead never = (not_met depth time now never, (begin time, is_live depth time now since ahead))

  pub new_pending : (depth now : ℕ) → 0 < d → IsPending text level trace depth (key_at now) now
  new_pending depth now some = pending depth now now (omega arith) (omega (arith, some)) (not_yet now)

  -- ---- proposals

  abbrev now : ℕ
  now = length trace.cycles

  abbrev pub the_offer : Ranked
  the_offer = record { alternative = 1; rank = []; group = nullary y ∷ [] }

  module _ (depth time : ℕ) where
    pub proposed : time ≤ now → now < time + d → IsProposal text level depth trace (key_at time) (nullary y ∷ [])
    unfolding is_live
    proposed since ahead = record {
      end = begin time;
      live = is_live depth time now since ahead;
      most = λ other live. let none : done other ≡ 0 = ap done (goes_on time now other live.plan.reaches live.plan.on).here in omega (arith, none);
      group_of = record {
        atom = nullary y;
        from = record { 0 = 2 };
        to = record { 0 = 3 };
        item = refl;
        action = ap is_action q.action_kind;
        begins = refl;
        sorted = one_sorted atom_cmp (nullary y);
        exact = λ a. ((λ h. h), (λ h. h));
      };
    }

    -- the only offer
    module _ (group : List Atom) (p : IsProposal text level depth trace (key_at time) group) where
      at : IsAtBegin time now p.end p.live.plan.reaches p.live.plan.on
      at = goes_on time now p.end p.live.plan.reaches p.live.plan.on

      pub group_is : group ≡ nullary y ∷ []
      group_is = group_of_one p.group_of y 2 3 (ap (λ e. e.item) at.next) (ap (joined p.live.plan.reaches.values) (sym at.rest))

    module _ (keys : List GoalKey) where
      offer : time ≤ now → now < time + d → (events : List Atom) → ViolatesNone text level trace (events ++ nullary y ∷ []) →
          IsOffer text level depth trace keys (key_at time) events the_offer
      unfolding is_live proposed
      offer since ahead events none = record { proposal = proposed since ahead; alternative = refl; of_rank = refl; admissible = none }

      offer_is : (events : List Atom) (r : Ranked) → IsOffer text level depth trace keys (key_at time) events r → r ≡ the_offer
      offer_is events r o =
          let p = o.proposal in
          let number : 1 ≡ r.alternative = sym (items_are time now p.end p.live.plan.reaches).0 ∙ o.alternative in
          let ranks : [] ≡ r.rank = sym (ap rank (at r.group p).here) ∙ o.of_rank in
          let group = group_is r.group p in
          λ j. record { alternative = sym number j; rank = sym ranks j; group = group j }

      first : time ≤ now → now < time + d → (events : List Atom) → ViolatesNone text level trace (events ++ nullary y ∷ []) →
          IsFirstOffer text level depth trace keys (key_at time) events the_offer
      first since ahead events none = (
        offer since ahead events none,
        λ other o less.
            let tie : ranked_cmp the_offer the_offer ≡ Equal = tied_itself (lists_total atom_cmp_total) (nullary y ∷ []) in
            let under : ranked_cmp the_offer the_offer ≡ Less = subst (λ r. ranked_cmp r the_offer ≡ Less) (offer_is events other o) less in absurd (cc),
      )

      -- a pass gives the goal the action, or passes it over where that violates a denial
      pub given : (m : ℕ) (taken : List ℕ) (events : List Atom) → numbered keys m ≡ Some (key_at time) → time ≤ now → now < time + d → ((k : ℕ) → IsDoneIn time now k → ⊥) →
          (Contains taken m → ⊥) → ViolatesNone text level trace (events ++ nullary y ∷ []) → IsGiven text level depth trace keys m taken events the_offer
      given m taken events number since ahead never free none =
          record { free = free; key = key_at time; pending = (number, pending depth time now since ahead never); first = first since ahead events none }

      pub passed_over : (m : ℕ) (taken : List ℕ) (events : List Atom) → numbered keys m ≡ Some (key_at time) → (k : ℕ) → ViolatesNumber text level trace (events ++ nullary y ∷ []) k →
          IsPassedOver text level depth trace keys m taken events
      passed_over m taken events number k violated =
          inr (λ key r pend o.
          let same : key ≡ key_at time = some_same (sym pend.0 ∙ number) in
          let here : IsOffer text level depth trace keys (key_at time) events r = subst (λ q. IsOffer text level depth trace keys q events r) same o in
          let only = ap (λ q. q.group) (offer_is events r here) in
          here.admissible k (subst (λ g. ViolatesNumber text level trace (events ++ g) k) (sym only) violated))

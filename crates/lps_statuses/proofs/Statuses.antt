-- A goal that is closed stays closed so, at every later time of a trace.
use Rattle.std.proofs.Common.{ℕ, ◌≤◌, ◌⊎◌, List, sym, subst, arith, inl, inr}
use Rattle.std.specs.Prelude.{None}
use Rattle.std.specs.List.{AllByRecursion}
use Rattle.lps_terms.specs.declared.item.Item.{Item}
use Rattle.lps_terms.specs.declared.item.Item.TheVariants as i
use Rattle.lps_terms.specs.declared.text.Text.{Text}
use Rattle.lps_model.specs.declared.trace.Trace.{Trace}
use Rattle.lps_meaning.specs.declared.goal.Closed.{Closed}
use Rattle.lps_meaning.specs.declared.goal.Closed.TheVariants as c
use Rattle.lps_meaning.specs.declared.goal.GoalKey.{GoalKey}
use Rattle.lps_meaning.specs.Frames.{AreFramed}
use Rattle.lps_meaning.specs.Sequences.{Place, Walk, AreInOrder, AreLimits, IsAhead, IsSmallSoFar, IsWithin, start}
use Rattle.lps_meaning.specs.Goals.{Reaches, IsFulfilled, IsFulfilledWithin, IsPlan, HasLive, HasMetCut, IsClosed, shared_values}
use Rattle.lps_meaning.proofs.Walks.{in_order, tight, forward, wider}
use Rattle.lps_meaning.proofs.Splits.{Split, split, at_end, ahead, deep, small_back, limits_back, entries_nest, le_or_lt}

sooner : (now later : ℕ) (t : ℕ → ℕ) (item : Item) → now ≤ later → IsAhead later t item → IsAhead now t item
sooner now later t (i.At l time) le h = omega arith
sooner now later t (i.Span a from to) le h = omega arith
sooner now later t (i.Bare l) le h = h
sooner now later t (i.Built b) le h = h
sooner now later t (i.Con con) le h = h

either : {A B C : Type 0} → (A → C) → (B → C) → A ⊎ B → C
either f g (inl a) = f a
either f g (inr b) = g b

module _ (text : Text) (level : List ℕ → ℕ) (trace : Trace) (key : GoalKey) where
  -- a walk over what another one goes over, with its values and times
  abbrev WalkOf : {later : ℕ} {end : Place} → Reaches text level trace key later end → ℕ → Place → Type 0
  WalkOf r now middle = Walk text level trace (shared_values r.rule) r.values r.times now middle (start text key.time r.items)

  abbrev with_walk : {later : ℕ} {end : Place} (r : Reaches text level trace key later end) {now : ℕ} {middle : Place} → WalkOf r now middle → Reaches text level trace key now middle
  with_walk r walk = record {
    rule = r.rule;
    of_text = r.of_text;
    alternative = r.alternative;
    items = r.items;
    of_rule = r.of_rule;
    values = r.values;
    times = r.times;
    ground = r.ground;
    of_key = r.of_key;
    walk = walk;
  }

module _ (text : Text) (level : List ℕ → ℕ) (framed : AreFramed text) (trace : Trace) (depth : ℕ) (key : GoalKey) (now later : ℕ) (after : key.time ≤ now) (le : now ≤ later) where
  -- what reaches a place by a later time reaches it by now, or there is a live plan now, or a cut plan was met by now
  advance : (end : Place) (r : Reaches text level trace key later end) → AreInOrder text r.times end.before end.left → AreLimits r.times r.items end.links →
      AllByRecursion (IsSmallSoFar (shared_values r.rule) r.values end) end.left →
      (WalkOf text level trace key r now end × IsWithin depth end)
      ⊎ (HasLive text level trace depth key now ⊎ (HasMetCut text level trace depth key now × (IsWithin depth end → ⊥)))
  advance end r order limits small =
      let given : List ℕ = shared_values r.rule in
      let first : Place = start text key.time r.items in
      let q : Split text level trace given r.values r.times depth now later end first =
      split text level trace given r.values r.times depth now later end framed order r.walk after tt tt
      (entries_nest text level trace given r.values r.times depth 0 0 None r.items (omega arith)) in
      let back_order = in_order text level trace given r.values r.times framed q.second order in
      let back_limits = limits_back text level trace given r.values r.times r.items q.second limits in
      let back_small = small_back text level trace given r.values r.times q.links q.second small in
      elim q.stopped [
        | at_end e ↦ inl (subst (λ m. WalkOf text level trace key r now m) e q.first, subst (λ m. IsWithin depth m) e q.within)
        | ahead o rest left step no_call is_ahead ↦ inr (inl (
          q.middle,
          record {
            plan = record {
              reaches = with_walk text level trace key r q.first;
              within = q.within;
              on = record { next = o; rest = rest; is_next = left; step = step; ahead = is_ahead; in_order = back_order; limits = back_limits; small = back_small };
            };
            no_call = no_call;
          },
        ))
        | deep o rest left step call nest is_ahead beyond ↦ inr (inr (
          (
            q.middle,
            q.middle.before,
            forward text level trace given r.values r.times q.first,
            q.so_far,
            record {
              plan = record {
                reaches = with_walk text level trace key r (tight text level trace given r.values r.times q.first);
                within = q.within;
                on = record { next = o; rest = rest; is_next = left; step = step; ahead = is_ahead; in_order = back_order; limits = back_limits; small = back_small };
              };
              call = call;
              deep = nest;
            },
          ),
          beyond,
        ))
      ]

  -- the same prefix of a plan by now
  abbrev plan_now : (end : Place) (plan : IsPlan text level trace depth key later end) → WalkOf text level trace key plan.reaches now end → IsPlan text level trace depth key now end
  plan_now end plan walk = record {
    reaches = with_walk text level trace key plan.reaches walk;
    within = plan.within;
    on = record {
      next = plan.on.next;
      rest = plan.on.rest;
      is_next = plan.on.is_next;
      step = plan.on.step;
      ahead = sooner now later (plan.reaches.times plan.on.next.env) plan.on.next.item le plan.on.ahead;
      in_order = plan.on.in_order;
      limits = plan.on.limits;
      small = plan.on.small;
    };
  }

  advance_plan : (end : Place) (plan : IsPlan text level trace depth key later end) →
      (WalkOf text level trace key plan.reaches now end × IsWithin depth end)
      ⊎ (HasLive text level trace depth key now ⊎ (HasMetCut text level trace depth key now × (IsWithin depth end → ⊥)))
  advance_plan end plan = advance end plan.reaches plan.on.in_order plan.on.limits plan.on.small

  advance_met : (h : IsFulfilled text level trace key later) →
      (WalkOf text level trace key h.reaches now h.end × IsWithin depth h.end)
      ⊎ (HasLive text level trace depth key now ⊎ (HasMetCut text level trace depth key now × (IsWithin depth h.end → ⊥)))
  advance_met h =
      advance h.end h.reaches (subst (λ l. AreInOrder text h.reaches.times h.end.before l) (sym h.whole) tt) h.limits
      (subst (λ l. AllByRecursion (IsSmallSoFar (shared_values h.reaches.rule) h.reaches.values h.end) l) (sym h.whole) tt)

  live_back : HasLive text level trace depth key later → HasLive text level trace depth key now
  live_back h =
      elim (advance_plan h.0 h.1.plan) [
        | inl w ↦ (h.0, record { plan = plan_now h.0 h.1.plan w.0; no_call = h.1.no_call })
        | inr (inl live) ↦ live
        | inr (inr deeper) ↦ absurd (deeper.1 h.1.plan.within)
      ]

  abbrev met_now : (h : IsFulfilled text level trace key later) → WalkOf text level trace key h.reaches now h.end → IsWithin depth h.end → IsFulfilledWithin text level trace depth key now
  met_now h walk within = record { met = record { end = h.end; reaches = with_walk text level trace key h.reaches walk; whole = h.whole; limits = h.limits }; within = within }

  met_back : IsFulfilled text level trace key later → IsFulfilledWithin text level trace depth key now ⊎ (HasLive text level trace depth key now ⊎ HasMetCut text level trace depth key now)
  met_back h =
      elim (advance_met h) [
        | inl w ↦ inl (met_now h w.0 w.1)
        | inr (inl live) ↦ inr (inl live)
        | inr (inr deeper) ↦ inr (inr deeper.0)
      ]

  met_within_back : IsFulfilledWithin text level trace depth key later → IsFulfilledWithin text level trace depth key now ⊎ HasLive text level trace depth key now
  met_within_back h =
      elim (advance_met h.met) [
        | inl w ↦ inl (met_now h.met w.0 w.1)
        | inr (inl live) ↦ inr live
        | inr (inr deeper) ↦ absurd (deeper.1 h.within)
      ]

  met_on : IsFulfilledWithin text level trace depth key now → IsFulfilledWithin text level trace depth key later
  met_on h = record {
    met = record {
      end = h.met.end;
      whole = h.met.whole;
      limits = h.met.limits;
      reaches = with_walk text level trace key h.met.reaches
          (wider text level trace (shared_values h.met.reaches.rule) h.met.reaches.values h.met.reaches.times le h.met.reaches.walk);
    };
    within = h.within;
  }

  cut_on : HasMetCut text level trace depth key now → HasMetCut text level trace depth key later
  cut_on h = (h.0, h.1, h.2, let x = h.3 in omega arith, h.4)

module _ (text : Text) (level : List ℕ → ℕ) (framed : AreFramed text) (trace : Trace) (depth : ℕ) (key : GoalKey) (now later : ℕ) (after : key.time ≤ now) (le : now ≤ later) where
  cut_back : HasMetCut text level trace depth key later → HasLive text level trace depth key now ⊎ HasMetCut text level trace depth key now
  cut_back h =
      elim (le_or_lt h.1 now) [
        | inl x ↦ inr (h.0, h.1, h.2, x, h.4)
        | inr lt ↦
            let at_most : now ≤ h.1 = omega arith in
            elim (advance_plan text level framed trace depth key now h.1 after at_most h.0 h.4.plan) [
              | inl w ↦ inr (
                h.0,
                now,
                after,
                omega arith,
                record {
                  plan = plan_now text level framed trace depth key now h.1 after at_most h.0 h.4.plan w.0;
                  call = h.4.call;
                  deep = h.4.deep;
                },
              )
              | inr (inl live) ↦ inl live
              | inr (inr deeper) ↦ absurd (deeper.1 h.4.plan.within)
            ]
      ]

  -- after Failed no alternative is true at any nesting
  pub failed_forever : IsClosed text level trace depth key now c.Failed → IsFulfilled text level trace key later → ⊥
  failed_forever none h = either none.0 (either none.1 none.2) (met_back text level framed trace depth key now later after le h)

  -- after Cut none is by an instance within the depth
  pub cut_forever : IsClosed text level trace depth key now c.Cut → IsFulfilledWithin text level trace depth key later → ⊥
  cut_forever none h = either none.0 none.1 (met_within_back text level framed trace depth key now later after le h)

  pub stays : (how : Closed) → IsClosed text level trace depth key now how → IsClosed text level trace depth key later how
  stays c.Solved h = met_on text level framed trace depth key now later after le h
  stays c.Cut h = (
    cut_forever h,
    (λ live. h.1 (live_back text level framed trace depth key now later after le live)),
    cut_on text level framed trace depth key now later after le h.2,
  )
  stays c.Failed h = (
    (λ met. either h.0 h.1 (met_within_back text level framed trace depth key now later after le met)),
    (λ live. h.1 (live_back text level framed trace depth key now later after le live)),
    (λ cut. either h.1 h.2 (cut_back cut)),
  )

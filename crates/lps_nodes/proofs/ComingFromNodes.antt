-- The nodes of a time come from those of the time before.
use Rattle.std.proofs.Common.{ℕ, suc, true, ◌≡◌, ◌≤◌, ◌⊎◌, List, ◌∷◌, ◌∙◌, sym, ap, subst, arith, inl, inr}
use Rattle.std.specs.Prelude.{IsTrue, ◌↔◌}
use Rattle.lps_terms.specs.declared.text.Text.{Text}
use Rattle.lps_model.specs.Acceptance.{IsAccepted}
use Rattle.lps_model.specs.declared.trace.Trace.{Trace}
use Rattle.lps_model.specs.Formed.{is_formed}
use Rattle.lps_meaning.specs.declared.node.Carry.{Carry}
use Rattle.lps_meaning.specs.declared.node.Node.{Node}
use Rattle.lps_meaning.specs.Sequences.{Entry, Place, Times, Values, is_call, stop}
use Rattle.lps_nodes.specs.Laws.{ComesThrough, IsOfText}
use Rattle.lps_nodes.specs.Plans.{EndsWith, Entrance, GoesOnTo, IsCutNext, IsCutNow, IsEnded, IsHeld, IsLeft, IsLivePlan, IsNode, IsReached, IsThrough}
use Rattle.lps_nodes.specs.Shapes.{Sequence}
use Rattle.lps_nodes.proofs.ComingThrough.{entry_or, instance_on, live_on, plan_on}
use Rattle.lps_nodes.proofs.Numbering.{residual_there}
use Rattle.lps_nodes.proofs.Reaching.{reach, start_general}
use Rattle.lps_nodes.proofs.ShapeLaws.{fresh_start}

module _ (text : Text) (accepted : IsAccepted text) (formed : IsTrue (is_formed text)) (level : List ℕ → ℕ) (trace : Trace) (depth : ℕ) (entrance : Entrance) (of_text : IsOfText text entrance.sequence)
    (now : ℕ) (after : entrance.since ≤ now) where
  abbrev q : Sequence
  q = entrance.sequence

  next_cycle : now ≤ suc now
  next_cycle = omega arith

  -- something is left at a place that is reached
  node_at : (time : ℕ) (s : Values) (t : Times) (place : Place) → IsReached text level trace depth entrance time s t place → (node : Node) × IsLeft text level trace depth entrance s t place node
  node_at time s t place h =
      let g = start_general text q s t h.ground entrance.since in
      let k = reach text q s t h.ground level trace h.walk (fresh_start text q s t h.ground level trace entrance.since q.items) tt tt g.0 g.1 in
      let r = residual_there text q s t h.ground place k.0 k.2 entrance.alternative in
      (r.0, record { residual = r.2; alternative = r.1 })

  module _ (s : Values) (t : Times) (end : Place) (h : IsReached text level trace depth entrance (suc now) s t end)
      (c : ComesThrough text level trace depth q s t entrance.since now (suc now) end) where
    live : IsLivePlan text level trace depth entrance now s t c.middle
    live = record {
      reached = record { ground = h.ground; given_values = h.given_values; given_times = h.given_times; walk = c.first; within = c.within };
      on = c.on;
      no_call = c.no_call;
    }

    from_node : (node : Node) × IsNode text level trace depth entrance now node × IsThrough text level trace depth entrance now (suc now) node s t end
    from_node =
        let n = node_at now s t c.middle live.reached in (
          n.0,
          record { values = s; times = t; place = c.middle; live = live; left = n.1 },
          record { middle = c.middle; live = live; left = n.1; walk = c.second },
        )

  pub nodes_come : (other : Node) → IsNode text level trace depth entrance (suc now) other
      ↔ ((node : Node) × IsNode text level trace depth entrance now node × GoesOnTo text level trace depth entrance now node other)
  nodes_come other = (
    (λ n. let h = n.live.reached in
        let c = live_on text accepted formed level trace depth q of_text n.values n.times h.ground entrance.since now (suc now) after next_cycle n.place h.walk h.within n.live.on n.live.no_call in
        let from = from_node n.values n.times n.place h c in
        (from.0, from.1, record { values = n.values; times = n.times; place = n.place; live = n.live; left = n.left; through = from.2 })),
    (λ m. record { values = m.2.values; times = m.2.times; place = m.2.place; live = m.2.live; left = m.2.left }),
  )

  pub ends_come : (carry : Carry) → IsEnded text level trace depth entrance (suc now) carry
      ↔ ((node : Node) × IsNode text level trace depth entrance now node × EndsWith text level trace depth entrance now node carry)
  ends_come carry = (
    (λ n. let h = n.over.reached in
        let last = n.over.last in
        let c = instance_on text accepted formed level trace depth q of_text n.values n.times h.ground entrance.since now (suc now) after next_cycle n.place h.walk h.within n.over.whole n.over.limits (omega (arith, last)) in
        let from = from_node n.values n.times n.place h c in
        (from.0, from.1, record { values = n.values; times = n.times; place = n.place; over = n.over; carried = n.carried; through = from.2 })),
    (λ m. record { values = m.2.values; times = m.2.times; place = m.2.place; over = m.2.over; carried = m.2.carried }),
  )

  pub cuts_come : IsCutNow text level trace depth entrance (suc now) →
      IsCutNow text level trace depth entrance now ⊎ ((node : Node) × IsNode text level trace depth entrance now node × IsCutNext text level trace depth entrance now node)
  cuts_come n =
      let h = n.cut.reached in
      elim (plan_on text accepted formed level trace depth q of_text n.values n.times h.ground entrance.since now (suc now) after next_cycle n.place h.walk h.within n.cut.on) [
        | inl before ↦ inl (record {
          values = n.values;
          times = n.times;
          place = n.place;
          cut = record {
            reached = record { ground = h.ground; given_values = h.given_values; given_times = h.given_times; walk = before.0; within = h.within };
            on = before.1;
            call = subst (λ (e : Entry). is_call text e.item ≡ true) (same_next (sym n.cut.on.is_next ∙ before.1.is_next)) n.cut.call;
            deep = subst (λ (e : Entry). e.nest ≡ depth) (same_next (sym n.cut.on.is_next ∙ before.1.is_next)) n.cut.deep;
          };
        })
        | inr c ↦ let from = from_node n.values n.times n.place h c in
            inr (from.0, from.1, record { values = n.values; times = n.times; place = n.place; cut = n.cut; through = from.2 })
      ]
    where
      same_next : {x y : Entry} {xs ys : List Entry} → x ∷ xs ≡ y ∷ ys → x ≡ y
      same_next {x = x} e = ap (entry_or x) e

-- a node that is held goes on to itself
pub held_goes : (text : Text) (level : List ℕ → ℕ) (trace : Trace) (depth : ℕ) (entrance : Entrance) (now : ℕ) (node : Node) →
    IsHeld text level trace depth entrance now node → GoesOnTo text level trace depth entrance now node node
held_goes text level trace depth entrance now node h = record {
  values = h.values;
  times = h.times;
  place = h.place;
  live = h.still;
  left = h.left;
  through = record { middle = h.place; live = h.live; left = h.left; walk = stop };
}

-- A walk by a later time comes through a place where a live plan could go on now, or it was over by now.
use Rattle.std.proofs.Common.{ℕ, suc, ◌≡◌, ◌≤◌, ◌<◌, ◌⊎◌, List, [], ◌∷◌, ◌∙◌, refl, sym, ap, subst, arith, inl, inr}
use Rattle.std.specs.Prelude.{IsTrue, true, false}
use Rattle.std.specs.List.{AllByRecursion}
use Rattle.lps_terms.specs.declared.item.Item.{Item}
use Rattle.lps_terms.specs.declared.item.Item.TheVariants as i
use Rattle.lps_terms.specs.declared.text.Text.{Text}
use Rattle.lps_model.specs.Acceptance.{IsAccepted}
use Rattle.lps_model.specs.declared.trace.Trace.{Trace}
use Rattle.lps_model.specs.Formed.{is_formed}
use Rattle.lps_meaning.specs.Goals.{AreAllGround, CanGoOn}
use Rattle.lps_nodes.specs.Alone.{stay}
use Rattle.lps_nodes.specs.Laws.{ComesThrough, IsOfText, LeadsTo, stage_at}
use Rattle.lps_nodes.specs.Led.{AreMetNow}
use Rattle.lps_meaning.specs.Sequences.{Entry, Place, Values, Times, Walk, stop, start, is_call, is_step, AreInOrder, AreLimits, IsAhead, IsSmallSoFar, IsWithin}
use Rattle.lps_nodes.specs.Shapes.{Sequence, Shape, IsGeneral}
use Rattle.lps_meaning.proofs.Framing.{accepted_texts_are_framed}
use Rattle.lps_meaning.proofs.Splits.{Split, split, at_end, ahead, deep, small_back, limits_back, entries_nest}
use Rattle.lps_meaning.proofs.Walks.{in_order, wider}
use Rattle.lps_nodes.proofs.ConditionLaws.{ended}
use Rattle.lps_nodes.proofs.LeadingOn.{from_middle}

pub sooner : (now later : ℕ) (t : ℕ → ℕ) (item : Item) → now ≤ later → IsAhead later t item → IsAhead now t item
sooner now later t (i.At lit time) le h = omega arith
sooner now later t (i.Span a from to) le h = omega arith
sooner now later t (i.Bare lit) le h = h
sooner now later t (i.Built built) le h = h
sooner now later t (i.Con con) le h = h

abbrev pub entry_or : Entry → List Entry → Entry
entry_or d [] = d
entry_or d (e ∷ es) = e

module _ (text : Text) (formed : IsTrue (is_formed text)) (level : List ℕ → ℕ) (trace : Trace) (depth : ℕ) (q : Sequence) (of_text : IsOfText text q) (s : Values) (t : Times) (ground : AreAllGround s)
    (since now later : ℕ) (after : since ≤ now) (le : now ≤ later) (middle : Place) (first : Walk text level trace q.given_values s t now middle (start text since q.items))
    (on : CanGoOn text q.given_values s t now q.items middle) (no_call : is_call text on.next.item ≡ false) where
  ready : (o : Entry) (rest : List Entry) → middle.left ≡ o ∷ rest → (is_step o.item ≡ true) × (is_call text o.item ≡ false) × IsAhead now (t o.env) o.item
  ready o rest left =
      subst (λ (e : Entry). (is_step e.item ≡ true) × (is_call text e.item ≡ false) × IsAhead now (t e.env) e.item) (ap (entry_or o) (sym on.is_next ∙ left)) (on.step, no_call, on.ahead)

  -- from what is left of a live plan steps alone lead on, each of which ends at the next time where they are made by then
  pub live_leads_on : (end : Place) → Walk text level trace q.given_values s t later end middle → IsWithin depth end → (g : Shape) → IsGeneral q s t middle g →
      (r : LeadsTo text level trace depth later q s t (stage_at now middle g) end) × (later ≤ suc now → AreMetNow r.steps) × (now < end.before → r.end.before ≡ end.before)
  live_leads_on end second within g is =
      from_middle text formed level trace depth q of_text s t ground since later (omega arith) now middle (wider text level trace q.given_values s t le first)
      (ended text level trace q.given_values s t first after) ready g is second within

  pub live_leads : (end : Place) → Walk text level trace q.given_values s t later end middle → IsWithin depth end → (g : Shape) → IsGeneral q s t middle g →
      LeadsTo text level trace depth later q s t (stage_at now middle g) end
  live_leads end second within g is = (live_leads_on end second within g is).0

module _ (text : Text) (accepted : IsAccepted text) (formed : IsTrue (is_formed text)) (level : List ℕ → ℕ) (trace : Trace) (depth : ℕ) (q : Sequence) (of_text : IsOfText text q) (s : Values) (t : Times)
    (ground : AreAllGround s) (since now later : ℕ) (after : since ≤ now) (le : now ≤ later) (end : Place) (walk : Walk text level trace q.given_values s t later end (start text since q.items))
    (within : IsWithin depth end) where
  abbrev WalkedBy : ℕ → Place → Type 0
  WalkedBy time place = Walk text level trace q.given_values s t time place (start text since q.items)

  -- by now the walk is over, or it comes through a place where it could go on
  through : AreInOrder text t end.before end.left → AreLimits t q.items end.links → AllByRecursion (IsSmallSoFar q.given_values s end) end.left →
      (WalkedBy now end × (end.before ≤ now)) ⊎ ComesThrough text level trace depth q s t since now later end
  through order limits small =
      let cut : Split text level trace q.given_values s t depth now later end (start text since q.items) =
      split text level trace q.given_values s t depth now later end (accepted_texts_are_framed text accepted) order walk after tt tt
      (entries_nest text level trace q.given_values s t depth 0 0 _ q.items (omega arith)) in
      elim cut.stopped [
        | at_end e ↦ inl (subst (WalkedBy now) e cut.first, subst (λ (m : Place). m.before ≤ now) e cut.so_far)
        | ahead o rest left step no_call is_ahead ↦
            let on : CanGoOn text q.given_values s t now q.items cut.middle = record {
              next = o;
              rest = rest;
              is_next = left;
              step = step;
              ahead = is_ahead;
              in_order = in_order text level trace q.given_values s t (accepted_texts_are_framed text accepted) cut.second order;
              limits = limits_back text level trace q.given_values s t q.items cut.second limits;
              small = small_back text level trace q.given_values s t cut.links cut.second small;
            } in
            inr (record {
              middle = cut.middle;
              first = cut.first;
              second = cut.second;
              within = cut.within;
              on = on;
              no_call = no_call;
              alone = live_leads text formed level trace depth q of_text s t ground since now later after le cut.middle cut.first on no_call end cut.second within;
            })
        | deep o rest left step call nest is_ahead beyond ↦ absurd (beyond within)
      ]

  abbrev on_now : CanGoOn text q.given_values s t later q.items end → CanGoOn text q.given_values s t now q.items end
  on_now on = record {
    next = on.next;
    rest = on.rest;
    is_next = on.is_next;
    step = on.step;
    ahead = sooner now later (t on.next.env) on.next.item le on.ahead;
    in_order = on.in_order;
    limits = on.limits;
    small = on.small;
  }

  pub plan_on : CanGoOn text q.given_values s t later q.items end →
      (WalkedBy now end × CanGoOn text q.given_values s t now q.items end) ⊎ ComesThrough text level trace depth q s t since now later end
  plan_on on =
      elim (through on.in_order on.limits on.small) [
        | inl over ↦ inl (over.0, on_now on)
        | inr through ↦ inr through
      ]

  pub live_on : (on : CanGoOn text q.given_values s t later q.items end) → is_call text on.next.item ≡ false → ComesThrough text level trace depth q s t since now later end
  live_on on no_call =
      elim (through on.in_order on.limits on.small) [
        | inl over ↦ record {
          middle = end;
          first = over.0;
          second = stop;
          within = within;
          on = on_now on;
          no_call = no_call;
          alone = λ g is. record { end = stage_at now end g; steps = stay; at = record { within = within; of_rank = refl; of_done = refl }; general = is };
        }
        | inr through ↦ through
      ]

  pub instance_on : end.left ≡ [] → AreLimits t q.items end.links → now < end.before → ComesThrough text level trace depth q s t since now later end
  instance_on whole limits ends =
      elim (through (subst (AreInOrder text t end.before) (sym whole) tt) limits (subst (AllByRecursion (IsSmallSoFar q.given_values s end)) (sym whole) tt)) [
        | inl over ↦ let early = over.1 in absurd (omega (arith, ends, early))
        | inr through ↦ through
      ]

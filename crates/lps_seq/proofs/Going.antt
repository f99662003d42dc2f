-- From what is led to once the first item is met, and what is left with no step, to all that is led to; and what the calls on the way ask.
use Rattle.std.proofs.Common.{ℕ, ◌≡◌, ◌⊎◌, ◌↔◌, ◌+◌, ◌<◌, ◌≤◌, List, [], ◌∷◌, get_or, length, map, sym, ap, subst, ◌∙◌, inl, inr}
use Rattle.std.specs.Prelude.{Contains, MatchOption, None, Option, Some, slice_get}
use Rattle.lps_terms.specs.declared.term.Term.{Term}
use Rattle.lps_terms.specs.declared.values.Values.{Values}
use Rattle.lps_facts.specs.Facts.{members}
use Rattle.lps_model.specs.Acceptance.{IsAccepted}
use Rattle.lps_model.specs.Clauses.{clauses}
use Rattle.lps_meaning.specs.declared.node.Carry.{Carry}
use Rattle.lps_meaning.specs.declared.node.Left.{Left}
use Rattle.lps_meaning.specs.declared.node.LeftItem.{LeftItem}
use Rattle.lps_meaning.specs.declared.node.Node.{Node}
use Rattle.lps_meaning.specs.declared.when.When.{When}
use Rattle.lps_nodes.specs.Alone.{Stage as WalkStage}
use Rattle.lps_nodes.specs.Led.{IsCarriedAt, IsLeftAt, IsLedTo, IsLedToEnd}
use Rattle.lps_nodes.specs.Shapes.{Shape, put_left}
use Rattle.lps_residual.specs.Putting.{when_at}
use Rattle.lps_residual.proofs.Waits.{stands_first}
use Rattle.lps_meeting.specs.declared.moment.Moment.{Moment}
use Rattle.lps_meeting.specs.declared.stage.Stage.{Stage}
use Rattle.lps_meeting.specs.declared.ways.Ways.{Ways}
use Rattle.lps_meeting.specs.Stages.{IsFirst, IsReadyStage, Meets}
use Rattle.lps_meeting.specs.Steps.{AreGroundAtoms, AreTimesWhenMet, AreValuesBy, AreWays, IsDue}
use Rattle.lps_seq.specs.declared.found.Found.{Found}
use Rattle.lps_seq.specs.Found.{Adds}
use Rattle.lps_seq.specs.Leads.{Leads, LeadsByMeeting, LeadsByRow, LeadsWithout}
use Rattle.lps_seq.proofs.Ending.{no_calls}
use Rattle.lps_seq.proofs.Rows.{AddsByRows, all_rows, get_mapped, as_many, more_rows}
use Rattle.lps_seq.proofs.Stepping.{ended_first, led_first}
use Rattle.lps_seq.proofs.Tables.{at_any}

-- ---- the first item

pub first_here : (rest : List Left) (first : Left) → Some first ≡ slice_get rest 0 → (nest : ℕ) × (behind : List Left) × (rest ≡ record { item = first.item; nest = nest } ∷ behind)
first_here rest first e = let stands = stands_first rest first (sym e) in (first.nest, stands.0, stands.1)

-- ---- all that is led to

pub leads_both : (m : Moment) (stage : Stage) → IsReadyStage m stage → (item : LeftItem) → IsFirst stage item → (old mid new : Found) →
    LeadsByMeeting m stage old mid → LeadsWithout m stage mid new → Leads m stage old new
leads_both m stage ready item first old mid new meeting without level trace x is depth = record {
  nodes = λ o. (
    λ h. elim ((two.nodes o).0 h) [
      | inl was ↦ elim ((one.nodes o).0 was) [
        | inl before ↦ inl before
        | inr later ↦ inr ((first_of o).1 (inr later))
      ]
      | inr here ↦ inr ((first_of o).1 (inl here))
    ],
    λ h. elim h [
      | inl before ↦ (two.nodes o).1 (inl ((one.nodes o).1 (inl before)))
      | inr led ↦ elim ((first_of o).0 led) [
        | inl here ↦ (two.nodes o).1 (inr here)
        | inr later ↦ (two.nodes o).1 (inl ((one.nodes o).1 (inr later)))
      ]
    ],
  );
  once = λ h. two.once (one.once h);
  ended = λ k. (
    λ h. elim ((two.ended k).0 h) [
      | inl was ↦ elim ((one.ended k).0 was) [
        | inl before ↦ inl before
        | inr later ↦ inr ((end_of k).1 (inr later))
      ]
      | inr f ↦ absurd f
    ],
    λ h. elim h [
      | inl before ↦ (two.ended k).1 (inl ((one.ended k).1 (inl before)))
      | inr led ↦ elim ((end_of k).0 led) [
        | inl here ↦ absurd (not_whole here.whole)
        | inr later ↦ (two.ended k).1 (inl ((one.ended k).1 (inr later)))
      ]
    ],
  );
} where
  one : Adds old mid (λ o. (y : WalkStage) × Meets m.program.now level trace m.time x y × IsLedTo m.program.now level trace depth m.time y stage.node.alternative o)
      (λ k. (y : WalkStage) × Meets m.program.now level trace m.time x y × IsLedToEnd m.program.now level trace depth m.time y k)
  one = meeting level trace x is depth

  two : Adds mid new (IsLeftAt m.program.now m.time x stage.node.alternative) (λ k. ⊥)
  two = without level trace x is depth

  first_of : (o : Node) → IsLedTo m.program.now level trace depth m.time x stage.node.alternative o
      ↔ (IsLeftAt m.program.now m.time x stage.node.alternative o ⊎ ((y : WalkStage) × Meets m.program.now level trace m.time x y × IsLedTo m.program.now level trace depth m.time y stage.node.alternative o))
  first_of = led_first m.program.now level trace depth m.time stage.node.alternative x (no_calls m stage ready x is.is)

  end_of : (k : Carry) → IsLedToEnd m.program.now level trace depth m.time x k
      ↔ (IsCarriedAt m.time x k ⊎ ((y : WalkStage) × Meets m.program.now level trace m.time x y × IsLedToEnd m.program.now level trace depth m.time y k))
  end_of = ended_first m.program.now level trace depth m.time x (no_calls m stage ready x is.is)

  not_whole : x.shape.rest ≡ [] → ⊥
  not_whole none = let there = ap (λ (g : Shape). g.rest) is.is.shape.to ∙ ap (map (put_left is.is.shape.v is.is.shape.x)) none in let here = sym first.2 ∙ there in cc

-- ---- rows

-- the row at a place is among the rows
pub row_among : (rows : List Values) (k : ℕ) (row : Values) → k < length rows → row ≡ get_or rows k row → Contains (map (λ v. v.0) rows) row.0
row_among rows k row below at = (k, subst (λ n. k < n) (sym (as_many rows)) below, sym (get_mapped rows k row row.0 below) ∙ ap (λ v. v.0) (sym at))

module _ (m : Moment) (accepted : IsAccepted m.program.now) (ground : AreGroundAtoms m.events.now) (stage : Stage) (ready : IsReadyStage m stage) (item : LeftItem) (first : IsFirst stage item) (due : IsDue stage m.time item)
    (whens : List When) (times : AreTimesWhenMet m.unknowns m.time item whens) (ways : Ways)
    (are_ways : AreWays (clauses m.program.now) (members m.facts.now) m.events.now m.variables item ways) where
  pub row_added : (rows : List Values) → rows ≡ ways.rows.items → (count : ℕ) (old mid new : Found) (row : Values) → count < length rows → row ≡ get_or rows count row →
      AddsByRows m stage item whens ways.terms rows count old mid → LeadsByRow m stage item ways.terms row.0 (when_at whens) mid new →
      AddsByRows m stage item whens ways.terms rows (count + 1) old new
  row_added rows same count old mid new row below at adds led =
      let below' : count < length ways.rows.items = subst (λ rows. count < length rows) same below in
      let at' : row ≡ get_or ways.rows.items count row = subst (λ rows. row ≡ get_or rows count row) same at in
      subst (λ rows. AddsByRows m stage item whens ways.terms rows (count + 1) old new) (sym same)
      (more_rows m accepted ground stage ready item first due whens times ways are_ways count old mid new row.0 below' (λ d. ap (λ v. v.0) (at_any ways.rows.items count d row below' ∙ sym at'))
      (row_among ways.rows.items count row below' at') (subst (λ rows. AddsByRows m stage item whens ways.terms rows count old mid) same adds) led)

  pub rows_added : (rows : List Values) → rows ≡ ways.rows.items → (count : ℕ) (old new : Found) → length rows ≤ count → AddsByRows m stage item whens ways.terms rows count old new →
      LeadsByMeeting m stage old new
  rows_added rows same count old new all adds =
      all_rows m accepted ground stage ready item first due whens times ways are_ways count old new (subst (λ rows. length rows ≤ count) same all)
      (subst (λ rows. AddsByRows m stage item whens ways.terms rows count old new) same adds)

-- ---- answers

pub none_of : {X : Type 0} (P : Type 0) (Q : X → Type 0) (found : Option X) → found ≡ None → MatchOption found P Q → P
none_of P Q None e h = h
none_of P Q (Some x) e h = cc

pub some_of : {X : Type 0} (P : Type 0) (Q : X → Type 0) (found : Option X) (x : X) → found ≡ Some x → MatchOption found P Q → Q x
some_of P Q None x e h = cc
some_of P Q (Some y) x e h = let same : y ≡ x = cc in subst Q same h

pub same_values : (n : ℕ) (terms others row others_row values others_values : List Term) → terms ≡ others → row ≡ others_row → values ≡ others_values → AreValuesBy n terms row values →
    AreValuesBy n others others_row others_values
same_values n terms others row others_row values others_values a b c h = subst (λ z. AreValuesBy n z others_row others_values) a (subst (λ z. AreValuesBy n terms z others_values) b (subst (AreValuesBy n terms row) c h))

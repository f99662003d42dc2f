-- Steps alone that are made by a time end at it, where none may end earlier.
use Rattle.std.proofs.Common.{ℕ, Bool, true, false, ◌≡◌, ◌≤◌, List, ap, arith}
use Rattle.lps_terms.specs.declared.text.Text.{Text}
use Rattle.lps_model.specs.declared.trace.Trace.{Trace}
use Rattle.lps_model.specs.Rules.{is_macro, kind_of}
use Rattle.lps_meaning.specs.declared.node.LeftItem.{LeftItem}
use Rattle.lps_meaning.specs.declared.node.LeftItem.TheVariants as l
use Rattle.lps_meaning.specs.declared.when.When.{When}
use Rattle.lps_meaning.specs.declared.when.When.TheVariants.{Known, Unknown}
use Rattle.lps_meaning.specs.Sequences.{IsSpanPlaced}
use Rattle.lps_nodes.specs.Alone.{Alone, IsLeftTrue, IsToldItem, Stage, enter, meet, stay}
use Rattle.lps_nodes.specs.Conditions.{IsLeftPlaced, goes_on, left_end, time_in}
use Rattle.lps_nodes.specs.Led.{AreMetNow, IsMetNow}

pub span_forward : (b joins : Bool) (before from to : ℕ) → IsSpanPlaced b joins before from to → before ≤ to
span_forward true joins before from to h = let x = h.0 in let y = h.1 in omega arith
span_forward false true before from to h = let y = h.1 in omega (arith, y)
span_forward false false before from to h = let x = h.0 in let y = h.1 in omega (arith, x)

-- a step ends no earlier than the one before
pub end_forward : (text : Text) (before : ℕ) (goes : Bool) (item : LeftItem) → IsLeftPlaced text (λ k. 0) before goes item → before ≤ left_end (λ k. 0) before item
end_forward text before goes (l.At lit time) h = h
end_forward text before goes (l.Bare lit) h = omega arith
end_forward text before goes (l.Built built) h = omega arith
end_forward text before goes (l.Span a from to) h = span_forward (is_macro (kind_of text a.name)) goes before (time_in (λ k. 0) from) (time_in (λ k. 0) to) h

known_now : (n later : ℕ) → n ≤ later → later ≤ n → ◌≡◌ {A = When} (Known n) (Known later)
known_now n later le ge = let same : n ≡ later = omega arith in ap (λ m. Known m) same

module _ (text : Text) (level : List ℕ → ℕ) (trace : Trace) (later : ℕ) where
  pub is_met_now : (before : ℕ) (item : LeftItem) → IsToldItem item → IsLeftTrue text level trace later item → later ≤ left_end (λ k. 0) before item → IsMetNow later item
  is_met_now before (l.At lit (Known n)) told is_true le = known_now n later is_true.0 le
  is_met_now before (l.At lit (Unknown k)) told is_true le = absurd told
  is_met_now before (l.Bare lit) told is_true le = tt
  is_met_now before (l.Built built) told is_true le = tt
  is_met_now before (l.Span a (Known m) (Known n)) told is_true le = known_now n later is_true.1 le
  is_met_now before (l.Span a (Known m) (Unknown k)) told is_true le = absurd told
  is_met_now before (l.Span a (Unknown k) to) told is_true le = absurd told

  pub met_all : (depth : ℕ) {end x : Stage} (steps : Alone text level trace depth later end x) → later ≤ x.before → AreMetNow steps
  met_all depth stay le = tt
  met_all depth {x = x} (meet first behind met h is_first told is_true small placed step more) le =
      let on = end_forward text x.before (goes_on text x.last first.item) met.item placed in
      let end_le : later ≤ left_end (λ k. 0) x.before met.item = omega arith in
      (is_met_now x.before met.item told is_true end_le, met_all depth more end_le)
  met_all depth (enter first behind a from to number clause h is_first item macro deep named small step more) le = met_all depth more le

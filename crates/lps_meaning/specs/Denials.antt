-- When some events, that would come after a trace, violate a denial.
use Rattle.std.specs.Prelude.{◌≡◌, ◌<◌, ℕ, suc, IsTrue, List, [], length, map, Some, Contains}
use Rattle.std.specs.List.{AllByRecursion}
use Rattle.lps_terms.specs.declared.atom.Atom.{Atom}
use Rattle.lps_terms.specs.declared.item.Item.{Item}
use Rattle.lps_terms.specs.declared.item.Item.TheVariants as i
use Rattle.lps_terms.specs.declared.term.Term.{Term}
use Rattle.lps_terms.specs.declared.text.Text.{Text}
use Rattle.lps_values.specs.Truth.{is_true}
use Rattle.lps_model.specs.declared.trace.Trace.{Trace}
use Rattle.lps_model.specs.declared.verdict.Verdict.TheVariants.{Admitted}
use Rattle.lps_model.specs.Trace.{then_cycle}
use Rattle.lps_derivation.specs.Ground.{is_ground}
use Rattle.lps_meaning.specs.Holds.{IsTrueLit}
use Rattle.lps_meaning.specs.Items.{put_item, IsSmallItem}
use Rattle.lps_model.specs.Rules.{denials, numbered}

-- the trace with one more cycle, in which these events happen
abbrev pub then_events : Trace → List Atom → Trace
then_events trace events = then_cycle trace (record { events = events; verdicts = map (λ event. Admitted) events; picks = [] })

module _ (text : Text) (level : List ℕ → ℕ) (trace : Trace) (events : List Atom) where
  -- An item of an instance is met, under values of its times: what is to happen is among the events and is from the last
  -- state of the trace to the state after the events; a literal is true in the state of its time.
  abbrev pub IsMetBy : (ℕ → ℕ) → Item → Type 0
  IsMetBy t (i.At l time) = IsTrueLit text level (then_events trace events) (t time.0) l
  IsMetBy t (i.Bare l) = IsTrueLit text level (then_events trace events) 0 l
  IsMetBy t (i.Built built) = IsTrue (is_true built)
  IsMetBy t (i.Span a from to) = (t from.0 ≡ length trace.cycles) × (t to.0 ≡ suc (length trace.cycles)) × Contains events a
  IsMetBy t (i.Con con) = ⊥

  -- an instance of the denial has all its items met
  pub record Violates (denial : List Item) : Type 0 where
    pub values : ℕ → Term
    pub times : ℕ → ℕ
    pub all_ground : (v : ℕ) → IsTrue (is_ground (values v))
    pub small : AllByRecursion IsSmallItem (map (put_item values) denial)
    pub met : AllByRecursion (IsMetBy times) (map (put_item values) denial)

  -- denial number k of the text is violated
  abbrev pub ViolatesNumber : ℕ → Type 0
  ViolatesNumber k = (denial : List Item) × (numbered (denials text) k ≡ Some denial) × Violates denial

  -- no denial is
  abbrev pub ViolatesNone : Type 0
  ViolatesNone = (k : ℕ) → ViolatesNumber k → ⊥

  -- k is the least number of a denial that is violated
  abbrev pub IsLeastViolated : ℕ → Type 0
  IsLeastViolated k = ViolatesNumber k × ((j : ℕ) → j < k → ViolatesNumber j → ⊥)

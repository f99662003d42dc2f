-- What the events and the facts before and after them say of a trace.
use Rattle.std.proofs.Common.{ℕ, zero, suc, true, false, ◌≡◌, List, [], ◌∷◌, map, length, refl, ap, ◌∙◌, inl, inr}
use Rattle.std.specs.Prelude.{◌⊎◌, ◌↔◌, Contains, Option, Some, None}
use Rattle.lps_terms.specs.declared.atom.Atom.{Atom}
use Rattle.lps_terms.specs.declared.kind.Kind.{Kind}
use Rattle.lps_terms.specs.declared.kind.Kind.TheVariants as k
use Rattle.lps_terms.specs.declared.text.Text.{Text}
use Rattle.lps_values.specs.Truth.{is_true}
use Rattle.lps_model.specs.declared.cycle.Cycle.{Cycle}
use Rattle.lps_model.specs.declared.trace.Trace.{Trace}
use Rattle.lps_model.specs.declared.verdict.Verdict.TheVariants.{Admitted}
use Rattle.lps_model.specs.Acceptance.{IsAccepted}
use Rattle.lps_model.specs.Trace.{admitted, happens_in}
use Rattle.lps_model.specs.Clauses.{clauses}
use Rattle.lps_derivation.specs.Levels.{AreLevels}
use Rattle.lps_derivation.specs.Laws.{Passes}
use Rattle.lps_derivation.proofs.Reach.{same_reached}
use Rattle.lps_meaning.specs.Denials.{then_events}
use Rattle.lps_meaning.specs.Holds.{Holds, IsTrueOver}
use Rattle.lps_meaning.specs.Reports.{IsState}
use Rattle.lps_model.specs.Rules.{kind_of}
use Rattle.lps_meaning.proofs.Persistence.{turn, update_law}
use Rattle.lps_unify.proofs.Keeping.{append_none}
use Rattle.lps_causal.specs.Names.{AreFluents}
use Rattle.lps_causal.specs.Next.{IsUpdate}
use Rattle.lps_causal.proofs.Happening.{caused_is_fluent, timeless_everywhere, true_where_fact}
use Rattle.lps_causal.proofs.States.{state_stays}
use Rattle.lps_precond.proofs.Bridge.{AreAlike}

pub then_both : {P Q R : Type 0} → P ↔ Q → Q ↔ R → P ↔ R
then_both one two = ((λ p. two.0 (one.0 p)), (λ r. one.1 (two.1 r)))

-- ---- a cycle of these events

all_admitted : (events : List Atom) → admitted events (map (λ event. Admitted) events) ≡ events
all_admitted [] = refl
all_admitted (event ∷ events) = ap (λ more. event ∷ more) (all_admitted events)

abbrev cycle_of : List Atom → Cycle
cycle_of events = record { events = events; verdicts = map (λ event. Admitted) events; picks = [] }

happens_then : (events : List Atom) → happens_in (cycle_of events) ≡ events
happens_then events = append_none (admitted events (map (λ event. Admitted) events)) ∙ all_admitted events

-- ---- kinds

is_fluent_or_not : (kind : Option Kind) → (kind ≡ Some k.Fluent) ⊎ (kind ≡ Some k.Fluent → ⊥)
is_fluent_or_not None = inr (λ e. cc)
is_fluent_or_not (Some k.Fluent) = inl refl
is_fluent_or_not (Some k.Derived) = inr (λ e. cc)
is_fluent_or_not (Some k.Timeless) = inr (λ e. cc)
is_fluent_or_not (Some k.Event) = inr (λ e. cc)
is_fluent_or_not (Some k.Action) = inr (λ e. cc)
is_fluent_or_not (Some k.Macro) = inr (λ e. cc)

-- ---- truth

-- over facts that are alike the same is true
pub same_truth : (text : Text) (level : List ℕ → ℕ) (One Two : Atom → Type 0) → ((a : Atom) → One a ↔ Two a) → (a : Atom) → IsTrueOver text level One a ↔ IsTrueOver text level Two a
same_truth text level One Two same a =
    same_reached (Passes is_true) (clauses text) (λ name. true) (record { calls = λ k l at among named. refl }) One Two (λ b named. same b) level a refl

module _ (text : Text) (accepted : IsAccepted text) (level : List ℕ → ℕ) (levels : AreLevels (clauses text) level) (trace : Trace) (events happened before after : List Atom)
    (fluents : AreFluents text before) (same : (a : Atom) → Contains happened a ↔ Contains events a) (update : IsUpdate text before events after)
    (state : IsState text level trace (length trace.cycles) before) where
  abbrev now : ℕ
  now = length trace.cycles

  abbrev longer : Trace
  longer = then_events trace events

  state_now : IsState text level longer now before
  state_now = state_stays text level trace (cycle_of events) before state

  state_then : IsState text level longer (suc now) after
  state_then = update.state level levels trace (cycle_of events) (happens_then events) state

  -- what is no fluent stays
  stays : (a : Atom) → (kind_of text a.name ≡ Some k.Fluent → ⊥) → Holds text level longer 0 a → (i : ℕ) → Holds text level longer i a
  stays a never held zero = held
  stays a never held (suc i) =
      (update_law text level longer a i).1 (inr (stays a never held i, λ ends. never (caused_is_fluent text accepted level false (Holds text level longer i) _ a ends.0)))

  -- what holds in the first state is a fluent, since it would stay up to the last one otherwise
  starts_as_fluent : (a : Atom) → Holds text level longer 0 a → kind_of text a.name ≡ Some k.Fluent
  starts_as_fluent a held =
      elim (is_fluent_or_not (kind_of text a.name)) [
        | inl fluent ↦ fluent
        | inr never ↦ (fluents.each a ((state_now.exact a).1 (stays a never held now))).kind
      ]

  pub are_alike : AreAlike text level trace events happened before after
  are_alike = record {
    at_first = λ a named. same_truth text level (Holds text level longer now) (Contains before) (λ b. turn (state_now.exact b)) a;
    at_second = λ a named. same_truth text level (Holds text level longer (suc now)) (Contains after) (λ b. turn (state_then.exact b)) a;
    bare_before = λ a named. timeless_everywhere text accepted level (Holds text level longer 0) (Contains before) starts_as_fluent (λ b h. (fluents.each b h).kind) a named;
    bare_after = λ a named. timeless_everywhere text accepted level (Holds text level longer 0) (Contains after) starts_as_fluent (λ b h. (update.fluents.each b h).kind) a named;
    happening = λ a is. then_both (turn (same a)) (turn (true_where_fact text accepted level (Contains happened) a is));
  }

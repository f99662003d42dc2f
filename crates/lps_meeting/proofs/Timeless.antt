-- What is timeless is true alike in every state: no law causes it, so its facts are those of the start.
use Rattle.std.proofs.Common.{ℕ, zero, suc, true, false, ◌≡◌, List, sym, ap, ◌∙◌, inl, inr}
use Rattle.std.specs.Prelude.{◌↔◌, Some}
use Rattle.lps_terms.specs.declared.atom.Atom.{Atom}
use Rattle.lps_terms.specs.declared.kind.Kind.TheVariants as k
use Rattle.lps_terms.specs.declared.text.Text.{Text}
use Rattle.lps_values.specs.Truth.{is_true}
use Rattle.lps_model.specs.declared.trace.Trace.{Trace}
use Rattle.lps_model.specs.Acceptance.{IsAccepted}
use Rattle.lps_model.specs.Clauses.{clauses}
use Rattle.lps_model.specs.Rules.{kind_of}
use Rattle.lps_derivation.specs.Laws.{Passes}
use Rattle.lps_derivation.proofs.Reach.{same_reached}
use Rattle.lps_meaning.specs.Holds.{Holds}
use Rattle.lps_meaning.proofs.Persistence.{update_law}
use Rattle.lps_causal.proofs.Happening.{caused_is_fluent, is_timeless, timeless_are_closed}
use Rattle.lps_meeting.specs.Stages.{AreTimelessAlike}

module _ (text : Text) (accepted : IsAccepted text) (level : List ℕ → ℕ) (trace : Trace) where
  no_fluent : (a : Atom) → kind_of text a.name ≡ Some k.Fluent → is_timeless (kind_of text a.name) ≡ true → ⊥
  no_fluent a fluent timeless = let no : false ≡ true = sym (ap is_timeless fluent) ∙ timeless in cc

  same_since : (i : ℕ) (a : Atom) → is_timeless (kind_of text a.name) ≡ true → Holds text level trace 0 a ↔ Holds text level trace i a
  same_since zero a timeless = ((λ h. h), (λ h. h))
  same_since (suc i) a timeless = (
    (λ h. (update_law text level trace a i).1 (inr ((same_since i a timeless).0 h, λ ends. no_fluent a (caused_is_fluent text accepted level false (Holds text level trace i) _ a ends.0) timeless))),
    (λ h. elim ((update_law text level trace a i).0 h) [
      | inl caused ↦ absurd (no_fluent a (caused_is_fluent text accepted level true (Holds text level trace i) _ a caused) timeless)
      | inr held ↦ (same_since i a timeless).1 held.0
    ]),
  )

  pub timeless_alike : (i : ℕ) → AreTimelessAlike text level trace i
  timeless_alike i a is =
      same_reached (Passes is_true) (clauses text) (λ name. is_timeless (kind_of text name)) (timeless_are_closed text accepted) (Holds text level trace 0) (Holds text level trace i)
      (λ b named. same_since i b named) level a (ap is_timeless is)

-- The events of a batch: which atoms they are, and how they are judged.
use Rattle.std.proofs.Common.{◌≡◌, List, [], ◌∷◌, ◌++◌, refl, sym, ap, subst, ◌∙◌, inl, inr, Option, Some, None, ℕ, append_assoc}
use Rattle.std.specs.Prelude.{Contains}
use Rattle.std.proofs.lemmas.List.{append-nil}
use Rattle.lps_terms.specs.declared.atom.Atom.{Atom}
use Rattle.lps_terms.specs.declared.text.Text.{Text}
use Rattle.lps_model.specs.declared.verdict.Verdict.{Verdict}
use Rattle.lps_model.specs.declared.verdict.Verdict.TheVariants.{Admitted, Rejected}
use Rattle.lps_model.specs.Order.{happens}
use Rattle.lps_model.specs.Trace.{admitted, if_admitted}
use Rattle.lps_model.proofs.Elements.{first_or_later, nothing_contained}
use Rattle.lps_meaning.specs.Cycles.{AreJudged}
use Rattle.lps_causal.specs.Names.{AreEvents, IsEvent}
use Rattle.lps_precond.specs.Judged.{IsJudged}
use Rattle.lps_trial.specs.Trial.{InState}
use Rattle.lps_cycle.specs.Admission.{AreAdmitted, IsVerdictIn, MayCome}

-- ---- which atoms are events

pub may_be_event : (text : Text) (event : Atom) → MayCome text event → IsEvent text event
may_be_event text event may = record { ground = may.1; kind = ap happens may.0.kind }

pub one_event : (text : Text) (event : Atom) (events : List Atom) → events ≡ event ∷ [] → IsEvent text event → AreEvents text events
one_event text event events are is = record {
  each = λ a at.
      elim (first_or_later event [] a (subst (λ (es : List Atom). Contains es a) are at)) [
        | inl same ↦ subst (IsEvent text) same is
        | inr later ↦ absurd (nothing_contained a later)
      ];
}

-- ---- verdicts

-- the verdict for the least denial that is violated
abbrev verdict_for : Option ℕ → Verdict
verdict_for None = Admitted
verdict_for (Some k) = Rejected k

pub judged_so : (text : Text) (facts before together : List Atom) (event : Atom) (found : Option ℕ) → together ≡ before ++ event ∷ [] →
    InState text facts (λ level trace. IsJudged text level trace together found) → IsVerdictIn text facts before event (verdict_for found)
judged_so text facts before together event None is judged level levels trace state = subst (λ (events : List Atom). IsJudged text level trace events None) is (judged level levels trace state)
judged_so text facts before together event (Some k) is judged level levels trace state = subst (λ (events : List Atom). IsJudged text level trace events (Some k)) is (judged level levels trace state)

-- ---- the events of a batch

-- the events so far are judged: whatever the verdicts on the others are, they make up the verdicts on all
pub record AreSoFar (text : Text) (facts all rest : List Atom) (verdicts : List Verdict) (kept : List Atom) : Type 0 where
  pub judged : InState text facts (λ level trace. (more : List Verdict) → AreJudged text level trace kept rest more → AreJudged text level trace [] all (verdicts ++ more))
  pub kept_are : (more : List Verdict) → admitted all (verdicts ++ more) ≡ kept ++ admitted rest more

pub none_yet : (text : Text) (facts all : List Atom) → AreSoFar text facts all all [] []
none_yet text facts all = record { judged = λ level levels trace state more h. h; kept_are = λ more. refl }

pub one_more : (text : Text) (facts all : List Atom) (event : Atom) (rest : List Atom) (verdicts : List Verdict) (verdict : Verdict) (kept : List Atom) →
    AreSoFar text facts all (event ∷ rest) verdicts kept → IsVerdictIn text facts kept event verdict → AreSoFar text facts all rest (verdicts ++ verdict ∷ []) (kept ++ if_admitted verdict event)
one_more text facts all event rest verdicts verdict kept so_far is = record {
  judged = λ level levels trace state more h.
      subst (AreJudged text level trace [] all) (sym (append_assoc verdicts (verdict ∷ []) more)) (so_far.judged level levels trace state (verdict ∷ more) (is level levels trace state, h));
  kept_are = λ more.
      ap (admitted all) (append_assoc verdicts (verdict ∷ []) more) ∙ so_far.kept_are (verdict ∷ more) ∙ sym (append_assoc kept (if_admitted verdict event) (admitted rest more));
}

pub all_judged : (text : Text) (facts all : List Atom) (verdicts : List Verdict) (kept : List Atom) → AreSoFar text facts all [] verdicts kept → AreAdmitted text facts all verdicts kept
all_judged text facts all verdicts kept so_far = record {
  judged = λ level levels trace state. subst (AreJudged text level trace [] all) (append-nil verdicts) (so_far.judged level levels trace state [] tt);
  kept_are = sym (ap (admitted all) (sym (append-nil verdicts)) ∙ so_far.kept_are [] ∙ append-nil kept);
}

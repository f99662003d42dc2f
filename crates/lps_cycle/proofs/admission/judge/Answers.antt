use Rattle.std.proofs.Common.{◌∙◌, ap, sym, List, ◌++◌, Some, None}
use Rattle.std.proofs.lemmas.List.{append-nil}
use Rattle.lps_terms.specs.declared.atom.Atom.{Atom}
use Rattle.lps_trial.specs.Trial.{TrialState}
use Rattle.lps_cycle.proofs.RoundsJudged.{judged_so, one_event}
use Rattle.lps_cycle.proofs.admission.judge.Goals as goal

pub try_events-requires-clause-events : goal.try_events-requires-clause-events
try_events-requires-clause-events c = one_event c.args.theory.now c.args.event.now c.from_ref.result.now c.from_ref.ensures.value c.requires.event

pub returns-in-Some-clause-verdict : goal.returns-in-Some-clause-verdict
returns-in-Some-clause-verdict c =
    let together = ap (λ (es : List Atom). c.args.trial.now.events ++ es) c.from_ref.ensures.value in
    judged_so c.args.theory.now _ c.args.trial.now.events _ c.args.event.now (Some c.in-Some.denial) together (rw c.in-Some.is at c.in_ok-denial.ensures.judged)

pub returns-in-Some-clause-kept : goal.returns-in-Some-clause-kept
returns-in-Some-clause-kept c = ap (λ (t : TrialState). t.events) (rw c.in-Some.is at c.in_ok-denial.ensures.events) ∙ sym (append-nil c.args.trial.now.events)

pub returns-in-None-clause-verdict : goal.returns-in-None-clause-verdict
returns-in-None-clause-verdict c =
    let together = ap (λ (es : List Atom). c.args.trial.now.events ++ es) c.from_ref.ensures.value in
    judged_so c.args.theory.now _ c.args.trial.now.events _ c.args.event.now None together (rw c.in-None.is at c.in_ok-denial.ensures.judged)

pub returns-in-None-clause-kept : goal.returns-in-None-clause-kept
returns-in-None-clause-kept c = (rw c.in-None.is at c.in_ok-denial.ensures.events) ∙ ap (λ (es : List Atom). c.args.trial.now.events ++ es) c.from_ref.ensures.value

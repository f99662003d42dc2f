use Rattle.std.proofs.Common.{◌∙◌, ◌≡◌, ◌+◌, ap, sym, subst, List, ◌∷◌, ◌++◌, [], drop}
use Rattle.std.specs.List.{AllByRecursion}
use Rattle.std.proofs.lemmas.List.{drop_more, drop_all}
use Rattle.lps_terms.specs.declared.atom.Atom.{Atom}
use Rattle.lps_model.specs.declared.verdict.Verdict.{Verdict}
use Rattle.lps_facts.specs.Facts.{TrailedSet, members}
use Rattle.lps_trial.proofs.Trials.{longer_itself, longer_still}
use Rattle.lps_cycle.specs.Admission.{AreAdmitted, IsVerdictIn, MayCome}
use Rattle.lps_cycle.proofs.RoundsJudged.{AreSoFar, all_judged, may_be_event, none_yet, one_more}
use Rattle.lps_cycle.proofs.admission.admit.Goals as goal

pub returns-in_err-verdicts-clause-longer : goal.returns-in_err-verdicts-clause-longer
returns-in_err-verdicts-clause-longer c = longer_itself c.args.trial.now

pub returns-in_err-verdict-clause-longer : goal.returns-in_err-verdict-clause-longer
returns-in_err-verdict-clause-longer c = longer_still c.args.trial.now c.loop-event.trial c.judge.new.trial c.loop-event.invariant.longer c.judge.ensures.longer

pub returns-in_err-push-clause-longer : goal.returns-in_err-push-clause-longer
returns-in_err-push-clause-longer c = longer_still c.args.trial.now c.loop-event.trial c.judge.new.trial c.loop-event.invariant.longer c.judge.ensures.longer

pub loop-event-init : goal.loop-event-init
loop-event-init c = record {
  trial = c.requires.trial;
  longer = longer_itself c.args.trial.now;
  so_far =
      subst (λ (vs : List Verdict). AreSoFar c.args.theory.now (members c.args.trial.now.state) c.args.events.now c.args.events.now vs c.args.trial.now.events) (sym c.in_ok-verdicts.ensures.items)
      (subst (AreSoFar c.args.theory.now (members c.args.trial.now.state) c.args.events.now c.args.events.now []) (sym c.requires.anew) (none_yet c.args.theory.now (members c.args.trial.now.state) c.args.events.now));
  may = c.requires.events;
}

pub judge-requires-clause-event : goal.judge-requires-clause-event
judge-requires-clause-event c =
    let text = c.args.theory.now in
    let events = c.args.events.now in
    let at = c.loop-event.event-index in
    let event = c.event-item.result in
    let step : drop at events ≡ event ∷ drop (at + 1) events = drop_more events at event c.loop-event-test.true ∙ ap (λ (a : Atom). a ∷ drop (at + 1) events) (sym c.event-item.is) in
    may_be_event text event (subst (AllByRecursion (MayCome text)) step c.loop-event.invariant.may).0

pub loop-event-preserved : goal.loop-event-preserved
loop-event-preserved c =
    let text = c.args.theory.now in
    let events = c.args.events.now in
    let facts = members c.args.trial.now.state in
    let at = c.loop-event.event-index in
    let event = c.event-item.result in
    let rest = drop (at + 1) events in
    let verdict : Verdict = c.in_ok-verdict.verdict in
    let kept = c.loop-event.trial.events in
    let step : drop at events ≡ event ∷ rest = drop_more events at event c.loop-event-test.true ∙ ap (λ (a : Atom). a ∷ rest) (sym c.event-item.is) in
    let may = subst (AllByRecursion (MayCome text)) step c.loop-event.invariant.may in
    let so_far = subst (λ (left : List Atom). AreSoFar text facts events left c.loop-event.verdicts.items kept) step c.loop-event.invariant.so_far in
    let is = subst (λ (f : TrailedSet). IsVerdictIn text (members f) kept event verdict) c.loop-event.invariant.longer.state c.in_ok-verdict.ensures.verdict in
    let next = one_more text facts events event rest c.loop-event.verdicts.items verdict kept so_far is in
    record {
      trial = c.judge.ensures.trial;
      longer = longer_still c.args.trial.now c.loop-event.trial c.judge.new.trial c.loop-event.invariant.longer c.judge.ensures.longer;
      so_far = subst (λ (vs : List Verdict). AreSoFar text facts events rest vs c.judge.new.trial.events) (sym c.in_ok-push.ensures.items)
          (subst (λ (atoms : List Atom). AreSoFar text facts events rest (c.loop-event.verdicts.items ++ verdict ∷ []) atoms) (sym c.in_ok-verdict.ensures.kept) next);
      may = may.1;
    }

pub returns-clause-admitted : goal.returns-clause-admitted
returns-clause-admitted c =
    let text = c.args.theory.now in
    let events = c.args.events.now in
    let facts = members c.args.trial.now.state in
    let none : drop c.loop-event.event-index events ≡ [] = drop_all c.loop-event.event-index events c.loop-event-test.false in
    let so_far = subst (λ (left : List Atom). AreSoFar text facts events left c.loop-event.verdicts.items c.loop-event.trial.events) none c.loop-event.invariant.so_far in
    subst (λ (vs : List Verdict). AreAdmitted text facts events vs c.loop-event.trial.events) (sym c.from_vec.ensures) (all_judged text facts events c.loop-event.verdicts.items c.loop-event.trial.events so_far)

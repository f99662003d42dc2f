use Rattle.std.proofs.Common.{ℕ, List, subst}
use Rattle.std.specs.Prelude.{Option}
use Rattle.std.proofs.lemmas.Result.{IfOk-weaker}
use Rattle.lps_model.specs.Clauses.{clauses}
use Rattle.lps_facts.specs.Facts.{members}
use Rattle.lps_precond.specs.Cut.{Cut, cuts}
use Rattle.lps_precond.specs.Judged.{IsLeast}
use Rattle.lps_precond.proofs.Alike.{are_alike}
use Rattle.lps_precond.proofs.Judging.{judged, none_violated}
use Rattle.lps_precond.proofs.denials.Denials.least_violated.Goals as goal

pub least-requires-clause-ground : goal.least-requires-clause-ground
least-requires-clause-ground c = record {
  events_are = λ a h. (c.requires.events.each a ((c.requires.happened a).0 h)).ground;
  before_are = λ a h. (c.requires.state.each a h).ground;
  after_are = λ a h. (c.requires.next.fluents.each a h).ground;
}

pub returns-clause-judged : goal.returns-clause-judged
returns-clause-judged c =
    let step = c.args.step.now in
    let happened = members step.happened.now in
    let before = members step.before.now in
    let after = members step.after.now in
    IfOk-weaker c.least.result _ _
    (λ found least level levels trace state.
    judged c.args.program.now c.lawful.ensures.accepted c.lawful.ensures.formed level trace step.events.now happened before after
    (are_alike c.args.program.now c.lawful.ensures.accepted level levels trace step.events.now happened before after c.requires.state c.requires.happened c.requires.next state)
    found (subst (λ (denials : List Cut). IsLeast (clauses c.args.program.now) happened before after level denials found) c.requires.denials (least level levels)))
    c.least.ensures

pub returns-clause-allowed : goal.returns-clause-allowed
returns-clause-allowed c =
    let program = clauses c.args.program.now in
    let step = c.args.step.now in
    let happened = members step.happened.now in
    let before = members step.before.now in
    let after = members step.after.now in
    IfOk-weaker c.least.result _ _
    (λ found least none level levels.
    let of_text = subst (λ (denials : List Cut). IsLeast program happened before after level denials found) c.requires.denials (least level levels) in
    none_violated program happened before after level (cuts c.args.program.now)
    (subst (λ (number : Option ℕ). IsLeast program happened before after level (cuts c.args.program.now) number) none of_text))
    c.least.ensures

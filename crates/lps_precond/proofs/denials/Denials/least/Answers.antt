use Rattle.std.proofs.Common.{ℕ, List, sym, subst, inr}
use Rattle.std.specs.Prelude.{◌⊎◌, None}
use Rattle.std.proofs.lemmas.Result.{IfOk-weaker}
use Rattle.lps_facts.specs.Facts.{members}
use Rattle.lps_model.specs.Clauses.{clauses}
use Rattle.lps_precond.specs.Cut.{Cut, cuts}
use Rattle.lps_precond.specs.Judged.{IsLeast, IsLessened}
use Rattle.lps_precond.specs.Stages.{IsAt, IsViolatedBy, IsViolatedByFluent}
use Rattle.lps_precond.proofs.Concerned.{at_new_alone, at_new_or_touched}
use Rattle.lps_precond.proofs.Lessening.{least_is, lessened_then}
use Rattle.lps_precond.proofs.denials.Denials.least.Goals as goal

pub least_concerned-requires-clause-new : goal.least_concerned-requires-clause-new
least_concerned-requires-clause-new c = λ a at. (c.requires.news.split a).1 (inr at)

pub returns-then-not-may_turn : goal.returns-then-not-may_turn
returns-then-not-may_turn c = λ level levels.
    let text = c.args.program.now in
    let program = clauses text in
    let step = c.args.step.now in
    let happened = members step.happened.now in
    let before = members step.before.now in
    let after = members step.after.now in
    let ByNew = λ (denial : Cut). IsViolatedBy program step.new.now happened before after level denial denial.happen in
    let found = c.in_ok-concerned.concerned in
    subst (λ (ds : List Cut). IsLeast program happened before after level ds found) (sym c.requires.denials)
    (least_is program happened before after level (cuts text) (IsAt (cuts text) ByNew) found
    (λ place h. at_new_alone text c.lawful.ensures.accepted c.lawful.ensures.formed level happened before after levels step.events.now step.new.now step.touched.now c.requires.news place h (c.may_turn.ensures c.if-not-may_turn.true))
    (subst (λ (ds : List Cut). IsLessened program happened before after level ds (IsAt ds ByNew) None found) c.requires.denials (c.in_ok-concerned.ensures level levels)))

pub returns : goal.returns
returns c =
    let text = c.args.program.now in
    let program = clauses text in
    let step = c.args.step.now in
    let happened = members step.happened.now in
    let before = members step.before.now in
    let after = members step.after.now in
    IfOk-weaker c.least_turned.result _ _
    (λ found turned level levels.
    let ByNew = λ (denial : Cut). IsViolatedBy program step.new.now happened before after level denial denial.happen in
    let ByTouched = λ (denial : Cut). IsViolatedByFluent program step.touched.now happened before after level denial in
    let Either = λ (ds : List Cut) (place : ℕ). IsAt ds ByNew place ⊎ IsAt ds ByTouched place in
    let both = lessened_then program happened before after level c.args.self.now (IsAt c.args.self.now ByNew) (IsAt c.args.self.now ByTouched) (Either c.args.self.now) None c.in_ok-concerned.concerned found (λ place h. h)
    (c.in_ok-concerned.ensures level levels) (turned level levels) in
    subst (λ (ds : List Cut). IsLeast program happened before after level ds found) (sym c.requires.denials)
    (least_is program happened before after level (cuts text) (Either (cuts text)) found
    (λ place h. at_new_or_touched text c.lawful.ensures.accepted c.lawful.ensures.formed level happened before after levels step.events.now step.new.now step.touched.now c.requires.news place h c.requires.after)
    (subst (λ (ds : List Cut). IsLessened program happened before after level ds (Either ds) None found) c.requires.denials both)))
    c.least_turned.ensures

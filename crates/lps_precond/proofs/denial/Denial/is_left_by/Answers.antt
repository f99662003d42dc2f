use Rattle.std.proofs.Common.{true, ◌≡◌, List, [], ◌∙◌, map, length, sym, ap, subst}
use Rattle.std.specs.Prelude.{◌↔◌}
use Rattle.std.proofs.lemmas.Result.{IfOk-weaker}
use Rattle.lps_terms.specs.declared.values.Values.{Values}
use Rattle.lps_facts.specs.Facts.{members}
use Rattle.lps_model.specs.Clauses.{clauses}
use Rattle.lps_precond.specs.Cut.{Cut}
use Rattle.lps_precond.specs.Stages.{AreFit, HasOne, IsFit, IsLeft, IsMetFrom, firsts_of, vars_of, vars_with}
use Rattle.lps_precond.proofs.Alike.{then_both}
use Rattle.lps_precond.proofs.Asked.{back_ready, front_ready}
use Rattle.lps_precond.proofs.Stages.{empty_is, found_count, given_count, left_by_front, left_is, some_reached}
use Rattle.lps_precond.proofs.denial.Denial.is_left_by.Goals as goal

pub rows-requires-clause-ready : goal.rows-requires-clause-ready
rows-requires-clause-ready c =
    let inside = c.self.inside in
    front_ready c.args.program.now c.lawful.ensures.accepted c.lawful.ensures.formed c.args.self.now c.requires.of_text inside.happen inside.front inside.back c.self.invariant.0 (firsts_of inside.touches.items) inside.is_derived c.self.view_is

pub is_met_by_one-requires-clause-ready : goal.is_met_by_one-requires-clause-ready
is_met_by_one-requires-clause-ready c =
    let inside = c.self.inside in
    back_ready c.args.program.now c.lawful.ensures.accepted c.lawful.ensures.formed c.args.self.now c.requires.of_text inside.happen inside.front inside.back c.self.invariant.0 (firsts_of inside.touches.items) inside.is_derived c.self.view_is

pub rows-requires-clause-ground : goal.rows-requires-clause-ground
rows-requires-clause-ground c = c.requires.ground.before_are

pub rows-requires-clause-row : goal.rows-requires-clause-row
rows-requires-clause-row c =
    let inside = c.self.inside in
    let known = vars_of inside.happen.conds in
    let count = given_count known (vars_with known inside.front.conds) inside.front c.self.invariant.0.front_is ∙ ap (λ (d : Cut). length (vars_of d.happen)) c.self.view_is in
    subst (λ n. IsFit n c.args.row.now) (sym count) c.requires.row

pub is_met_by_one-requires-clause-ground : goal.is_met_by_one-requires-clause-ground
is_met_by_one-requires-clause-ground c = c.requires.ground.after_are

pub is_met_by_one-requires-clause-rows : goal.is_met_by_one-requires-clause-rows
is_met_by_one-requires-clause-rows c =
    let inside = c.self.inside in
    let known = vars_of inside.happen.conds in
    let shared = vars_with known inside.front.conds in
    let count = found_count known shared inside.front c.self.invariant.0.front_is ∙ sym (given_count shared [] inside.back c.self.invariant.0.back_is) in
    subst (λ (values : List Values). AreFit (length inside.back.given) (map (λ v. v.0) values)) (sym c.as_slice.ensures.value)
    (subst (λ n. AreFit n (map (λ v. v.0) c.in_ok-rows.rows.items)) count c.in_ok-rows.ensures.each)

pub returns-then-not-is_late : goal.returns-then-not-is_late
returns-then-not-is_late c = λ level levels.
    let inside = c.self.inside in
    let program = clauses c.args.program.now in
    let before = members c.args.step.now.before.now in
    let row = c.args.row.now in
    then_both
    (some_reached program before level inside.front row (map (λ v. v.0) c.in_ok-rows.rows.items) (c.in_ok-rows.ensures.exact level levels) c.is_empty.result
    (empty_is c.in_ok-rows.rows.items _ c.is_empty.result c.is_empty.ensures c.in_ok-rows.rows.ok.0))
    (left_by_front program before (members c.args.step.now.after.now) level inside.happen inside.front inside.back c.self.invariant.0 c.args.self.now (ap (λ (d : Cut). d.happen) c.self.view_is)
    (ap (λ (d : Cut). d.front) c.self.view_is) (c.is_late.ensures.none c.if-not-is_late.true) row)

pub returns : goal.returns
returns c =
    let inside = c.self.inside in
    let program = clauses c.args.program.now in
    let step = c.args.step.now in
    let before = members step.before.now in
    let after = members step.after.now in
    let row = c.args.row.now in
    let rows = map (λ v. v.0) c.in_ok-rows.rows.items in
    IfOk-weaker c.is_met_by_one.result _ _
    (λ met are level levels.
    then_both
    (subst (λ (values : List Values). (met ≡ true) ↔ HasOne (IsMetFrom program after level inside.back) (map (λ v. v.0) values)) c.as_slice.ensures.value (are level levels))
    (subst (λ (d : Cut). HasOne (IsMetFrom program after level inside.back) rows ↔ IsLeft program before after level d row) c.self.view_is
    (left_is program (members step.happened.now) before after level inside.happen inside.front inside.back c.self.invariant.0 (firsts_of inside.touches.items) inside.is_derived row rows (c.in_ok-rows.ensures.exact level levels))))
    c.is_met_by_one.ensures

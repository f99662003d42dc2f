use Rattle.std.proofs.Common.{true, ◌≡◌, List, map, length, sym, subst}
use Rattle.std.specs.Prelude.{◌↔◌}
use Rattle.std.proofs.lemmas.Result.{IfOk-weaker}
use Rattle.lps_terms.specs.declared.values.Values.{Values}
use Rattle.lps_facts.specs.Facts.{members}
use Rattle.lps_model.specs.Clauses.{clauses}
use Rattle.lps_precond.specs.Stages.{AreFit, HasOne, IsLeft, vars_of}
use Rattle.lps_precond.proofs.Stages.{found_count, with_is}
use Rattle.lps_precond.proofs.denial.Denial.is_violated_with.Goals as goal

pub rows-requires-clause-ground : goal.rows-requires-clause-ground
rows-requires-clause-ground c = c.requires.ground.events_are

pub is_left_by_one-requires-clause-rows : goal.is_left_by_one-requires-clause-rows
is_left_by_one-requires-clause-rows c =
    let start = c.args.start.now in
    let denial = c.args.self.now in
    let count = found_count c.requires.start.is.shared (vars_of denial.happen) start.rest c.requires.start.is.rest_is in
    subst (λ (values : List Values). AreFit (length (vars_of denial.happen)) (map (λ v. v.0) values)) (sym c.as_slice.ensures.value)
    (subst (λ n. AreFit n (map (λ v. v.0) c.in_ok-rows.rows.items)) count c.in_ok-rows.ensures.each)

pub returns : goal.returns
returns c =
    let program = clauses c.args.program.now in
    let step = c.args.step.now in
    let denial = c.args.self.now in
    let events = members step.happened.now in
    let before = members step.before.now in
    let after = members step.after.now in
    let rows = map (λ v. v.0) c.in_ok-rows.rows.items in
    IfOk-weaker c.is_left_by_one.result _ _
    (λ met are level levels.
    with_is program events events before after level denial c.args.start.now c.requires.start.is c.args.row.now rows (c.in_ok-rows.ensures.exact level levels) met
    (subst (λ (values : List Values). (met ≡ true) ↔ HasOne (IsLeft program before after level denial) (map (λ v. v.0) values)) c.as_slice.ensures.value (are level levels)))
    c.is_left_by_one.ensures

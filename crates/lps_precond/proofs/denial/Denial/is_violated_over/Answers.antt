use Rattle.std.proofs.Common.{true, ◌≡◌, List, [], ◌∙◌, map, length, sym, ap, subst}
use Rattle.std.specs.Prelude.{◌↔◌}
use Rattle.std.proofs.lemmas.Result.{IfOk-weaker}
use Rattle.lps_terms.specs.declared.values.Values.{Values}
use Rattle.lps_facts.specs.Facts.{members}
use Rattle.lps_model.specs.Clauses.{clauses}
use Rattle.lps_precond.specs.Cut.{Cut}
use Rattle.lps_precond.specs.Stages.{AreFit, HasOne, IsLeft, IsViolated, firsts_of, vars_of}
use Rattle.lps_precond.proofs.Alike.{then_both}
use Rattle.lps_precond.proofs.Asked.{happen_ready}
use Rattle.lps_precond.proofs.Stages.{found_count, given_count, no_row_fits, violated_is}
use Rattle.lps_precond.proofs.denial.Denial.is_violated_over.Goals as goal

pub rows-requires-clause-ready : goal.rows-requires-clause-ready
rows-requires-clause-ready c =
    let inside = c.self.inside in
    happen_ready c.args.program.now c.lawful.ensures.accepted c.lawful.ensures.formed c.args.self.now c.requires.of_text inside.happen inside.front inside.back c.self.invariant.0 (firsts_of inside.touches.items) inside.is_derived c.self.view_is

pub rows-requires-clause-row : goal.rows-requires-clause-row
rows-requires-clause-row c =
    no_row_fits (length c.self.inside.happen.given) (given_count [] (vars_of c.self.inside.happen.conds) c.self.inside.happen c.self.invariant.0.happen_is)

pub is_left_by_one-requires-clause-rows : goal.is_left_by_one-requires-clause-rows
is_left_by_one-requires-clause-rows c =
    let happen = c.self.inside.happen in
    let count = found_count [] (vars_of happen.conds) happen c.self.invariant.0.happen_is ∙ ap (λ (d : Cut). length (vars_of d.happen)) c.self.view_is in
    subst (λ (values : List Values). AreFit (length (vars_of c.args.self.now.happen)) (map (λ v. v.0) values)) (sym c.as_slice.ensures.value)
    (subst (λ n. AreFit n (map (λ v. v.0) c.in_ok-rows.rows.items)) count c.in_ok-rows.ensures.each)

pub returns : goal.returns
returns c =
    let inside = c.self.inside in
    let program = clauses c.args.program.now in
    let step = c.args.step.now in
    let events = members c.args.events.now in
    let before = members step.before.now in
    let after = members step.after.now in
    let rows = map (λ v. v.0) c.in_ok-rows.rows.items in
    IfOk-weaker c.is_left_by_one.result _ _
    (λ met are level levels.
    then_both
    (subst (λ (values : List Values). (met ≡ true) ↔ HasOne (IsLeft program before after level c.args.self.now) (map (λ v. v.0) values)) c.as_slice.ensures.value (are level levels))
    (subst (λ (d : Cut). HasOne (IsLeft program before after level d) rows ↔ IsViolated program events before after level d) c.self.view_is
    (violated_is program events before after level inside.happen inside.front inside.back c.self.invariant.0 (firsts_of inside.touches.items) inside.is_derived rows (c.in_ok-rows.ensures.exact level levels))))
    c.is_left_by_one.ensures

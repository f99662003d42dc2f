use Rattle.std.proofs.Common.{List, [], ◌∙◌, map, length, sym, subst}
use Rattle.std.proofs.lemmas.Result.{IfOk-weaker}
use Rattle.lps_terms.specs.declared.values.Values.{Values}
use Rattle.lps_facts.specs.Facts.{members}
use Rattle.lps_model.specs.Clauses.{clauses}
use Rattle.lps_precond.specs.Stages.{AreFit, HasOne, IsAnswered, IsViolatedWith, vars_of}
use Rattle.lps_precond.proofs.Stages.{found_count, from_is, given_count, no_row_fits}
use Rattle.lps_precond.proofs.denial.Denial.is_violated_from.Goals as goal

pub rows-requires-clause-row : goal.rows-requires-clause-row
rows-requires-clause-row c =
    let first = c.args.start.now.first in
    no_row_fits (length first.given) (given_count [] c.requires.start.is.shared first c.requires.start.is.first_is)

pub is_violated_with_one-requires-clause-rows : goal.is_violated_with_one-requires-clause-rows
is_violated_with_one-requires-clause-rows c =
    let start = c.args.start.now in
    let shared = c.requires.start.is.shared in
    let count = found_count [] shared start.first c.requires.start.is.first_is ∙ sym (given_count shared (vars_of c.args.self.now.happen) start.rest c.requires.start.is.rest_is) in
    subst (λ (values : List Values). AreFit (length start.rest.given) (map (λ v. v.0) values)) (sym c.as_slice.ensures.value)
    (subst (λ n. AreFit n (map (λ v. v.0) c.in_ok-rows.rows.items)) count c.in_ok-rows.ensures.each)

pub returns : goal.returns
returns c =
    let program = clauses c.args.program.now in
    let step = c.args.step.now in
    let start = c.args.start.now in
    let denial = c.args.self.now in
    let events = members step.happened.now in
    let before = members step.before.now in
    let after = members step.after.now in
    let rows = map (λ v. v.0) c.in_ok-rows.rows.items in
    IfOk-weaker c.is_violated_with_one.result _ _
    (λ met are level levels.
    from_is program (members c.args.new.now) events before after level denial start c.requires.start.is rows (c.in_ok-rows.ensures.exact level levels) met
    (subst (λ (values : List Values). IsAnswered program events before after level denial (HasOne (IsViolatedWith program events before after level denial start.rest.given) (map (λ v. v.0) values)) met) c.as_slice.ensures.value (are level levels)))
    c.is_violated_with_one.ensures

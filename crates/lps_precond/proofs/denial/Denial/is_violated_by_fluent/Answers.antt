use Rattle.std.proofs.Common.{List, sym, subst, ap, ◌∙◌}
use Rattle.std.proofs.lemmas.Result.{IfOk-weaker}
use Rattle.lps_facts.specs.Facts.{members}
use Rattle.lps_model.specs.Clauses.{clauses}
use Rattle.lps_precond.specs.declared.start.Start.{Start}
use Rattle.lps_precond.specs.Cut.{Cut}
use Rattle.lps_precond.specs.Stages.{AreStarts}
use Rattle.lps_precond.proofs.Asked.{free_touches}
use Rattle.lps_precond.proofs.Starts.{by_all, by_starts, by_touches, starts_ready}
use Rattle.lps_precond.proofs.denial.Denial.is_violated_by_fluent.Goals as goal

pub is_violated_from_one-requires-clause-starts : goal.is_violated_from_one-requires-clause-starts
is_violated_from_one-requires-clause-starts c =
    let text = c.args.program.now in
    let denial = c.args.self.now in
    let are = subst (λ (d : Cut). AreStarts d.happen d.touches c.self.inside.touches.items) c.self.view_is c.self.invariant.2 in
    starts_ready text c.lawful.ensures.accepted c.lawful.ensures.formed denial c.requires.of_text denial.touches (free_touches text c.lawful.ensures.accepted c.lawful.ensures.formed denial c.requires.of_text) c.as_slice.result.now
    (subst (λ (starts : List Start). AreStarts denial.happen denial.touches starts) (sym c.as_slice.ensures.value) are)

pub returns : goal.returns
returns c =
    let program = clauses c.args.program.now in
    let step = c.args.step.now in
    let denial = c.args.self.now in
    let new = members c.args.new.now in
    let events = members step.happened.now in
    let before = members step.before.now in
    let after = members step.after.now in
    let are = subst (λ (d : Cut). AreStarts d.happen d.touches c.self.inside.touches.items) c.self.view_is c.self.invariant.2 in
    IfOk-weaker c.is_violated_from_one.result _ _
    (λ met answered level levels.
    by_touches program new events before after level denial (ap (λ (d : Cut). d.is_derived) (sym c.self.view_is) ∙ c.if-self.false) met
    (by_starts program new events before after level denial denial.touches c.as_slice.result.now
    (subst (λ (starts : List Start). AreStarts denial.happen denial.touches starts) (sym c.as_slice.ensures.value) are) met (answered level levels)))
    c.is_violated_from_one.ensures

pub returns-then-self : goal.returns-then-self
returns-then-self c =
    let step = c.args.step.now in
    IfOk-weaker c.is_violated_over.result _ _
    (λ met are level levels.
    by_all (clauses c.args.program.now) (members c.args.new.now) (members step.happened.now) (members step.before.now) (members step.after.now) level c.args.self.now met (are level levels))
    c.is_violated_over.ensures

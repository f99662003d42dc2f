use Rattle.std.proofs.Common.{List, ◌∙◌, ap, length, sym, subst}
use Rattle.std.proofs.lemmas.Result.{IfOk-weaker}
use Rattle.lps_facts.specs.Facts.{members}
use Rattle.lps_model.specs.Clauses.{clauses}
use Rattle.lps_precond.specs.declared.start.Start.{Start}
use Rattle.lps_precond.specs.Cut.{Cut}
use Rattle.lps_precond.specs.Stages.{AreStarts}
use Rattle.lps_precond.proofs.Asked.{event_conds, free_events}
use Rattle.lps_precond.proofs.News.{over_new}
use Rattle.lps_precond.proofs.Starts.{by_starts, starts_ready}
use Rattle.lps_precond.proofs.denial.Denial.is_violated_by_event.Goals as goal

pub is_violated_from_one-requires-clause-starts : goal.is_violated_from_one-requires-clause-starts
is_violated_from_one-requires-clause-starts c =
    let text = c.args.program.now in
    let denial = c.args.self.now in
    let are = subst (λ (d : Cut). AreStarts d.happen d.happen c.self.inside.starts.items) c.self.view_is c.self.invariant.1 in
    starts_ready text c.lawful.ensures.accepted c.lawful.ensures.formed denial c.requires.of_text denial.happen (free_events text c.lawful.ensures.accepted c.lawful.ensures.formed denial c.requires.of_text) c.as_slice.result.now
    (subst (λ (starts : List Start). AreStarts denial.happen denial.happen starts) (sym c.as_slice.ensures.value) are)

pub returns : goal.returns
returns c =
    let step = c.args.step.now in
    let denial = c.args.self.now in
    let are = subst (λ (d : Cut). AreStarts d.happen d.happen c.self.inside.starts.items) c.self.view_is c.self.invariant.1 in
    IfOk-weaker c.is_violated_from_one.result _ _
    (λ met answered level levels.
    by_starts (clauses c.args.program.now) (members c.args.new.now) (members step.happened.now) (members step.before.now) (members step.after.now) level denial denial.happen c.as_slice.result.now
    (subst (λ (starts : List Start). AreStarts denial.happen denial.happen starts) (sym c.as_slice.ensures.value) are) met (answered level levels))
    c.is_violated_from_one.ensures

pub returns-then-len-eq1 : goal.returns-then-len-eq1
returns-then-len-eq1 c =
    let text = c.args.program.now in
    let step = c.args.step.now in
    let denial = c.args.self.now in
    IfOk-weaker c.is_violated_over.result _ _
    (λ met are level levels.
    over_new text c.lawful.ensures.accepted level (members c.args.new.now) (members step.happened.now) (members step.before.now) (members step.after.now) c.requires.new denial
    (event_conds text c.lawful.ensures.accepted c.lawful.ensures.formed denial c.requires.of_text) (ap (λ (d : Cut). length d.happen) (sym c.self.view_is) ∙ sym c.len.ensures ∙ c.if-len-eq1.true) met (are level levels))
    c.is_violated_over.ensures

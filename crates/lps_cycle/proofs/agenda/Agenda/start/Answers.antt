use Rattle.std.proofs.Common.{List, arith, sym, subst}
use Rattle.lps_facts.specs.Facts.{members}
use Rattle.lps_meaning.specs.declared.goal.GoalKey.{GoalKey}
use Rattle.lps_antecedents.specs.Waiting.{StandAtFirst}
use Rattle.lps_cycle.specs.Agenda.{AreKeysOfGoals}
use Rattle.lps_cycle.proofs.Agendas.{begins_with, of_goals}
use Rattle.lps_cycle.proofs.agenda.Agenda.start.Goals as goal

pub renew-requires-clause-keys : goal.renew-requires-clause-keys
renew-requires-clause-keys c =
    let some = c.requires.some in
    let waits = c.in_ok-waiting.ensures.stands some.0 some.1 some.2 some.3 in
    subst (AreKeysOfGoals c.args.program.now) (sym c.as_slice.ensures.value) (of_goals c.args.program.now some.0 some.2 0 c.in_ok-waiting.keys.items (omega arith) waits.1)

pub returns-clause-begins : goal.returns-clause-begins
returns-clause-begins c =
    let text = c.args.program.now in
    let facts = members c.args.facts.now in
    let waiting = c.in_ok-waiting.waiting in
    begins_with text 100 facts c.as_slice.result.now c.new-goals.result.pursuit (record { waiting = waiting; goals = c.renew.new.goals }) c.in_ok-told.told.created.items c.in_ok-told.told.closed.items
    (λ level trace. c.new-goals.ensures.pursues text level trace 100)
    (subst (λ (keys : List GoalKey). StandAtFirst text facts waiting.held keys) (sym c.as_slice.ensures.value) c.in_ok-waiting.ensures.stands) c.in_ok-told.ensures.renews

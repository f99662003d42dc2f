use Rattle.std.proofs.Common.{List, ◌≡◌, ap, sym, subst}
use Rattle.lps_facts.specs.Facts.{members}
use Rattle.lps_meaning.specs.declared.goal.GoalKey.{GoalKey}
use Rattle.lps_antecedents.specs.Waiting.{IsReadyWaiting, StandAfter, WaitingNodes}
use Rattle.lps_goaltrees.specs.Pursued.{Pursued}
use Rattle.lps_cycle.specs.Agenda.{AgendaState, AreKeysOfGoals, IsPursuedOn}
use Rattle.lps_cycle.proofs.Agendas.{goes_on, of_goals}
use Rattle.lps_cycle.proofs.agenda.Agenda.go_on.Goals as goal

pub advance-requires-clause-ready : goal.advance-requires-clause-ready
advance-requires-clause-ready c = subst (IsReadyWaiting c.args.program.now) (sym (ap (λ (a : AgendaState). a.waiting) c.self.view_is)) c.requires.ready.waiting

pub pursue-requires-clause-keys : goal.pursue-requires-clause-keys
pursue-requires-clause-keys c =
    let text = c.args.program.now in
    let some = c.requires.some in
    let reached = some.3 in
    let waited : c.self.inside.waiting ≡ c.args.self.now.waiting = ap (λ (a : AgendaState). a.waiting) c.self.view_is in
    let after = subst (λ (w : WaitingNodes). StandAfter text c.args.time (members c.args.facts.now) c.args.events.now w.held c.advance.new.self.held c.in_ok-keys.keys.items) waited c.in_ok-keys.ensures.stands in
    let waits = after some.0 some.1 some.2 reached.now reached.after reached.state reached.happening reached.stands.waiting in
    subst (AreKeysOfGoals text) (sym c.as_slice.ensures.value) (of_goals text some.0 some.2 c.args.time c.in_ok-keys.keys.items c.requires.time.1 waits.1)

pub returns-in-Ok-clause-goes_on : goal.returns-in-Ok-clause-goes_on
returns-in-Ok-clause-goes_on c =
    let text = c.args.program.now in
    let facts = members c.args.facts.now in
    let events = c.args.events.now in
    let keys = c.as_slice.result.now in
    let new : AgendaState = record { waiting = c.advance.new.self; goals = c.pursue.new.goals } in
    let told = c.in-Ok.told in
    let waited : c.self.inside.waiting ≡ c.args.self.now.waiting = ap (λ (a : AgendaState). a.waiting) c.self.view_is in
    let pursued : c.self.inside.goals ≡ c.args.self.now.goals = ap (λ (a : AgendaState). a.goals) c.self.view_is in
    goes_on text 100 facts c.args.time events keys c.args.self.now new told.created.items told.closed.items
    (subst (λ (keys : List GoalKey). StandAfter text c.args.time facts events c.args.self.now.waiting.held new.waiting.held keys) (sym c.as_slice.ensures.value)
    (subst (λ (w : WaitingNodes). StandAfter text c.args.time facts events w.held new.waiting.held c.in_ok-keys.keys.items) waited c.in_ok-keys.ensures.stands))
    (subst (λ (p : Pursued). IsPursuedOn text 100 c.args.time facts events keys p.pursuit new.goals.pursuit told.created.items told.closed.items) pursued c.in-Ok.ensures.pursues)

pub returns-clause-ready : goal.returns-clause-ready
returns-clause-ready c = record { waiting = c.undo.ensures.ready c.args.program.now c.advance.ensures.ready; goals = c.pursue.ensures.ready; settled = c.pursue.ensures.settled }

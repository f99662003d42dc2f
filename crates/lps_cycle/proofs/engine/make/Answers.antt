use Rattle.std.proofs.Common.{◌≡◌, ◌∙◌, ◌+◌, [], List, refl, sym, ap, subst}
use Rattle.lps_terms.specs.declared.atom.Atom.{Atom}
use Rattle.lps_terms.specs.declared.text.Text.{Text}
use Rattle.lps_sizes.specs.Sizes.{cycle_size}
use Rattle.lps_goaltrees.specs.Pursued.{Pursued}
use Rattle.lps_cycle.specs.Agenda.{IsReadyAgenda}
use Rattle.lps_cycle.specs.Making.{IsMade, IsNotMade, IsNotSettled, not_made, sizes_with}
use Rattle.lps_cycle.specs.Round.{RoundState}
use Rattle.lps_cycle.proofs.Making.{made_there, not_made_there, reached_there, ready_back}
use Rattle.lps_cycle.proofs.engine.make.Goals as goal

pub go_on-requires-clause-some : goal.go_on-requires-clause-some
go_on-requires-clause-some c =
    let decided = c.in_ok-verdicts.ensures in
    reached_there c.args.round.now.text c.args.round.now.facts c.as_slice-batch.result.now c.in_ok-verdicts.verdicts c.decide.new.self decided.text decided.facts decided.events c.lawful.ensures.next
    c.program.result.now _ c.events-2.result.now c.program.ensures c.next.ensures c.events-2.ensures
    c.waiting_law.ensures c.pursuit_law.ensures c.lawful.ensures.accepted c.args.time c.args.agenda.now c.requires.run

pub returns-in-Ok-clause-made : goal.returns-in-Ok-clause-made
returns-in-Ok-clause-made c =
    let decided = c.in_ok-verdicts.ensures in
    let created = c.in_ok-told.told.created.items in
    let closed = c.in_ok-told.told.closed.items in
    subst (λ (es : List Atom). IsMade c.args.round.now.text 100 c.args.manner.prefer c.args.time c.args.round.now.facts c.settle.new.round.facts c.args.agenda.now c.go_on.new.self es c.in_ok-verdicts.verdicts c.in-Ok.picks created closed) c.as_slice-batch.ensures
    (made_there c.args.round.now.text c.args.round.now.facts c.as_slice-batch.result.now c.in_ok-verdicts.verdicts c.decide.new.self decided.text decided.facts decided.events c.lawful.ensures.next
    c.program.result.now _ c.events-2.result.now c.program.ensures c.next.ensures c.events-2.ensures
    c.args.manner.prefer c.args.time c.args.agenda.now c.go_on.new.self created closed c.in-Ok.picks c.settle.new.round.facts
    c.in-Ok.ensures.picks c.in-Ok.ensures.facts (decided.decided c.args.agenda.now.goals.pursuit (ap (λ (p : Pursued). p.pursuit.goals) (sym c.goals.ensures))) c.in_ok-told.ensures.goes_on)

pub returns-in-Ok-clause-within : goal.returns-in-Ok-clause-within
returns-in-Ok-clause-within c = (c.in-Ok.ensures.within c.go_on.new.self c.symbols-kept.ensures).0

pub returns-in-Ok-clause-log : goal.returns-in-Ok-clause-log
returns-in-Ok-clause-log c =
    (c.in-Ok.ensures.within c.go_on.new.self c.symbols-kept.ensures).1 ∙ (λ i. c.args.tally.now.log + cycle_size (record { events = c.as_slice-batch.ensures i; verdicts = []; picks = c.in-Ok.picks }))

pub returns-in-Err-clause-ready : goal.returns-in-Err-clause-ready
returns-in-Err-clause-ready c =
    let text = c.args.round.now.text in
    let later = subst (λ (t : Text). IsReadyAgenda t c.go_on.new.self) (c.program.ensures ∙ c.in_ok-verdicts.ensures.text) c.in_ok-told.ensures.ready in
    ready_back text c.go_on.new.self c.undo.new.self later (c.undo.ensures.waiting text) (c.undo.ensures.ready text) c.undo.ensures.settled

pub returns-in-Err-clause-over : goal.returns-in-Err-clause-over
returns-in-Err-clause-over c =
    let decided = c.in_ok-verdicts.ensures in
    let text = c.args.round.now.text in
    let before = c.args.round.now.facts in
    let round = c.decide.new.self in
    let old = c.args.agenda.now in
    let new = c.go_on.new.self in
    let verdicts = c.in_ok-verdicts.verdicts in
    let created = c.in_ok-told.told.created.items in
    let closed = c.in_ok-told.told.closed.items in
    let log = c.args.tally.now.log in
    let made : IsMade text 100 c.args.manner.prefer c.args.time before round.next old new c.args.events verdicts round.picks created closed =
    subst (λ (es : List Atom). IsMade text 100 c.args.manner.prefer c.args.time before round.next old new es verdicts round.picks created closed) c.as_slice-batch.ensures
    (made_there text before c.as_slice-batch.result.now verdicts round decided.text decided.facts decided.events c.lawful.ensures.next
    c.program.result.now _ c.events-2.result.now c.program.ensures c.next.ensures c.events-2.ensures
    c.args.manner.prefer c.args.time old new created closed round.picks round.next refl refl (decided.decided old.goals.pursuit (ap (λ (p : Pursued). p.pursuit.goals) (sym c.goals.ensures))) c.in_ok-told.ensures.goes_on) in
    let over : IsNotSettled c.args.manner.keep (sizes_with round.next new log c.args.events round.picks) c.in-Err.error =
    subst (λ (es : List Atom). IsNotSettled c.args.manner.keep (sizes_with round.next new log es round.picks) c.in-Err.error) c.as_slice-batch.ensures (c.in-Err.ensures.over new c.symbols-kept.ensures) in
    let picks : round.picks ≡ c.clear-picks.result = sym (c.clear-picks.ensures.picks ∙ ap (λ (r : RoundState). r.picks) c.in-Err.ensures.err) in
    subst (IsNotMade text 100 c.args.manner.prefer c.args.manner.keep c.args.time log before old c.args.events)
    ((λ i. not_made c.in-Err.error (c.args.time + 1) (record { events = c.args.events; verdicts = verdicts; picks = picks i })) ∙ sym c.not_made.ensures)
    (not_made_there text c.args.manner.prefer c.args.manner.keep c.args.time log before round.next old new c.args.events verdicts round.picks created closed made c.in-Err.error over)

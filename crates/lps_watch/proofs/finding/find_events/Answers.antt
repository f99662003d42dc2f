use Rattle.std.proofs.Common.{List, subst}
use Rattle.std.proofs.lemmas.List.{take_all}
use Rattle.lps_terms.specs.declared.atom.Atom.{Atom}
use Rattle.lps_watch.proofs.Events.{FoundBy, found_by_more}
use Rattle.lps_watch.proofs.finding.find_events.Goals as goal

pub loop-event-preserved : goal.loop-event-preserved
loop-event-preserved c =
    found_by_more c.args.wakes.now.keys c.args.found.now.keys c.loop-event.found.keys c.find_event.new.found.keys c.args.events.now c.loop-event.event-index c.event-item.result c.loop-event-test.true c.event-item.is
    c.loop-event.invariant c.in_ok-find_event.ensures

pub returns : goal.returns
returns c =
    subst (λ (events : List Atom). FoundBy c.args.wakes.now.keys c.args.found.now.keys c.loop-event.found.keys events) (take_all c.loop-event.event-index c.args.events.now c.loop-event-test.false)
    c.loop-event.invariant

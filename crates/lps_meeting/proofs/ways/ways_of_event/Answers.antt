use Rattle.std.proofs.Common.{[], map, ap, arith}
use Rattle.lps_terms.specs.declared.atom.Atom.{Atom}
use Rattle.lps_facts.specs.Facts.{members}
use Rattle.lps_meaning.specs.declared.when.When.TheVariants.{Known}
use Rattle.lps_model.specs.Clauses.{clauses}
use Rattle.lps_solve.proofs.Gaining.{ByOne-all, ByOne-more}
use Rattle.lps_meeting.specs.Steps.{IsRowOfEvent}
use Rattle.lps_meeting.proofs.Rows.{event_ways}
use Rattle.lps_meeting.proofs.ways.ways_of_event.Goals as goal

pub loop-event-preserved : goal.loop-event-preserved
loop-event-preserved c =
    ByOne-more c.loop-event.event-index c.args.moment.now.events.now c.event-item.result (IsRowOfEvent c.args.atom.now) [] (map (λ v. v.0) c.loop-event.rows.items)
    (map (λ v. v.0) c.add_row.new.rows.items) c.loop-event-test.true c.event-item.is c.loop-event.invariant c.in_ok-add_row.ensures

pub returns : goal.returns
returns c =
    event_ways (clauses c.args.moment.now.program.now) (members c.args.moment.now.facts.now) c.args.moment.now.events.now c.args.moment.now.variables c.args.atom.now (Known 0) (Known 0) _
    c.requires.events c.requires.below (ap (λ (a : Atom). a.args) c.in_ok-terms.ensures)
    (ByOne-all c.loop-event.event-index c.args.moment.now.events.now (IsRowOfEvent c.args.atom.now) [] (map (λ v. v.0) c.loop-event.rows.items) (omega arith) c.loop-event.invariant)

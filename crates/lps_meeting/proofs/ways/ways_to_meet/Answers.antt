use Rattle.lps_model.specs.Clauses.{clauses}
use Rattle.lps_facts.specs.Facts.{members}
use Rattle.lps_meeting.proofs.Rows.{at_found, span_found}
use Rattle.lps_meeting.proofs.ways.ways_to_meet.Goals as goal

pub returns-in-At-clause-ways : goal.returns-in-At-clause-ways
returns-in-At-clause-ways c =
    at_found (clauses c.args.moment.now.program.now) (members c.args.moment.now.facts.now) c.args.moment.now.events.now c.args.moment.now.variables c.ways_of_lit.result c.args.item.now c.in-At.lit
    c.in-At.field-1 c.in-At.is c.ways_of_lit.ensures.ways

pub returns-in-Span-clause-ways : goal.returns-in-Span-clause-ways
returns-in-Span-clause-ways c =
    span_found (clauses c.args.moment.now.program.now) (members c.args.moment.now.facts.now) c.args.moment.now.events.now c.args.moment.now.variables c.ways_of_event.result c.args.item.now c.in-Span.atom
    c.in-Span.field-1 c.in-Span.field-2 c.in-Span.is c.ways_of_event.ensures

use Rattle.std.proofs.Common.{arith}
use Rattle.lps_meeting.proofs.SettingTimes.{at_set, span_is_set}
use Rattle.lps_meeting.proofs.times.set_times.Goals as goal

pub returns-in-At-clause-set : goal.returns-in-At-clause-set
returns-in-At-clause-set c = at_set c.set.result c.args.whens.now.items c.set.new.whens.items c.args.time c.args.item.now c.in-At.field-0 c.in-At.at c.in-At.is c.set.ensures.set

pub returns-in-At-clause-early : goal.returns-in-At-clause-early
returns-in-At-clause-early c = c.set.ensures.early c.args.time (omega arith)

pub returns-in-Span-clause-set : goal.returns-in-Span-clause-set
returns-in-Span-clause-set c =
    span_is_set c.set_span.result c.args.whens.now.items c.set_span.new.whens.items c.args.time c.args.item.now c.in-Span.field-0 c.in-Span.from c.in-Span.to c.in-Span.is c.set_span.ensures.set

pub returns-in-Span-clause-early : goal.returns-in-Span-clause-early
returns-in-Span-clause-early c = c.set_span.ensures.early c.args.time (omega arith)

use Rattle.std.proofs.Common.{take}
use Rattle.lps_watch.proofs.Events.{FoundBy}
use Rattle.lps_watch.proofs.finding.find_events.Given as goal

-- what is found by the events so far
abbrev pub invariant-loop-event : goal.invariant-loop-event
invariant-loop-event l = FoundBy l.wakes.keys l.fn.found.keys l.found.keys (take l.event-index l.events)

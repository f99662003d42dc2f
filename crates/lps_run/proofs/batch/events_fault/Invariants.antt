use Rattle.std.proofs.Common.{◌≡◌, drop}
use Rattle.lps_run.specs.Judged.{events_fault}
use Rattle.lps_run.proofs.batch.events_fault.Given as goal

-- the events so far have no fault
abbrev pub invariant-loop-event : goal.invariant-loop-event
invariant-loop-event l = events_fault l.text (drop l.event-index l.events) ≡ events_fault l.text l.events

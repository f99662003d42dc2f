use Rattle.std.proofs.Common.{[], map, take}
use Rattle.lps_solve.specs.Found.{ByOne, Gains}
use Rattle.lps_meeting.specs.Steps.{IsRowOfEvent}
use Rattle.lps_meeting.proofs.ways.ways_of_event.Given as goal

abbrev pub invariant-loop-event : goal.invariant-loop-event
invariant-loop-event l = Gains [] (map (λ v. v.0) l.rows.items) (ByOne (take l.event-index l.event-items) (IsRowOfEvent l.atom))

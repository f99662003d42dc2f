use Rattle.lps_meeting.specs.Steps.{AreUnknown}
use Rattle.lps_meeting.proofs.times.unknown_times.Given as goal

abbrev pub invariant-loop-number : goal.invariant-loop-number
invariant-loop-number l = AreUnknown l.number l.whens.items

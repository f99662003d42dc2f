use Rattle.lps_meeting.specs.Steps.{AreResolved}
use Rattle.lps_meeting.proofs.values.resolved_values.Given as goal

abbrev pub invariant-loop-variable : goal.invariant-loop-variable
invariant-loop-variable l = AreResolved l.variable l.bindings l.values.items

use Rattle.std.proofs.Common.{drop}
use Rattle.std.specs.List.{AllByRecursion}
use Rattle.lps_facts.specs.Facts.{members}
use Rattle.lps_trial.specs.Trial.{IsLonger, IsTrial}
use Rattle.lps_cycle.specs.Admission.{MayCome}
use Rattle.lps_cycle.proofs.RoundsJudged.{AreSoFar}
use Rattle.lps_cycle.proofs.admission.admit.Given as goal

abbrev pub invariant-loop-event : goal.invariant-loop-event
invariant-loop-event l = record {
  trial : IsTrial l.theory l.trial;
  longer : IsLonger l.fn.trial l.trial;
  so_far : AreSoFar l.theory (members l.fn.trial.state) l.events (drop l.event-index l.events) l.verdicts.items l.trial.events;
  may : AllByRecursion (MayCome l.theory) (drop l.event-index l.events);
}

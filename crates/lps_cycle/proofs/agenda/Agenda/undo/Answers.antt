use Rattle.std.proofs.Common.{ap, sym, subst}
use Rattle.lps_antecedents.specs.Waiting.{IsReadyWaiting}
use Rattle.lps_goaltrees.specs.Pursued.{IsReadyPursued}
use Rattle.lps_cycle.specs.Agenda.{AgendaState}
use Rattle.lps_cycle.proofs.agenda.Agenda.undo.Goals as goal

pub returns-clause-waiting : goal.returns-clause-waiting
returns-clause-waiting c = λ text ready. c.undo.ensures.ready text (subst (IsReadyWaiting text) (sym (ap (λ (a : AgendaState). a.waiting) c.self.view_is)) ready)

pub returns-clause-ready : goal.returns-clause-ready
returns-clause-ready c = λ text ready. c.undo-2.ensures.ready text (subst (IsReadyPursued text) (sym (ap (λ (a : AgendaState). a.goals) c.self.view_is)) ready)

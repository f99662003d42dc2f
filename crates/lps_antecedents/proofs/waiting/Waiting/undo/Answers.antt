use Rattle.std.proofs.Common.{ap, subst, sym}
use Rattle.lps_antecedents.specs.Buckets.{AreReadyIn}
use Rattle.lps_antecedents.specs.Waiting.{WaitingNodes}
use Rattle.lps_antecedents.proofs.waiting.Waiting.undo.Goals as goal

pub returns-clause-ready : goal.returns-clause-ready
returns-clause-ready c = λ text ready. subst (AreReadyIn text) (sym c.restore.ensures.kept) (subst (AreReadyIn text) (sym (ap (λ (w : WaitingNodes). w.kept) c.self.view_is)) ready)

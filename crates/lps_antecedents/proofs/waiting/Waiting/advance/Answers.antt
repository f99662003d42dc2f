use Rattle.std.proofs.Common.{ap, subst, sym}
use Rattle.lps_antecedents.specs.Buckets.{AreReadyIn}
use Rattle.lps_antecedents.specs.Waiting.{WaitingNodes}
use Rattle.lps_antecedents.proofs.waiting.Waiting.advance.Goals as goal

pub advance-advanced-requires-clause-ready : goal.advance-advanced-requires-clause-ready
advance-advanced-requires-clause-ready c =
    c.settle.ensures.ready c.args.program.now (subst (AreReadyIn c.args.program.now) (sym (ap (λ (w : WaitingNodes). w.kept) c.self.view_is)) c.requires.ready)

pub returns-then-is_err-clause-ready : goal.returns-then-is_err-clause-ready
returns-then-is_err-clause-ready c = subst (AreReadyIn c.args.program.now) (sym c.restore.ensures.kept) c.advance-advanced.ensures.ready

use Rattle.std.proofs.Common.{ap, arith, length}
use Rattle.lps_trial.specs.Trial.{Moment, TrialState}
use Rattle.lps_trial.proofs.trial.Trial.undo_to.Goals as goal

pub undo_to-requires : goal.undo_to-requires
undo_to-requires c = record { mark = omega (arith, c.requires.next, ap (λ (t : TrialState). length t.next.changes) c.self.view_is, ap (λ (m : Moment). m.next) c.mark.view_is) }

pub undo_to-requires-2 : goal.undo_to-requires-2
undo_to-requires-2 c = record { mark = omega (arith, c.requires.begun, ap (λ (t : TrialState). length t.begun.changes) c.self.view_is, ap (λ (m : Moment). m.begun) c.mark.view_is) }

pub undo_to-requires-3 : goal.undo_to-requires-3
undo_to-requires-3 c = record { mark = omega (arith, c.requires.happened, ap (λ (t : TrialState). length t.happened.changes) c.self.view_is, ap (λ (m : Moment). m.happened) c.mark.view_is) }

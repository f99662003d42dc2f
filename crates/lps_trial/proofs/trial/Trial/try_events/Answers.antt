use Rattle.std.proofs.Common.{sym, subst, ap, ◌∙◌}
use Rattle.lps_trial.specs.Trial.{IsLonger, IsMoment, IsTrial, Moment, back_at}
use Rattle.lps_trial.proofs.Trials.{is_moment, longer_itself, taken_back}
use Rattle.lps_trial.proofs.trial.Trial.try_events.Goals as goal

pub undo_to-requires : goal.undo_to-requires
undo_to-requires c = subst (λ (m : Moment). IsMoment m c.tried.new.self) (sym c.mark-mark.ensures) (is_moment c.args.self.now c.tried.new.self c.tried.ensures.longer)

pub undo_to-requires-in-Err : goal.undo_to-requires-in-Err
undo_to-requires-in-Err c = subst (λ (m : Moment). IsMoment m c.tried.new.self) (sym c.mark-mark.ensures) (is_moment c.args.self.now c.tried.new.self c.tried.ensures.longer)

pub returns-in-Ok-None-clause-judged : goal.returns-in-Ok-None-clause-judged
returns-in-Ok-None-clause-judged c = rw c.in-Ok-None.field-0-is at c.in-Ok-None.ensures.judged

pub returns-in-Ok-Some-clause-trial : goal.returns-in-Ok-Some-clause-trial
returns-in-Ok-Some-clause-trial c =
    let back = c.undo_to.ensures ∙ ap (λ (m : Moment). back_at m c.tried.new.self) c.mark-mark.ensures ∙ taken_back c.args.self.now c.tried.new.self c.tried.ensures.longer in
    subst (IsTrial c.args.theory.now) (sym back) c.requires.trial

pub returns-in-Ok-Some-clause-judged : goal.returns-in-Ok-Some-clause-judged
returns-in-Ok-Some-clause-judged c = rw c.in-Ok-Some.field-0-is at c.in-Ok-Some.ensures.judged

pub returns-in-Ok-Some-clause-events : goal.returns-in-Ok-Some-clause-events
returns-in-Ok-Some-clause-events c =
    c.undo_to.ensures ∙ ap (λ (m : Moment). back_at m c.tried.new.self) c.mark-mark.ensures ∙ taken_back c.args.self.now c.tried.new.self c.tried.ensures.longer

pub returns-in-Ok-Some-clause-longer : goal.returns-in-Ok-Some-clause-longer
returns-in-Ok-Some-clause-longer c =
    let back = c.undo_to.ensures ∙ ap (λ (m : Moment). back_at m c.tried.new.self) c.mark-mark.ensures ∙ taken_back c.args.self.now c.tried.new.self c.tried.ensures.longer in
    subst (IsLonger c.args.self.now) (sym back) (longer_itself c.args.self.now)

pub returns-in-Err-clause-trial : goal.returns-in-Err-clause-trial
returns-in-Err-clause-trial c =
    let back = c.undo_to-in-Err.ensures ∙ ap (λ (m : Moment). back_at m c.tried.new.self) c.mark-mark.ensures ∙ taken_back c.args.self.now c.tried.new.self c.tried.ensures.longer in
    subst (IsTrial c.args.theory.now) (sym back) c.requires.trial

pub returns-in-Err-clause-err : goal.returns-in-Err-clause-err
returns-in-Err-clause-err c =
    c.undo_to-in-Err.ensures ∙ ap (λ (m : Moment). back_at m c.tried.new.self) c.mark-mark.ensures ∙ taken_back c.args.self.now c.tried.new.self c.tried.ensures.longer

pub returns-in-Err-clause-longer : goal.returns-in-Err-clause-longer
returns-in-Err-clause-longer c =
    let back = c.undo_to-in-Err.ensures ∙ ap (λ (m : Moment). back_at m c.tried.new.self) c.mark-mark.ensures ∙ taken_back c.args.self.now c.tried.new.self c.tried.ensures.longer in
    subst (IsLonger c.args.self.now) (sym back) (longer_itself c.args.self.now)

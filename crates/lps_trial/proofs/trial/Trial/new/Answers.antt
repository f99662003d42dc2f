use Rattle.std.proofs.Common.{◌≡◌, sym, subst}
use Rattle.lps_trial.specs.Trial.{IsTrial, TrialState, trial_in}
use Rattle.lps_trial.proofs.Trials.{is_first}
use Rattle.lps_trial.proofs.trial.Trial.new.Goals as goal

pub returns-clause-trial : goal.returns-clause-trial
returns-clause-trial c =
    let made : TrialState = record { state = c.args.state; next = c.args.next; begun = c.new.result; ended = c.new-2.result.items; events = c.new-3.result.items; happened = c.new-4.result } in
    let same : made ≡ trial_in c.args.state = λ i. record { state = c.args.state; next = c.requires i; begun = record { base = c.new.ensures.base i; changes = c.new.ensures.changes i }; ended = c.new-2.ensures.items i; events = c.new-3.ensures.items i; happened = record { base = c.new-4.ensures.base i; changes = c.new-4.ensures.changes i } } in
    λ text fluents. subst (IsTrial text) (sym same) (is_first text c.args.state fluents c.lawful.ensures)

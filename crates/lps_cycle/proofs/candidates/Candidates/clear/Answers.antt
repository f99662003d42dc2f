use Rattle.std.proofs.Common.{refl, ◌≡◌, ◌∙◌, []}
use Rattle.lps_trial.proofs.Trials.{none_taken}
use Rattle.lps_cycle.proofs.RoundsAsked.{none_rise}
use Rattle.lps_cycle.proofs.candidates.Candidates.clear.Goals as goal

pub invariant_of-self : goal.invariant_of-self
invariant_of-self c =
    let no_goals : c.truncate.new.self.items ≡ [] = c.truncate.ensures.items ∙ none_taken c.self.inside.goals.items in
    let none : c.truncate-2.new.self.items ≡ [] = c.truncate-2.ensures.items ∙ none_taken c.self.inside.candidates.items in
    rw (no_goals, none) (refl, none_rise)

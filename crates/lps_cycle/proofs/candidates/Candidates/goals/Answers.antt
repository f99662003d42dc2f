use Rattle.std.proofs.Common.{ap, map, ◌∙◌}
use Rattle.lps_meaning.specs.declared.goal.GoalId.{GoalId}
use Rattle.lps_cycle.specs.Candidates.{numbers_of}
use Rattle.lps_cycle.proofs.RoundsAsked.{numbers_are}
use Rattle.lps_cycle.proofs.candidates.Candidates.goals.Goals as goal

pub returns-clause-goals : goal.returns-clause-goals
returns-clause-goals c =
    ap (map (λ (goal : GoalId). goal.0)) (c.as_slice.ensures.value ∙ c.self.invariant.0) ∙ numbers_are c.self.inside.candidates.items ∙ ap numbers_of c.self.view_is

-- A choice of two goals, in which one number of events is forbidden.
use Rattle.std.specs.Prelude.{◌≡◌, ◌==◌, ℕ, List, [], ◌∷◌, length, if◌then◌else◌}
use Rattle.lps_model.specs.declared.cycle.Group.{Group}
use Rattle.lps_choice.specs.Choices.{Choice}

-- the proposals of the two goals, and how many events may not happen together
pub record Plan : Type 0 where
  pub first : List Group
  pub second : List Group
  pub forbidden : ℕ

abbrev pub proposals_in : Plan → ℕ → List Group
proposals_in plan goal = if goal == 1 then plan.first else plan.second

abbrev pub choice_in : Plan → Choice
choice_in plan = record {
  goals = 1 ∷ 2 ∷ [];
  proposals = proposals_in plan;
  events = [];
  Violates = λ events k. length events ≡ plan.forbidden;
}

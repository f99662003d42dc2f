use Rattle.std.proofs.Common.{◌≡◌, take}
use Rattle.std.specs.List.{All}
use Rattle.lps_choice.specs.Choices.{IsPassedOver}
use Rattle.lps_choice.proofs.check.is_settled.Given as goal

-- the goals so far have a pick or no proposal that is admitted
abbrev pub invariant-loop-goal : goal.invariant-loop-goal
invariant-loop-goal g l =
    let choice = g.W.World.choice (g.W.World.fixed l.fn.world) in
    record {
      fixed : g.W.World.fixed l.world ≡ g.W.World.fixed l.fn.world;
      picks : g.W.World.picks l.world ≡ g.W.World.picks l.fn.world;
      passed : All (IsPassedOver choice (g.W.World.picks l.fn.world)) (take l.goal-index choice.goals);
    }

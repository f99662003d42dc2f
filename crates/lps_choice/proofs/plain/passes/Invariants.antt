use Rattle.std.proofs.Common.{◌≡◌, List, drop}
use Rattle.std.specs.List.{AllByRecursion}
use Rattle.lps_model.specs.declared.cycle.Pick.{Pick}
use Rattle.lps_choice.specs.Choices.{Extends, IsPassedOver}
use Rattle.lps_choice.specs.Passes.{AllPasses}
use Rattle.lps_choice.proofs.Ends.{unpicked}
use Rattle.lps_choice.proofs.plain.passes.Given as goal

-- passes from the picks so far are passes from the start, and the goals from a place on get nothing
abbrev pub invariant-loop-asked : goal.invariant-loop-asked
invariant-loop-asked g l =
    let choice = g.W.World.choice (g.W.World.fixed l.fn.world) in
    record {
      fixed : g.W.World.fixed l.world ≡ g.W.World.fixed l.fn.world;
      legal : Extends choice (g.W.World.picks l.fn.world) (g.W.World.picks l.world);
      passes : (all : List Pick) → AllPasses choice l.goals (g.W.World.picks l.world) all → AllPasses choice l.goals (g.W.World.picks l.fn.world) all;
      idle : AllByRecursion (IsPassedOver choice (g.W.World.picks l.world)) (drop l.asked l.goals);
    }

-- how many goals have no pick
abbrev pub decreases-loop-asked : goal.decreases-loop-asked
decreases-loop-asked g l = unpicked (g.W.World.choice (g.W.World.fixed l.fn.world)).goals (g.W.World.picks l.world)

use Rattle.std.proofs.Common.{◌≡◌, ◌++◌, take}
use Rattle.lps_choice.specs.Choices.{ArePicks}
use Rattle.lps_choice.proofs.check.check_picks.Given as goal

-- the first of the given picks are made, and might be
abbrev pub invariant-loop-pick : goal.invariant-loop-pick
invariant-loop-pick g l =
    let choice = g.W.World.choice (g.W.World.fixed l.fn.world) in
    record {
      fixed : g.W.World.fixed l.world ≡ g.W.World.fixed l.fn.world;
      made : g.W.World.picks l.world ≡ g.W.World.picks l.fn.world ++ take l.pick-index l.picks;
      legal : ArePicks choice (g.W.World.picks l.fn.world) (take l.pick-index l.picks);
    }

use Rattle.std.proofs.Common.{◌≡◌, take}
use Rattle.std.specs.List.{All}
use Rattle.lps_choice.specs.Choices.{Refuses}
use Rattle.lps_choice.proofs.next.first_admitted.Given as goal

-- the proposals so far are refused
abbrev pub invariant-loop-place : goal.invariant-loop-place
invariant-loop-place g l =
    let choice = g.W.World.choice (g.W.World.fixed l.fn.world) in
    record {
      fixed : g.W.World.fixed l.world ≡ g.W.World.fixed l.fn.world;
      picks : g.W.World.picks l.world ≡ g.W.World.picks l.fn.world;
      refused : All (Refuses choice (g.W.World.picks l.fn.world)) (take l.place (choice.proposals l.goal));
    }

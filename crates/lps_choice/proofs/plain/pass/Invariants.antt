use Rattle.std.proofs.Common.{◌≡◌}
use Rattle.lps_choice.proofs.Rounds.{Standing}
use Rattle.lps_choice.proofs.plain.pass.Given as goal

abbrev pub invariant-loop-place : goal.invariant-loop-place
invariant-loop-place g l = record {
  fixed : g.W.World.fixed l.world ≡ g.W.World.fixed l.fn.world;
  stands : Standing (g.W.World.choice (g.W.World.fixed l.fn.world)) l.goals (g.W.World.picks l.fn.world) (g.W.World.picks l.world) l.place l.end;
}

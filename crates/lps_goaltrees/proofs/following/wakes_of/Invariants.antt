use Rattle.std.proofs.Common.{take}
use Rattle.std.specs.List.{AllZip}
use Rattle.lps_residual.specs.Waking.{IsWake}
use Rattle.lps_goaltrees.proofs.following.wakes_of.Given as goal

-- the first ones have what wakes them
abbrev pub invariant-loop-node : goal.invariant-loop-node
invariant-loop-node l = AllZip (IsWake l.text) (take l.node-index l.nodes) l.wakes.items

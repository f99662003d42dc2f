use Rattle.std.proofs.Common.{◌≡◌, map, take}
use Rattle.lps_nodes.specs.Shapes.{put_left_con}
use Rattle.lps_residual.specs.Putting.{when_by}
use Rattle.lps_residual.proofs.put.put_limits.Given as goal

abbrev pub invariant-loop-limit : goal.invariant-loop-limit
invariant-loop-limit l = l.found.items ≡ map (put_left_con (when_by l.times)) (take l.limit-index l.limits)

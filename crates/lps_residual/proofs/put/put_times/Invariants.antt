use Rattle.std.proofs.Common.{◌≡◌, map, take}
use Rattle.lps_nodes.specs.Shapes.{put_when}
use Rattle.lps_residual.specs.Putting.{when_by}
use Rattle.lps_residual.proofs.put.put_times.Given as goal

abbrev pub invariant-loop-when : goal.invariant-loop-when
invariant-loop-when l = l.found.items ≡ map (put_when (when_by l.times)) (take l.when-index l.whens)

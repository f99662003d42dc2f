use Rattle.std.proofs.Common.{◌≡◌, map, take}
use Rattle.lps_nodes.specs.Shapes.{put_left}
use Rattle.lps_residual.specs.Putting.{value_by, when_by}
use Rattle.lps_residual.proofs.put.put_rest.Given as goal

abbrev pub invariant-loop-left : goal.invariant-loop-left
invariant-loop-left l = l.found.items ≡ map (put_left (value_by l.terms) (when_by l.times)) (take l.left-index l.rest)

use Rattle.std.proofs.Common.{arith}
use Rattle.lps_levels.proofs.Spreading.{distances_all}
use Rattle.lps_levels.proofs.distances.distances.Goals as goal

pub returns-then-not-spread : goal.returns-then-not-spread
returns-then-not-spread c = distances_all _ _ _ _ _ c.spread.ensures.after (c.spread.ensures.done c.if-not-spread.true)

pub returns : goal.returns
returns c = absurd (omega (arith, c.loop-depth.invariant.left))

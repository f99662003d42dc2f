use Rattle.std.proofs.Common.{rules, subst}
use Rattle.lps_residual.specs.Moments.{IsTimed}
use Rattle.lps_residual.proofs.Timing.{timed_as_counted}
use Rattle.lps_residual.proofs.waking.window_from.Goals as goal

pub window-requires-clause-timed : goal.window-requires-clause-timed
window-requires-clause-timed c =
    subst (λ n. IsTimed n c.args.node.now) (search rules) (timed_as_counted c.requires.node.unknowns c.args.node.now c.requires.node.canonical c.requires.node.timed)

pub window-requires-clause-time : goal.window-requires-clause-time
window-requires-clause-time c = c.requires.time _ (window-requires-clause-timed c)

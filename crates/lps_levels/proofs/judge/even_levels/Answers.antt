use Rattle.std.proofs.lemmas.Result.{IfOk-weaker}
use Rattle.lps_levels.specs.Distances.{AreUnreached, NeverRise}
use Rattle.lps_levels.proofs.Judging.{unreached_never_rise}
use Rattle.lps_levels.proofs.judge.even_levels.Goals as goal

pub returns-else-never_rise-clause-no_higher : goal.returns-else-never_rise-clause-no_higher
returns-else-never_rise-clause-no_higher c =
    IfOk-weaker c.unreached.result (λ levels. AreUnreached c.args.names.now c.args.edges.now levels.items) (λ levels. NeverRise c.args.edges.now levels.items)
    (λ levels u. unreached_never_rise _ _ levels.items c.requires u) c.unreached.ensures

use Rattle.std.proofs.lemmas.Result.{IfOk-weaker}
use Rattle.lps_levels.specs.Distances.{AreRight, AreUnreached}
use Rattle.lps_levels.proofs.Judging.{unreached_are_right}
use Rattle.lps_levels.proofs.judge.right_levels.Goals as goal

pub returns-else-are_lower : goal.returns-else-are_lower
returns-else-are_lower c =
    IfOk-weaker c.unreached.result (λ levels. AreUnreached c.args.names.now c.args.edges.now levels.items) (λ levels. AreRight c.args.names.now c.args.edges.now levels.items)
    (λ levels u. unreached_are_right _ _ levels.items c.requires.graph u c.requires.no_cycle) c.unreached.ensures

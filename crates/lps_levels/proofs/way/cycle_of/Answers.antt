use Rattle.std.proofs.Common.{◌<◌, None, ◌∙◌, arith, length}
use Rattle.std.proofs.lemmas.List.{get_or_read}
use Rattle.lps_levels.proofs.LeastWays.{none_or_some}
use Rattle.lps_levels.proofs.Graphs.{no_shorter}
use Rattle.lps_levels.proofs.way.cycle_of.Goals as goal

pub returns-in-None : goal.returns-in-None
returns-in-None c = λ way w.
    let near = no_shorter _ _ _ _ c.requires.graph c.requires.in_names.caller c.in_ok-distances.ensures way c.args.edge.callee c.requires.in_names.callee w in
    let within : c.args.edge.callee < length c.in_ok-distances.distances.items = omega (arith, c.in_ok-distances.ensures.reached.size, c.requires.in_names.callee) in
    none_or_some _ _ c.in-None.is (get_or_read c.in_ok-distances.distances.items c.args.edge.callee c.index.result.now within c.index.ensures None ∙ near.found)

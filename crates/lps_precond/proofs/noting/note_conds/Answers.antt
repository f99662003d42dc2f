use Rattle.std.proofs.Common.{take}
use Rattle.std.specs.List.{flat_map}
use Rattle.lps_model.specs.VariableLists.{cond_vars}
use Rattle.lps_solve.proofs.Collecting.{flat_more, with_both}
use Rattle.lps_precond.proofs.noting.note_conds.Goals as goal

pub loop-cond-preserved : goal.loop-cond-preserved
loop-cond-preserved c =
    with_both _ c.loop-cond.variables.keys c.note_cond.new.variables.keys (flat_map cond_vars (take c.loop-cond.cond-index c.args.conds.now)) (cond_vars c.cond-item.result) _
    (flat_more cond_vars c.loop-cond.cond-index c.args.conds.now c.cond-item.result c.loop-cond-test.true c.cond-item.is) c.loop-cond.invariant c.in_ok-note_cond.ensures

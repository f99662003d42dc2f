use Rattle.std.proofs.Common.{arith}
use Rattle.lps_model.specs.VariableLists.{cond_vars}
use Rattle.lps_solve.proofs.Collecting.{both_below, flat_more}
use Rattle.lps_solve.proofs.variables.above_conds.Goals as goal

pub loop-cond-preserved : goal.loop-cond-preserved
loop-cond-preserved c =
    both_below c.loop-cond.above c.above_cond.result c.max-above.result _ _ _
    (flat_more cond_vars c.loop-cond.cond-index c.args.conds.now c.cond-item.result c.loop-cond-test.true c.cond-item.is)
    (omega (arith, c.max-above.ensures)) (omega (arith, c.max-above.ensures)) c.loop-cond.invariant c.above_cond.ensures

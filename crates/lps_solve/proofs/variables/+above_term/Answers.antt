use Rattle.std.proofs.Common.{◌<◌, ◌∙◌, ap, sym, subst, arith}
use Rattle.std.specs.List.{AllByRecursion}
use Rattle.lps_model.specs.VariableLists.{args_vars, term_vars}
use Rattle.lps_solve.proofs.Collecting.{both_below, flat_more}
use Rattle.lps_solve.proofs.Gaining.{take_whole}
use Rattle.lps_solve.proofs.Vars.{vars_of-App}
use Rattle.lps_solve.proofs.variables.+above_term.Goals as goal

pub loop-arg-preserved : goal.loop-arg-preserved
loop-arg-preserved t c =
    both_below c.loop-arg.above c.above_term.result c.max-above.result _ _ _
    (flat_more term_vars c.loop-arg.arg-index c.as_slice-arg-items.result.now c.arg-item.result c.loop-arg-test.true c.arg-item.is)
    (omega (arith, c.max-above.ensures)) (omega (arith, c.max-above.ensures)) c.loop-arg.invariant c.above_term.ensures

pub returns-after-loop-arg : goal.returns-after-loop-arg
returns-after-loop-arg t c =
    let whole = ap args_vars (take_whole c.loop-arg.arg-index c.as_slice-arg-items.result.now (omega arith) ∙ c.as_slice-arg-items.ensures)
    ∙ sym (ap term_vars c.in-App.is ∙ vars_of-App c.in-App.field-0 c.in-App.args) in
    subst (AllByRecursion (λ v. v < c.loop-arg.above)) whole c.loop-arg.invariant

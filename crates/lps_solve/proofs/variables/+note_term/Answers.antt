use Rattle.std.proofs.Common.{◌∙◌, ap, sym, arith, take}
use Rattle.lps_model.specs.VariableLists.{args_vars, term_vars}
use Rattle.lps_solve.specs.Answers.{with_vars}
use Rattle.lps_solve.proofs.Collecting.{with_both, flat_more}
use Rattle.lps_solve.proofs.Gaining.{take_whole}
use Rattle.lps_solve.proofs.Vars.{vars_of-App}
use Rattle.lps_solve.proofs.variables.+note_term.Goals as goal

pub loop-arg-preserved : goal.loop-arg-preserved
loop-arg-preserved t c =
    with_both c.args.variables.now.keys c.loop-arg.variables.keys c.note_term.new.variables.keys (args_vars (take c.loop-arg.arg-index c.as_slice-arg-items.result.now)) (term_vars c.arg-item.result) _
    (flat_more term_vars c.loop-arg.arg-index c.as_slice-arg-items.result.now c.arg-item.result c.loop-arg-test.true c.arg-item.is) c.loop-arg.invariant c.in_ok-note_term-in-App.ensures

pub returns-after-loop-arg : goal.returns-after-loop-arg
returns-after-loop-arg t c =
    c.loop-arg.invariant
    ∙ ap (λ vars. with_vars c.args.variables.now.keys vars) (ap args_vars (take_whole c.loop-arg.arg-index c.as_slice-arg-items.result.now (omega arith) ∙ c.as_slice-arg-items.ensures)
    ∙ sym (ap term_vars c.in-App.is ∙ vars_of-App c.in-App.field-0 c.in-App.args))

use Rattle.std.proofs.Common.{take}
use Rattle.lps_model.specs.VariableLists.{args_vars, term_vars}
use Rattle.lps_solve.proofs.Collecting.{with_both, flat_more}
use Rattle.lps_solve.proofs.variables.note_terms.Goals as goal

pub loop-term-preserved : goal.loop-term-preserved
loop-term-preserved c =
    with_both c.args.variables.now.keys c.loop-term.variables.keys c.note_term.new.variables.keys (args_vars (take c.loop-term.term-index c.args.terms.now)) (term_vars c.term-item.result) _
    (flat_more term_vars c.loop-term.term-index c.args.terms.now c.term-item.result c.loop-term-test.true c.term-item.is) c.loop-term.invariant c.in_ok-note_term.ensures

use Rattle.std.proofs.Common.{ap}
use Rattle.lps_model.specs.VariableLists.{built_vars, expr_vars, term_vars}
use Rattle.lps_solve.proofs.Collecting.{with_both_ok}
use Rattle.lps_solve.proofs.variables.note_built.Goals as goal

pub returns-in_ok-note_term-in-Same : goal.returns-in_ok-note_term-in-Same
returns-in_ok-note_term-in-Same c =
    with_both_ok c.note_term-in-Same.result c.args.variables.now.keys c.note_term.new.variables.keys c.note_term-in-Same.new.variables.keys (term_vars c.in-Same.left) (term_vars c.in-Same.right) _
    (ap built_vars c.in-Same.is) c.in_ok-note_term-in-Same.ensures c.note_term-in-Same.ensures

pub returns-in_ok-note_term-in-Differ : goal.returns-in_ok-note_term-in-Differ
returns-in_ok-note_term-in-Differ c =
    with_both_ok c.note_term-in-Differ-2.result c.args.variables.now.keys c.note_term-in-Differ.new.variables.keys c.note_term-in-Differ-2.new.variables.keys (term_vars c.in-Differ.left) (term_vars c.in-Differ.right) _
    (ap built_vars c.in-Differ.is) c.in_ok-note_term-in-Differ.ensures c.note_term-in-Differ-2.ensures

pub returns-in_ok-note_term-in-Is : goal.returns-in_ok-note_term-in-Is
returns-in_ok-note_term-in-Is c =
    with_both_ok c.note_expr.result c.args.variables.now.keys c.note_term-in-Is.new.variables.keys c.note_expr.new.variables.keys (term_vars c.in-Is.left) (expr_vars c.in-Is.right) _
    (ap built_vars c.in-Is.is) c.in_ok-note_term-in-Is.ensures c.note_expr.ensures

pub returns-in_ok-note_expr-in-Compare : goal.returns-in_ok-note_expr-in-Compare
returns-in_ok-note_expr-in-Compare c =
    with_both_ok c.note_expr-in-Compare-2.result c.args.variables.now.keys c.note_expr-in-Compare.new.variables.keys c.note_expr-in-Compare-2.new.variables.keys (expr_vars c.in-Compare.left) (expr_vars c.in-Compare.right) _
    (ap built_vars c.in-Compare.is) c.in_ok-note_expr-in-Compare.ensures c.note_expr-in-Compare-2.ensures

use Rattle.std.proofs.Common.{◌∙◌, ap}
use Rattle.lps_model.specs.VariableLists.{expr_vars}
use Rattle.lps_solve.specs.Answers.{with_vars}
use Rattle.lps_solve.proofs.Collecting.{with_both}
use Rattle.lps_solve.proofs.Results.{OnOk-map}
use Rattle.lps_solve.proofs.Vars.{vars_of-Apply}
use Rattle.lps_solve.proofs.variables.+note_expr.Goals as goal

pub returns-in_ok-note_expr-in-Apply : goal.returns-in_ok-note_expr-in-Apply
returns-in_ok-note_expr-in-Apply t c =
    OnOk-map c.note_expr-in-Apply.result _ _
    (λ e.
    with_both c.args.variables.now.keys c.note_expr.new.variables.keys c.note_expr-in-Apply.new.variables.keys (expr_vars c.in-Apply.left) (expr_vars c.in-Apply.right) _
    (ap expr_vars c.in-Apply.is ∙ vars_of-Apply c.in-Apply.field-0 c.in-Apply.left c.in-Apply.right)
    (c.in_ok-note_expr-in-Apply.ensures ∙ ap (λ x. with_vars c.args.variables.now.keys (expr_vars x)) c.get.ensures)
    (e ∙ ap (λ x. with_vars c.note_expr.new.variables.keys (expr_vars x)) c.get-in-Apply.ensures))
    c.note_expr-in-Apply.ensures

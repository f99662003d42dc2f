use Rattle.std.proofs.Common.{◌<◌, ◌∙◌, ap, subst, arith}
use Rattle.std.specs.List.{AllByRecursion}
use Rattle.lps_model.specs.VariableLists.{expr_vars}
use Rattle.lps_solve.proofs.Collecting.{both_below}
use Rattle.lps_solve.proofs.Vars.{vars_of-Apply}
use Rattle.lps_solve.proofs.variables.+above_expr.Goals as goal

pub returns-in-Apply : goal.returns-in-Apply
returns-in-Apply t c =
    both_below c.above_expr.result c.above_expr-in-Apply.result c.max.result _ _ _ (ap expr_vars c.in-Apply.is ∙ vars_of-Apply c.in-Apply.field-0 c.in-Apply.left c.in-Apply.right)
    (omega (arith, c.max.ensures)) (omega (arith, c.max.ensures))
    (subst (λ x. AllByRecursion (λ v. v < c.above_expr.result) (expr_vars x)) c.get.ensures c.above_expr.ensures)
    (subst (λ x. AllByRecursion (λ v. v < c.above_expr-in-Apply.result) (expr_vars x)) c.get-in-Apply.ensures c.above_expr-in-Apply.ensures)

use Rattle.std.proofs.Common.{◌∙◌, ap, sym}
use Rattle.std.proofs.lemmas.Result.{on_ok_weaker}
use Rattle.lps_model.specs.VariableLists.{expr_vars}
use Rattle.lps_unify.specs.Canonical.{first_seen}
use Rattle.lps_residual.proofs.FirstSeen.{first_seen_append, vars_of_both}
use Rattle.lps_residual.proofs.seen.+see_expr.Goals as goal

pub returns-in_ok-see_expr-in-Apply : goal.returns-in_ok-see_expr-in-Apply
returns-in_ok-see_expr-in-Apply t c =
    on_ok_weaker c.see_expr-in-Apply.result
    (λ e.
    e ∙ ap (λ x. first_seen c.see_expr.new.seen.items (expr_vars x)) c.get-in-Apply.ensures
    ∙ ap (λ seen. first_seen seen (expr_vars c.in-Apply.right)) (c.in_ok-see_expr-in-Apply.ensures ∙ ap (λ x. first_seen c.args.seen.now.items (expr_vars x)) c.get.ensures)
    ∙ sym (first_seen_append c.args.seen.now.items (expr_vars c.in-Apply.left) (expr_vars c.in-Apply.right))
    ∙ ap (first_seen c.args.seen.now.items) (sym (ap expr_vars c.in-Apply.is ∙ vars_of_both c.in-Apply.field-0 c.in-Apply.left c.in-Apply.right)))
    c.see_expr-in-Apply.ensures

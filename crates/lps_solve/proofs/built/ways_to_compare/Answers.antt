use Rattle.std.proofs.Common.{◌∙◌, sym}
use Rattle.lps_terms.specs.declared.built.Built.TheVariants.{Compare}
use Rattle.lps_solve.proofs.Meeting.{test_ways, compare_stays, never_ways}
use Rattle.lps_solve.proofs.Readiness.{never_ground_expr}
use Rattle.lps_solve.proofs.built.ways_to_compare.Goals as goal

pub returns : goal.returns
returns c =
    let left = sym c.is_ground_expr.ensures ∙ c.if-not-is_ground_expr.false in
    let right = sym c.is_ground_expr-2.ensures ∙ c.if-not-is_ground_expr-2.false in
    test_ways (Compare c.args.rel c.args.left c.args.right) (left, right) c.requires.small (compare_stays c.args.rel c.args.left c.args.right left right) c.in_ok-when.field-0 c.holds.result
    (sym c.holds.ensures) c.in_ok-when.ensures.terms c.in_ok-when.ensures.rows

pub returns-then-not-is_ground_expr : goal.returns-then-not-is_ground_expr
returns-then-not-is_ground_expr c =
    never_ways (Compare c.args.rel c.args.left c.args.right) c.never.result (λ s ground. never_ground_expr c.args.left c.requires.ready.0 (sym c.is_ground_expr.ensures ∙ c.if-not-is_ground_expr.true) s ground.0) c.never.ensures.terms c.never.ensures.rows

pub returns-then-not-is_ground_expr-2 : goal.returns-then-not-is_ground_expr-2
returns-then-not-is_ground_expr-2 c =
    never_ways (Compare c.args.rel c.args.left c.args.right) c.never-then-not-is_ground_expr-2.result (λ s ground. never_ground_expr c.args.right c.requires.ready.1 (sym c.is_ground_expr-2.ensures ∙ c.if-not-is_ground_expr-2.true) s ground.1) c.never-then-not-is_ground_expr-2.ensures.terms c.never-then-not-is_ground_expr-2.ensures.rows

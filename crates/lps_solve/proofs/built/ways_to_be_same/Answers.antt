use Rattle.lps_terms.specs.declared.built.Built.TheVariants.{Same}
use Rattle.std.proofs.Common.{◌∙◌, sym}
use Rattle.lps_solve.proofs.Meeting.{left_ways, never_ways, right_ways}
use Rattle.lps_solve.proofs.Readiness.{never_same}
use Rattle.lps_solve.proofs.built.ways_to_be_same.Goals as goal

pub returns-in_ok-one : goal.returns-in_ok-one
returns-in_ok-one c = left_ways c.args.left c.args.right c.requires.small c.in_ok-one.field-0 (sym c.is_ground.ensures ∙ c.if-is_ground.true) c.in_ok-one.ensures.terms c.in_ok-one.ensures.rows

pub returns-in_ok-one-2 : goal.returns-in_ok-one-2
returns-in_ok-one-2 c =
    right_ways c.args.left c.args.right c.requires.small c.in_ok-one-2.field-0 (sym c.is_ground-else-is_ground.ensures ∙ c.if-is_ground-2.true) c.in_ok-one-2.ensures.terms c.in_ok-one-2.ensures.rows

pub returns-else-is_ground-2 : goal.returns-else-is_ground-2
returns-else-is_ground-2 c =
    never_ways (Same c.args.left c.args.right) c.never.result
    (never_same c.args.left c.args.right c.requires.ready (sym c.is_ground.ensures ∙ c.if-is_ground.false) (sym c.is_ground-else-is_ground.ensures ∙ c.if-is_ground-2.false)) c.never.ensures.terms c.never.ensures.rows

use Rattle.std.proofs.Common.{◌∙◌, sym}
use Rattle.lps_terms.specs.declared.built.Built.TheVariants.{Differ}
use Rattle.lps_solve.proofs.Meeting.{test_ways, differ_stays, never_ways}
use Rattle.lps_solve.proofs.Readiness.{never_ground}
use Rattle.lps_solve.proofs.built.ways_to_differ.Goals as goal

pub returns : goal.returns
returns c =
    let left = sym c.is_ground.ensures ∙ c.if-not-is_ground.false in
    let right = sym c.is_ground-2.ensures ∙ c.if-not-is_ground-2.false in
    test_ways (Differ c.args.left c.args.right) (left, right) c.requires.small (differ_stays c.args.left c.args.right left right) c.in_ok-when.field-0 c.ne.result
    (sym c.ne.ensures) c.in_ok-when.ensures.terms c.in_ok-when.ensures.rows

pub returns-then-not-is_ground : goal.returns-then-not-is_ground
returns-then-not-is_ground c =
    never_ways (Differ c.args.left c.args.right) c.never.result (λ s ground. never_ground c.args.left c.requires.ready.0 (sym c.is_ground.ensures ∙ c.if-not-is_ground.true) s ground.0) c.never.ensures.terms c.never.ensures.rows

pub returns-then-not-is_ground-2 : goal.returns-then-not-is_ground-2
returns-then-not-is_ground-2 c =
    never_ways (Differ c.args.left c.args.right) c.never-then-not-is_ground-2.result (λ s ground. never_ground c.args.right c.requires.ready.1 (sym c.is_ground-2.ensures ∙ c.if-not-is_ground-2.true) s ground.1) c.never-then-not-is_ground-2.ensures.terms c.never-then-not-is_ground-2.ensures.rows

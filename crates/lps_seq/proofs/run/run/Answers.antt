use Rattle.std.proofs.Common.{refl, ◌∙◌, sym, subst}
use Rattle.lps_residual.specs.Moments.{IsTimed}
use Rattle.lps_seq.proofs.Numbering.{all_led_from, stage_ready}
use Rattle.lps_seq.proofs.run.run.Goals as goal

pub run_stage-requires-clause-stage : goal.run_stage-requires-clause-stage
run_stage-requires-clause-stage c =
    stage_ready _ c.args.node.now c.requires.node _ c.in_ok-left.ensures.node refl (c.in_ok-number.ensures ∙ c.in_ok-left.ensures.variables)
    (subst (λ n. IsTimed n c.in_ok-left.left.node) (sym c.in_ok-number-2.ensures) (c.in_ok-left.ensures.timed c.requires.node.unknowns c.requires.node.timed)) c.requires.before c.requires.early

pub returns-clause-stepped : goal.returns-clause-stepped
returns-clause-stepped c = all_led_from _ c.args.node.now c.requires.node _ c.in_ok-left.ensures.node refl c.run_stage.result c.run_stage.ensures.stepped

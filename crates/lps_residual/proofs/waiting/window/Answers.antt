use Rattle.std.proofs.Common.{rules, ◌∙◌}
use Rattle.std.proofs.lemmas.Result.{IfOk-weaker}
use Rattle.lps_residual.proofs.InRange.{all_within}
use Rattle.lps_residual.proofs.Waits.{window_found}
use Rattle.lps_residual.proofs.waiting.window.Goals as goal

pub window_of-requires-clause-within : goal.window_of-requires-clause-within
window_of-requires-clause-within c =
    all_within c.args.unknowns c.args.text.now c.args.node.now c.requires.timed c.as_slice-2.result.now (c.as_slice-2.ensures.value ∙ c.in_ok-conditions.ensures)

pub returns : goal.returns
returns c =
    IfOk-weaker c.window_of.result _ _
    (window_found c.args.text.now c.args.node.now c.args.time c.as_slice-2.result.now (c.as_slice-2.ensures.value ∙ c.in_ok-conditions.ensures) (search rules)) c.window_of.ensures

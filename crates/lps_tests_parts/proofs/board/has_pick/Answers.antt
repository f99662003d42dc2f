use Rattle.std.proofs.Common.{◌∙◌, sym, ap, arith, ℕ}
use Rattle.std.proofs.lemmas.List.{get_or-map, length-map}
use Rattle.lps_model.specs.declared.cycle.Pick.{Pick}
use Rattle.lps_choice.specs.Choices.{goals_of}
use Rattle.lps_choice.proofs.Lists.{left_after}
use Rattle.lps_tests_parts.proofs.board.has_pick.Goals as goal

pub loop-pick-preserved : goal.loop-pick-preserved
loop-pick-preserved c = λ among.
    let pick = c.pick-item.result in
    left_after (goals_of c.args.picks.now) c.loop-pick.pick-index pick.goal c.args.goal
    (omega (arith, c.loop-pick-test.true, length-map {A = Pick} {B = ℕ}))
    (ap (λ (p : Pick). p.goal) c.pick-item.is ∙ sym (get_or-map (λ (p : Pick). p.goal) c.args.picks.now c.loop-pick.pick-index pick pick.goal c.loop-pick-test.true))
    c.if-pick-goal.false (c.loop-pick.invariant among)

use Rattle.std.proofs.Common.{ℕ, map, arith, get_or, sym}
use Rattle.std.proofs.lemmas.List.{get_or-map, length-map}
use Rattle.lps_meaning.specs.declared.goal.GoalId.{GoalId}
use Rattle.lps_choice.proofs.check.has_goal.Goals as goal
use Rattle.lps_choice.proofs.Lists.{left_after}

pub loop-other-preserved : goal.loop-other-preserved
loop-other-preserved c = λ among.
    let goals = c.args.goals.now in
    let place = c.loop-other.other-index in
    let other = get_or goals place (record { 0 = 0 }) in
    left_after (map (λ (goal : GoalId). goal.0) goals) place other.0 c.args.goal
    (omega (arith, c.loop-other-test.true, length-map {A = GoalId} {B = ℕ}))
    (sym (get_or-map (λ (goal : GoalId). goal.0) goals place (record { 0 = 0 }) other.0 c.loop-other-test.true)) c.if-other-goal.false (c.loop-other.invariant among)

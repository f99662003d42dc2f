use Rattle.std.proofs.Common.{◌≡◌, ◌∙◌, ◌<◌, ◌≤◌, true, false, length, arith, ap, subst, refl, get_or}
use Rattle.std.specs.Prelude.{Contains}
use Rattle.std.proofs.lemmas.List.Elements.{All-contains, All-more, Contains-get_or}
use Rattle.lps_choice.specs.Choices.{IsPassedOver}
use Rattle.lps_choice.specs.Passes.{IsNext}
use Rattle.lps_choice.proofs.check.is_settled.Goals as goal
use Rattle.lps_choice.proofs.Rounds.{carried, not_given, of_all}

pub returns-in-Some-clause-settled : goal.returns-in-Some-clause-settled
returns-in-Some-clause-settled g c =
    let choice = g.W.World.choice in
    let fixed = g.W.World.fixed c.args.world.now in
    let made = g.W.World.picks c.args.world.now in
    let items : c.as_slice-goal-items.result.now ≡ (choice fixed).goals = c.as_slice-goal-items.ensures.value ∙ c.in_ok-goals.ensures ∙ c.goals.ensures.numbers in
    let goal = get_or c.as_slice-goal-items.result.now c.loop-goal.goal-index 0 in
    let among = subst (λ goals. Contains goals goal) items (Contains-get_or c.as_slice-goal-items.result.now c.loop-goal.goal-index 0 c.loop-goal-test.true) in
    let next = carried choice (λ h m. IsNext h m goal c.in_ok-next_pick.field-0) _ fixed _ made c.loop-goal.invariant.fixed c.loop-goal.invariant.picks c.in_ok-next_pick.ensures.next in
    let given = subst (IsNext (choice fixed) made goal) c.in-Some.is next in
    (λ e. absurd (let never : false ≡ true = e in cc), λ settled. absurd (not_given (choice fixed) made goal c.in-Some.field-0 (settled goal among) given))

pub loop-goal-preserved : goal.loop-goal-preserved
loop-goal-preserved g c =
    let choice = g.W.World.choice in
    let fixed = g.W.World.fixed c.args.world.now in
    let made = g.W.World.picks c.args.world.now in
    let items : c.as_slice-goal-items.result.now ≡ (choice fixed).goals = c.as_slice-goal-items.ensures.value ∙ c.in_ok-goals.ensures ∙ c.goals.ensures.numbers in
    let place = c.loop-goal.goal-index in
    let goal = get_or c.as_slice-goal-items.result.now place 0 in
    let next = carried choice (λ h m. IsNext h m goal c.in_ok-next_pick.field-0) _ fixed _ made c.loop-goal.invariant.fixed c.loop-goal.invariant.picks c.in_ok-next_pick.ensures.next in
    let passed = subst (IsNext (choice fixed) made goal) c.in-None.is next in
    let lt : place < length (choice fixed).goals = omega (arith, c.loop-goal-test.true, ap length items) in
    record {
      fixed = c.in_ok-next_pick.ensures.fixed ∙ c.loop-goal.invariant.fixed;
      picks = c.in_ok-next_pick.ensures.picks ∙ c.loop-goal.invariant.picks;
      passed = All-more (IsPassedOver (choice fixed) made) (choice fixed).goals place 0 lt c.loop-goal.invariant.passed
          (subst (λ goals. IsPassedOver (choice fixed) made (get_or goals place 0)) items passed);
    }

pub returns-clause-settled : goal.returns-clause-settled
returns-clause-settled g c =
    let choice = g.W.World.choice in
    let fixed = g.W.World.fixed c.args.world.now in
    let made = g.W.World.picks c.args.world.now in
    let items : c.as_slice-goal-items.result.now ≡ (choice fixed).goals = c.as_slice-goal-items.ensures.value ∙ c.in_ok-goals.ensures ∙ c.goals.ensures.numbers in
    let past : length (choice fixed).goals ≤ c.loop-goal.goal-index = omega (arith, c.loop-goal-test.false, ap length items) in (
      λ _ goal among. All-contains (IsPassedOver (choice fixed) made) (choice fixed).goals goal
          (of_all (IsPassedOver (choice fixed) made) (choice fixed).goals c.loop-goal.goal-index past c.loop-goal.invariant.passed) among,
      λ _. refl,
    )

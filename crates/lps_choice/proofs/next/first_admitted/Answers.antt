use Rattle.std.proofs.Common.{◌≡◌, ◌<◌, ◌≤◌, ◌∙◌, length, arith, sym, ap, subst, slice_index_or}
use Rattle.std.proofs.lemmas.List.Elements.{All-more, All-contains}
use Rattle.lps_choice.specs.Choices.{Answers, Refuses}
use Rattle.lps_choice.proofs.next.first_admitted.Goals as goal
use Rattle.lps_choice.proofs.Rounds.{carried, first_at, of_all}

pub returns-then-branch-clause-found : goal.returns-then-branch-clause-found
returns-then-branch-clause-found g c =
    let choice = g.W.World.choice in
    let fixed = g.W.World.fixed c.args.world.now in
    let made = g.W.World.picks c.args.world.now in
    let place = c.loop-place.place in
    let group = c.in_ok-group.group in
    let lt : place < length ((choice fixed).proposals c.args.goal) = omega (arith, c.loop-place-test.true, ap length c.proposals-count.ensures) in
    let is = subst (λ f. slice_index_or ((choice f).proposals c.args.goal) place group ≡ group) c.loop-place.invariant.fixed c.in_ok-group.ensures in
    let answer = carried choice (λ h m. Answers h m group c.in_ok-admits.field-0) _ fixed _ made c.loop-place.invariant.fixed c.loop-place.invariant.picks c.in_ok-admits.ensures.answer in
    first_at (choice fixed) made ((choice fixed).proposals c.args.goal) place group lt is c.loop-place.invariant.refused (subst (Answers (choice fixed) made group) c.if-branch.true answer)

pub loop-place-preserved : goal.loop-place-preserved
loop-place-preserved g c =
    let choice = g.W.World.choice in
    let fixed = g.W.World.fixed c.args.world.now in
    let made = g.W.World.picks c.args.world.now in
    let place = c.loop-place.place in
    let group = c.in_ok-group.group in
    let lt : place < length ((choice fixed).proposals c.args.goal) = omega (arith, c.loop-place-test.true, ap length c.proposals-count.ensures) in
    let is = subst (λ f. slice_index_or ((choice f).proposals c.args.goal) place group ≡ group) c.loop-place.invariant.fixed c.in_ok-group.ensures in
    let answer = carried choice (λ h m. Answers h m group c.in_ok-admits.field-0) _ fixed _ made c.loop-place.invariant.fixed c.loop-place.invariant.picks c.in_ok-admits.ensures.answer in
    let refused = subst (Answers (choice fixed) made group) c.if-branch.false answer in
    record {
      fixed = c.in_ok-admits.ensures.fixed ∙ c.loop-place.invariant.fixed;
      picks = c.in_ok-admits.ensures.picks ∙ c.loop-place.invariant.picks;
      refused = All-more (Refuses (choice fixed) made) ((choice fixed).proposals c.args.goal) place group lt c.loop-place.invariant.refused (subst (Refuses (choice fixed) made) (sym is) refused);
    }

pub returns-clause-found : goal.returns-clause-found
returns-clause-found g c = λ group among.
    let choice = g.W.World.choice in
    let fixed = g.W.World.fixed c.args.world.now in
    let made = g.W.World.picks c.args.world.now in
    let groups = (choice fixed).proposals c.args.goal in
    let past : length groups ≤ c.loop-place.place = omega (arith, c.loop-place-test.false, ap length c.proposals-count.ensures) in
    All-contains (Refuses (choice fixed) made) groups group (of_all (Refuses (choice fixed) made) groups c.loop-place.place past c.loop-place.invariant.refused) among

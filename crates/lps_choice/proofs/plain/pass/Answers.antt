use Rattle.std.proofs.Common.{◌∙◌, ◌+◌, sym, subst, get_or}
use Rattle.std.specs.Prelude.{Contains}
use Rattle.std.proofs.lemmas.List.Elements.{Contains-get_or}
use Rattle.lps_choice.specs.Choices.{IsPassedOver}
use Rattle.lps_choice.specs.Passes.{Gives}
use Rattle.lps_choice.proofs.plain.pass.Goals as goal
use Rattle.lps_choice.proofs.plain.pass.Goals.{then-branch, else-branch}
use Rattle.lps_choice.proofs.Lists.{all_dropped}
use Rattle.lps_choice.proofs.Rounds.{Standing, idle_from, standing_given, standing_passed, standing_passes}

pub returns-then-asked-place-clause-passed : goal.returns-then-asked-place-clause-passed
returns-then-asked-place-clause-passed g c =
    let choice = g.W.World.choice (g.W.World.fixed c.args.world.now) in
    let start = g.W.World.picks c.args.world.now in
    let now = g.W.World.picks c.loop-place.world in
    let goals = c.args.goals.now in
    let place = c.loop-place.place in
    let stands = subst (Standing choice goals start now place) c.if-end-eq0.true c.loop-place.invariant.stands in
    standing_passes choice goals start now place 0 stands
    (all_dropped (IsPassedOver choice now) place goals (idle_from choice goals start now place c.args.asked stands c.if-asked-place.true c.requires.idle))

pub returns-then-asked-place-clause-idle : goal.returns-then-asked-place-clause-idle
returns-then-asked-place-clause-idle g c =
    let choice = g.W.World.choice (g.W.World.fixed c.args.world.now) in
    let start = g.W.World.picks c.args.world.now in
    let now = g.W.World.picks c.loop-place.world in
    let stands = subst (Standing choice c.args.goals.now start now c.loop-place.place) c.if-end-eq0.true c.loop-place.invariant.stands in
    idle_from choice c.args.goals.now start now c.loop-place.place c.args.asked stands c.if-asked-place.true c.requires.idle

pub give-requires : goal.give-requires
give-requires g c =
    let goal = get_or c.args.goals.now c.loop-place.place 0 in
    subst (λ f. Contains (g.W.World.choice f).goals goal) (sym c.loop-place.invariant.fixed) (c.requires.pending goal (Contains-get_or c.args.goals.now c.loop-place.place 0 c.loop-place-test.true))

pub loop-place-preserved : goal.loop-place-preserved
loop-place-preserved g c =
    let choice = g.W.World.choice (g.W.World.fixed c.args.world.now) in
    let start = g.W.World.picks c.args.world.now in
    let made = g.W.World.picks c.loop-place.world in
    let now = g.W.World.picks c.give.new.world in
    let goals = c.args.goals.now in
    let place = c.loop-place.place in
    let goal = get_or goals place 0 in
    let pending = c.requires.pending goal (Contains-get_or goals place 0 c.loop-place-test.true) in
    let gives = subst (λ f. Gives (g.W.World.choice f) goal made now c.in_ok-give.field-0) c.loop-place.invariant.fixed c.in_ok-give.ensures.given in
    let stands : Standing choice goals start now (place + 1) c.if-branch.end = elim c.if-branch.branch [
      | then-branch w ↦ subst (Standing choice goals start now (place + 1)) (sym w.end-is)
          (standing_given choice goals start made now place c.loop-place.end c.loop-place-test.true pending c.loop-place.invariant.stands (subst (Gives choice goal made now) w.if-branch.true gives))
      | else-branch w ↦ subst (Standing choice goals start now (place + 1)) (sym w.end-is)
          (standing_passed choice goals start made now place c.loop-place.end c.loop-place-test.true c.loop-place.invariant.stands (subst (Gives choice goal made now) w.if-branch.false gives))
    ] in
    record { fixed = c.in_ok-give.ensures.fixed ∙ c.loop-place.invariant.fixed; stands = stands }

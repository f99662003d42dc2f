use Rattle.std.proofs.Common.{sym, subst}
use Rattle.lps_choice.specs.Choices.{IsPick, pick_of}
use Rattle.lps_choice.specs.Passes.{IsNext}
use Rattle.lps_choice.proofs.plain.give.Goals as goal
use Rattle.lps_choice.proofs.Rounds.{carried, given_is_pick}

pub take-requires : goal.take-requires
take-requires g c =
    let choice = g.W.World.choice in
    let fixed = g.W.World.fixed c.args.world.now in
    let made = g.W.World.picks c.args.world.now in
    let given = subst (IsNext (choice fixed) made c.args.goal) c.in-Some.is c.in_ok-group.ensures.next in
    carried choice (λ h m. IsPick h m (pick_of c.args.goal c.in-Some.group)) fixed _ made _ (sym c.in_ok-group.ensures.fixed) (sym c.in_ok-group.ensures.picks)
    (given_is_pick (choice fixed) made c.args.goal c.in-Some.group c.requires given)

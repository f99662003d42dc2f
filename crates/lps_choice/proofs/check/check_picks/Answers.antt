use Rattle.std.proofs.Common.{◌≡◌, ◌∙◌, ◌++◌, ◌∷◌, [], true, false, List, take, sym, ap, subst, append_assoc}
use Rattle.std.specs.Prelude.{◌↔◌, IsTrue}
use Rattle.std.proofs.lemmas.Result.{IfOk-weaker}
use Rattle.lps_model.specs.declared.cycle.Pick.{Pick}
use Rattle.lps_choice.specs.Choices.{ArePicks, IsPick, IsSettled, TakesGiven}
use Rattle.lps_choice.proofs.check.check_picks.Goals as goal
use Rattle.lps_choice.proofs.Extensions.{pick_at, picks_with}
use Rattle.lps_choice.proofs.Lists.{take_all, take_one_more}
use Rattle.lps_choice.proofs.Rounds.{carried}

pub returns-then-not-branch-clause-exact : goal.returns-then-not-branch-clause-exact
returns-then-not-branch-clause-exact g c =
    let choice = g.W.World.choice in
    let fixed = g.W.World.fixed c.args.world.now in
    let made = g.W.World.picks c.args.world.now in
    let place = c.loop-pick.pick-index in
    let pick = c.pick-item.result in
    let taken = subst (λ f. TakesGiven (choice f) pick (g.W.World.picks c.loop-pick.world) (g.W.World.picks c.take_given.new.world) c.in_ok-take_given.field-0) c.loop-pick.invariant.fixed c.in_ok-take_given.ensures.taken in
    let refused = subst (TakesGiven (choice fixed) pick (g.W.World.picks c.loop-pick.world) (g.W.World.picks c.take_given.new.world)) c.if-not-branch.true taken in (
      λ e. absurd (let never : false ≡ true = e in cc),
      λ legal. absurd (refused.0 (subst (λ m. IsPick (choice fixed) m pick) (sym c.loop-pick.invariant.made) (pick_at (choice fixed) made c.args.picks.now place pick legal.0 c.loop-pick-test.true c.pick-item.is))),
    )

pub loop-pick-preserved : goal.loop-pick-preserved
loop-pick-preserved g c =
    let choice = g.W.World.choice in
    let fixed = g.W.World.fixed c.args.world.now in
    let made = g.W.World.picks c.args.world.now in
    let place = c.loop-pick.pick-index in
    let pick = c.pick-item.result in
    let taken = subst (λ f. TakesGiven (choice f) pick (g.W.World.picks c.loop-pick.world) (g.W.World.picks c.take_given.new.world) c.in_ok-take_given.field-0) c.loop-pick.invariant.fixed c.in_ok-take_given.ensures.taken in
    let is = subst (TakesGiven (choice fixed) pick (g.W.World.picks c.loop-pick.world) (g.W.World.picks c.take_given.new.world)) c.if-not-branch.false taken in
    let more = take_one_more c.args.picks.now place pick c.loop-pick-test.true c.pick-item.is in
    record {
      fixed = c.in_ok-take_given.ensures.fixed ∙ c.loop-pick.invariant.fixed;
      made = is.1 ∙ ap (λ (m : List Pick). m ++ pick ∷ []) c.loop-pick.invariant.made ∙ append_assoc made (take place c.args.picks.now) (pick ∷ []) ∙ ap (λ (ps : List Pick). made ++ ps) (sym more);
      legal = subst (ArePicks (choice fixed) made) (sym more)
          (picks_with (choice fixed) made (take place c.args.picks.now) pick c.loop-pick.invariant.legal (subst (λ m. IsPick (choice fixed) m pick) c.loop-pick.invariant.made is.0));
    }

pub returns-clause-exact : goal.returns-clause-exact
returns-clause-exact g c =
    let choice = g.W.World.choice in
    let fixed = g.W.World.fixed c.args.world.now in
    let made = g.W.World.picks c.args.world.now in
    let picks = c.args.picks.now in
    let all = take_all picks c.loop-pick.pick-index c.loop-pick-test.false in
    let legal = subst (ArePicks (choice fixed) made) all c.loop-pick.invariant.legal in
    let now = c.loop-pick.invariant.made ∙ ap (λ (ps : List Pick). made ++ ps) all in
    IfOk-weaker c.is_settled.result
    (λ settled. IsTrue settled ↔ IsSettled (choice (g.W.World.fixed c.loop-pick.world)) (g.W.World.picks c.loop-pick.world))
    (λ settled. IsTrue settled ↔ (ArePicks (choice fixed) made picks × IsSettled (choice fixed) (made ++ picks)))
    (λ settled exact. (
      λ e. (legal, carried choice IsSettled _ fixed _ (made ++ picks) c.loop-pick.invariant.fixed now (exact.0 e)),
      λ both. exact.1 (carried choice IsSettled fixed _ (made ++ picks) _ (sym c.loop-pick.invariant.fixed) (sym now) both.1),
    ))
    c.is_settled.ensures.settled

use Rattle.std.proofs.Common.{◌∙◌, sym, subst, drop}
use Rattle.std.specs.Prelude.{Contains}
use Rattle.std.specs.List.{AllByRecursion}
use Rattle.lps_choice.specs.Choices.{Extends, IsPassedOver}
use Rattle.lps_choice.specs.Passes.{Grows, Pass, last, more}
use Rattle.lps_choice.proofs.plain.passes.Goals as goal
use Rattle.lps_choice.proofs.Ends.{fewer_unpicked}
use Rattle.lps_choice.proofs.Extensions.{extends_further}
use Rattle.lps_choice.proofs.Rounds.{grown}

pub pass-requires-clause-pending : goal.pass-requires-clause-pending
pass-requires-clause-pending g c = λ goal among. subst (λ f. Contains (g.W.World.choice f).goals goal) (sym c.loop-asked.invariant.fixed) (c.requires goal among)

pub returns-in_err-asked-clause-legal : goal.returns-in_err-asked-clause-legal
returns-in_err-asked-clause-legal g c =
    let made = g.W.World.picks c.loop-asked.world in
    let now = g.W.World.picks c.pass.new.world in
    extends_further (g.W.World.choice (g.W.World.fixed c.args.world.now)) (g.W.World.picks c.args.world.now) made now c.loop-asked.invariant.legal
    (subst (λ f. Extends (g.W.World.choice f) made now) c.loop-asked.invariant.fixed c.in_err-asked.ensures.legal)

pub loop-asked-smaller : goal.loop-asked-smaller
loop-asked-smaller g c =
    let made = g.W.World.picks c.loop-asked.world in
    let now = g.W.World.picks c.pass.new.world in
    fewer_unpicked (g.W.World.choice (g.W.World.fixed c.args.world.now)) made now
    (subst (λ f. Extends (g.W.World.choice f) made now) c.loop-asked.invariant.fixed c.in_ok-asked.ensures.legal) (grown made now c.in_ok-asked.asked c.in_ok-asked.ensures.grows c.if-asked-eq0.false)

pub loop-asked-preserved : goal.loop-asked-preserved
loop-asked-preserved g c =
    let made = g.W.World.picks c.loop-asked.world in
    let now = g.W.World.picks c.pass.new.world in
    record {
      fixed = c.in_ok-asked.ensures.fixed ∙ c.loop-asked.invariant.fixed;
      legal = extends_further (g.W.World.choice (g.W.World.fixed c.args.world.now)) (g.W.World.picks c.args.world.now) made now c.loop-asked.invariant.legal
          (subst (λ f. Extends (g.W.World.choice f) made now) c.loop-asked.invariant.fixed c.in_ok-asked.ensures.legal);
      passes = λ all rest. c.loop-asked.invariant.passes all
          (more now (subst (λ f. Pass (g.W.World.choice f) c.args.goals.now made now) c.loop-asked.invariant.fixed c.in_ok-asked.ensures.passed) (grown made now c.in_ok-asked.asked c.in_ok-asked.ensures.grows c.if-asked-eq0.false) rest);
      idle = subst (λ f. AllByRecursion (IsPassedOver (g.W.World.choice f) now) (drop c.in_ok-asked.asked c.args.goals.now)) c.loop-asked.invariant.fixed c.in_ok-asked.ensures.idle;
    }

pub returns-then-asked-eq0-clause-passed : goal.returns-then-asked-eq0-clause-passed
returns-then-asked-eq0-clause-passed g c =
    let choice = g.W.World.choice (g.W.World.fixed c.args.world.now) in
    let made = g.W.World.picks c.loop-asked.world in
    let now = g.W.World.picks c.pass.new.world in
    let same = subst (Grows made now) c.if-asked-eq0.true c.in_ok-asked.ensures.grows in
    let pass = subst (λ f. Pass (g.W.World.choice f) c.args.goals.now made now) c.loop-asked.invariant.fixed c.in_ok-asked.ensures.passed in
    c.loop-asked.invariant.passes now (last (subst (Pass choice c.args.goals.now made) same pass) same)

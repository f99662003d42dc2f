use Rattle.std.specs.Prelude.{◌≡◌}
use Rattle.lps_seq.proofs.Ending.{adds_all, ends_now}
use Rattle.lps_residual.specs.Moments.{IsReady}
use Rattle.lps_seq.proofs.steps.end.Goals as goal

pub returns-in_ok-add_ended-clause-found : goal.returns-in_ok-add_ended-clause-found
returns-in_ok-add_ended-clause-found c = ends_now c.args.moment.now c.args.stage c.requires.stage c.requires.whole c.args.found.now c.add_ended.new.self c.if-before-moment.true c.in_ok-add_ended.ensures

pub returns-in_ok-add_ended-clause-ready : goal.returns-in_ok-add_ended-clause-ready
returns-in_ok-add_ended-clause-ready c =
    adds_all c.args.found.now c.add_ended.new.self (λ o. ⊥) (λ k. k ≡ c.args.stage.node.carry) (IsReady c.args.moment.now.program.now) c.in_ok-add_ended.ensures (λ o f. absurd f)

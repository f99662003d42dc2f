use Rattle.std.proofs.Common.{refl}
use Rattle.lps_causal.proofs.Gaining.{initiated_added, terminated_added}
use Rattle.lps_causal.proofs.given.Given.add.Goals as goal

pub returns-in_ok-push : goal.returns-in_ok-push
returns-in_ok-push c = initiated_added c.args.self.now _ c.args.fluent c.in_ok-push.ensures.items refl c.args.initiates c.if-initiates.true

pub returns-in_ok-push-2 : goal.returns-in_ok-push-2
returns-in_ok-push-2 c = terminated_added c.args.self.now _ c.args.fluent c.in_ok-push-2.ensures.items refl c.args.initiates c.if-initiates.false

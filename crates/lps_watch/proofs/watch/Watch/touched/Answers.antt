use Rattle.std.proofs.Common.{◌↔◌, Contains, List, subst, sym}
use Rattle.std.proofs.lemmas.Result.{IfOk-weaker}
use Rattle.lps_residual.specs.declared.waking.Wake.{Wake}
use Rattle.lps_residual.specs.Waking.{IsTouched}
use Rattle.lps_watch.proofs.Events.{all_touched}
use Rattle.lps_watch.proofs.watch.Watch.touched.Goals as goal

pub returns-clause-exact : goal.returns-clause-exact
returns-clause-exact c =
    let found = c.find_due.new.found.keys in
    let whole : (w : Wake) → Contains found w ↔ (Contains c.args.self.now w × IsTouched w c.args.time c.args.events.now) =
    subst (λ (ws : List Wake). (w : Wake) → Contains found w ↔ (Contains ws w × IsTouched w c.args.time c.args.events.now)) c.self.view_is
    (all_touched c.self.inside.by_event.keys c.self.inside.by_due.keys c.args.time c.args.events.now c.new-found.result.keys c.find_events.new.found.keys found c.new-found.ensures.empty c.self.invariant
    c.in_ok-find_events.ensures c.in_ok-find_due.ensures) in
    IfOk-weaker c.in_order.result _ _ (λ wakes all. subst (λ (ws : List Wake). (w : Wake) → Contains ws w ↔ (Contains c.args.self.now w × IsTouched w c.args.time c.args.events.now)) (sym all) whole) c.in_order.ensures.all

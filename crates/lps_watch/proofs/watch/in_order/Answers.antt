use Rattle.std.proofs.Common.{◌≡◌, ◌∙◌, ◌++◌, List, ap, subst, sym}
use Rattle.std.proofs.lemmas.List.{append-nil}
use Rattle.lps_residual.specs.declared.waking.Wake.{Wake}
use Rattle.lps_watch.specs.Watches.{AreOnce}
use Rattle.lps_watch.proofs.Orders.{wake_cmp_total, wake_exact}
use Rattle.lps_watch.proofs.Members.{once}
use Rattle.lps_watch.proofs.watch.in_order.Goals as goal

pub returns-clause-once : goal.returns-clause-once
returns-clause-once c =
    let all : c.loop-wake.wakes.items ≡ c.args.found.keys =
    sym (append-nil c.loop-wake.wakes.items) ∙ ap (λ (left : List Wake). c.loop-wake.wakes.items ++ left) (sym c.in-None.ensures.steps.0) ∙ c.loop-wake.invariant in
    subst AreOnce (sym all) (once wake_cmp_total wake_exact c.args.found.keys c.into_iter-wake-iterator.ensures.into_iter_gives.4)

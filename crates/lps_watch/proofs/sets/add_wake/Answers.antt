use Rattle.lps_watch.proofs.Orders.{wake_cmp_total, wake_exact}
use Rattle.lps_watch.proofs.Members.{with_one}
use Rattle.lps_watch.proofs.sets.add_wake.Goals as goal

pub returns-clause-added : goal.returns-clause-added
returns-clause-added c = with_one wake_cmp_total wake_exact c.args.wake c.args.wakes.now c.insert.new.self c.in_ok-insert.ensures.updates.0

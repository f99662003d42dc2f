use Rattle.std.proofs.Common.{◌∙◌, sym}
use Rattle.std.proofs.lemmas.Result.{err_from_is_err_and}
use Rattle.lps_watch.proofs.Orders.{due_cmp_total, due_exact}
use Rattle.lps_watch.proofs.Members.{has, true_not_false, with_one}
use Rattle.lps_watch.proofs.sets.add_due.Goals as goal

pub returns-clause-added : goal.returns-clause-added
returns-clause-added c = with_one due_cmp_total due_exact c.args.due c.args.dues.now c.insert.new.self c.in_ok-insert.ensures.updates.0

pub returns-in_err-insert-clause-absent : goal.returns-in_err-insert-clause-absent
returns-in_err-insert-clause-absent c =
    let p = err_from_is_err_and c.from_residual.result c.from_residual.ensures.1 in
    rw (p.1) (λ there. true_not_false (sym ((has due_cmp_total due_exact c.args.dues.now c.args.due).1 there) ∙ c.in_err-insert.ensures.absent))

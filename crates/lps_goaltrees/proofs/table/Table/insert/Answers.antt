use Rattle.std.proofs.Common.{refl, inl, inr}
use Rattle.std.proofs.lemmas.Result.{on_ok_weaker}
use Rattle.lps_goaltrees.proofs.table.Table.insert.Goals as goal

pub returns-in_err-insert-clause-others : goal.returns-in_err-insert-clause-others
returns-in_err-insert-clause-others c = λ w n was. record { watched = (c.in_err-insert.ensures.err w).1 was.watched; listed = was.listed }

pub returns-clause-added : goal.returns-clause-added
returns-clause-added c = on_ok_weaker c.add_goal.result (λ listed. record { watched = (c.in_ok-insert.ensures.added c.args.wake.now).1 (inr refl); listed = listed }) c.add_goal.ensures.added

pub returns-clause-others : goal.returns-clause-others
returns-clause-others c = λ w n was. record { watched = (c.in_ok-insert.ensures.added w).1 (inl was.watched); listed = c.add_goal.ensures.others w n was.listed }

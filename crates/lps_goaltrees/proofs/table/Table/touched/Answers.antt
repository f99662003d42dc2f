use Rattle.std.proofs.Common.{List, sym, subst}
use Rattle.std.specs.Prelude.{Contains}
use Rattle.std.proofs.lemmas.Result.{IfOk-weaker}
use Rattle.lps_residual.specs.declared.waking.Wake.{Wake}
use Rattle.lps_goaltrees.proofs.table.Table.touched.Goals as goal

pub returns : goal.returns
returns c = IfOk-weaker c.goals_of.result _ _
    (λ found all w n woken touched.
    all w n (subst (λ (ws : List Wake). Contains ws w) (sym c.as_slice.ensures.value) ((c.in_ok-wakes.ensures.exact w).1 (woken.watched, touched))) woken.listed)
    c.goals_of.ensures

use Rattle.lps_unify.proofs.Joins.{none_same}
use Rattle.lps_unify.proofs.settle.first_step.Goals as goal

pub next_step-requires-clause-same : goal.next_step-requires-clause-same
next_step-requires-clause-same c = λ v x has. none_same c.args.bindings.now c.new-same.result c.new-same.ensures.empty v x has

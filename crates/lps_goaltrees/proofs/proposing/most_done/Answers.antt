use Rattle.std.proofs.Common.{◌≤◌, sym, subst, arith}
use Rattle.std.specs.List.{AllByRecursion}
use Rattle.lps_meaning.specs.declared.node.Node.{Node}
use Rattle.lps_goaltrees.proofs.Lists.{none_left}
use Rattle.lps_goaltrees.proofs.Offering.{most_next}
use Rattle.lps_goaltrees.proofs.proposing.most_done.Goals as goal

pub loop-node-preserved : goal.loop-node-preserved
loop-node-preserved c = λ bound.
    most_next c.args.nodes.now c.loop-node.node-index c.node-item.result c.loop-node.most c.max-most.result bound c.loop-node-test.true c.node-item.is c.max-most.ensures (c.loop-node.invariant bound)

pub returns-clause-above : goal.returns-clause-above
returns-clause-above c = (c.loop-node.invariant c.loop-node.most).1 (
  omega arith,
  subst (AllByRecursion (λ (node : Node). node.done ≤ c.loop-node.most)) (sym (none_left c.args.nodes.now c.loop-node.node-index (omega arith))) tt,
)

pub returns-clause-least : goal.returns-clause-least
returns-clause-least c = λ bound all. ((c.loop-node.invariant bound).0 all).0

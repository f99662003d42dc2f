use Rattle.lps_seq.proofs.Waiting.{stays_ready, waits, waits_not}
use Rattle.lps_seq.proofs.steps.wait.Goals as goal

pub can_come_true-requires-clause-timed : goal.can_come_true-requires-clause-timed
can_come_true-requires-clause-timed c = c.in_ok-left.ensures.timed c.args.moment.now.unknowns c.requires.timed

pub returns-in_ok-add_node-clause-found : goal.returns-in_ok-add_node-clause-found
returns-in_ok-add_node-clause-found c =
    waits c.args.moment.now c.args.stage.now c.requires c.args.found.now c.add_node.new.self c.in_ok-left.left.node c.in_ok-left.ensures.node c.text-text.result.now c.text-text.ensures c.in_ok-can_come_true.field-0 c.in_ok-can_come_true.ensures
    c.if-branch.true c.in_ok-add_node.ensures

pub returns-in_ok-add_node-clause-ready : goal.returns-in_ok-add_node-clause-ready
returns-in_ok-add_node-clause-ready c =
    stays_ready c.args.moment.now c.args.stage.now c.requires c.args.found.now c.add_node.new.self c.in_ok-left.left.node c.in_ok-left.ensures.node c.in_ok-add_node.ensures

pub returns-else-branch-clause-found : goal.returns-else-branch-clause-found
returns-else-branch-clause-found c =
    waits_not c.args.moment.now c.args.stage.now c.requires c.args.found.now c.in_ok-left.left.node c.in_ok-left.ensures.node c.text-text.result.now c.text-text.ensures c.in_ok-can_come_true.field-0 c.in_ok-can_come_true.ensures c.if-branch.false

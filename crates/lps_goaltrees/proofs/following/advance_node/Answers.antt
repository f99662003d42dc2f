use Rattle.lps_facts.specs.Facts.{members}
use Rattle.std.proofs.lemmas.Result.{on_ok_weaker}
use Rattle.lps_goaltrees.proofs.Growing.{grown_ready, stepped_grows}
use Rattle.lps_goaltrees.proofs.following.advance_node.Goals as goal

pub returns-clause-grows : goal.returns-clause-grows
returns-clause-grows c = on_ok_weaker c.add.result
    (λ grows. stepped_grows c.args.program.now c.args.depth c.args.node.now c.args.time (members c.args.facts.now) c.args.events.now c.in_ok-stepped.stepped c.args.found.now c.add.new.self c.in_ok-stepped.ensures.next grows)
    c.add.ensures

pub returns-clause-ready : goal.returns-clause-ready
returns-clause-ready c = on_ok_weaker c.add.result
    (λ grows. grown_ready c.args.program.now c.args.found.now.nodes.items c.add.new.self.nodes.items c.in_ok-stepped.stepped.nodes.items grows.nodes c.requires.ready c.in_ok-stepped.ensures.nodes)
    c.add.ensures

use Rattle.lps_facts.specs.Facts.{members}
use Rattle.lps_cycle.proofs.Agendas.{renewed}
use Rattle.lps_cycle.proofs.agenda.renew.Goals as goal

pub returns-clause-renews : goal.returns-clause-renews
returns-clause-renews c = renewed c.args.program.now 100 (members c.args.facts.now) c.lawful.ensures.accepted c.requires.text c.args.keys.now c.args.goals.now.pursuit c.add_all.new.goals.pursuit
    c.close.new.self.pursuit c.in_ok-created.created.items c.in_ok-closed.closed.items c.in_ok-created.ensures.adds c.in_ok-closed.ensures.closes

pub returns-clause-ready : goal.returns-clause-ready
returns-clause-ready c = c.close.ensures.ready c.args.program.now c.add_all.ensures.ready

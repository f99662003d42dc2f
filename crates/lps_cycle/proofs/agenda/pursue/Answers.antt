use Rattle.lps_facts.specs.Facts.{members}
use Rattle.lps_cycle.proofs.Agendas.{pursued_on}
use Rattle.lps_cycle.proofs.agenda.pursue.Goals as goal

pub returns-in-Ok-clause-pursues : goal.returns-in-Ok-clause-pursues
returns-in-Ok-clause-pursues c = pursued_on c.args.program.now 100 (members c.args.facts.now) c.args.time c.args.events.now c.args.keys.now c.args.goals.now.pursuit c.advance.new.self.pursuit
    c.renew.new.goals.pursuit c.in-Ok.told.created.items c.in-Ok.told.closed.items c.in_ok-advance.ensures.led_on c.in-Ok.ensures.renews

pub returns-in-Err-clause-ready : goal.returns-in-Err-clause-ready
returns-in-Err-clause-ready c = c.undo.ensures.ready c.args.program.now c.renew.ensures.ready

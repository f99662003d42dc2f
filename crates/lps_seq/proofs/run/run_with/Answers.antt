use Rattle.lps_seq.proofs.Running.{all_led, fresh}
use Rattle.lps_seq.proofs.run.run_with.Goals as goal

pub go_on-requires-clause-fresh : goal.go_on-requires-clause-fresh
go_on-requires-clause-fresh c = fresh c.args.moment.now.variables c.args.bindings.now c.extend.new.self c.lawful.ensures c.requires.none c.in_ok-extend.ensures.added

pub returns-clause-stepped : goal.returns-clause-stepped
returns-clause-stepped c =
    all_led c.args.moment.now c.args.stage c.new-found.result c.go_on.new.found c.new-found.ensures.nodes c.new-found.ensures.ended c.in_ok-go_on.ensures.found c.stepped.result c.stepped.ensures.nodes
    c.stepped.ensures.ended c.stepped.ensures.sorted c.stepped.ensures.cut

use Rattle.std.proofs.Common.{subst}
use Rattle.std.proofs.lemmas.Result.{on_ok_weaker}
use Rattle.lps_facts.specs.Facts.{members}
use Rattle.lps_meaning.specs.declared.goal.GoalKey.{GoalKey}
use Rattle.lps_seq.specs.declared.start.Start.TheVariants.{Alternative}
use Rattle.lps_seq.specs.Calls.{IsEntry}
use Rattle.lps_goaltrees.proofs.Growing.{entered_grows, grown_ready}
use Rattle.lps_goaltrees.proofs.following.enter_alternative.Goals as goal

pub returns-clause-grows : goal.returns-clause-grows
returns-clause-grows c =
    let entry = subst (λ (k : GoalKey). IsEntry c.args.program.now c.args.depth (Alternative k c.args.number) c.args.key.now.time (members c.args.facts.now) c.in_ok-stepped.stepped) c.in_ok-copy_key.ensures c.in_ok-stepped.ensures.entry in
    on_ok_weaker c.add.result
    (λ grows. entered_grows c.args.program.now c.args.depth c.args.key.now c.args.number (members c.args.facts.now) c.in_ok-stepped.stepped c.args.found.now c.add.new.self c.requires.number entry grows)
    c.add.ensures

pub returns-clause-ready : goal.returns-clause-ready
returns-clause-ready c = on_ok_weaker c.add.result
    (λ grows. grown_ready c.args.program.now c.args.found.now.nodes.items c.add.new.self.nodes.items c.in_ok-stepped.stepped.nodes.items grows.nodes c.requires.ready c.in_ok-stepped.ensures.nodes)
    c.add.ensures

use Rattle.std.proofs.Common.{arith}
use Rattle.lps_facts.specs.Facts.{members}
use Rattle.lps_seq.proofs.GoingOn.{is_next}
use Rattle.lps_seq.proofs.progressing.progress.Goals as goal

pub returns-clause-next : goal.returns-clause-next
returns-clause-next c =
    is_next c.led_law.ensures.on c.led_law.ensures.ends c.led_law.ensures.residuals c.args.program.now c.lawful.ensures.accepted c.lawful.ensures.formed c.args.depth c.args.node.now c.requires.node c.saturating_sub-before.result c.args.time (omega (arith, c.requires.time, c.saturating_sub-before.ensures)) (members c.args.facts.now) c.args.events.now
    c.run.result c.run.ensures.stepped

use Rattle.std.proofs.Common.{arith}
use Rattle.lps_index.proofs.Growing.{text_more, text_whole}
use Rattle.lps_index.proofs.tables.Tables.of.Goals as goal

pub loop-statement-init : goal.loop-statement-init
loop-statement-init c = c.new-tables.ensures

pub loop-statement-preserved : goal.loop-statement-preserved
loop-statement-preserved c = text_more c.as_slice-statement-items.result.now c.loop-statement.statement-index c.statement-item.result c.loop-statement.tables c.in_ok-next.next c.loop-statement-test.true c.statement-item.is c.loop-statement.invariant c.in_ok-next.ensures

pub returns : goal.returns
returns c = text_whole c.as_slice-statement-items.result.now c.args.text.now.statements c.loop-statement.statement-index c.loop-statement.tables c.as_slice-statement-items.ensures (omega arith) c.loop-statement.invariant

use Rattle.std.proofs.Common.{refl, arith}
use Rattle.lps_index.proofs.Gaining.{counted_more}
use Rattle.lps_index.proofs.table.Table.counted.Goals as goal

pub returns-in-Some : goal.returns-in-Some
returns-in-Some c = counted_more c.args.self _ (omega arith) refl refl refl

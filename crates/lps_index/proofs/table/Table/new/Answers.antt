use Rattle.std.proofs.Common.{refl}
use Rattle.lps_index.proofs.Growing.{none_in}
use Rattle.lps_index.proofs.table.Table.new.Goals as goal

pub returns : goal.returns
returns c = none_in _ refl c.new-all.ensures.empty c.new-others.ensures.empty c.new-closed.ensures.empty

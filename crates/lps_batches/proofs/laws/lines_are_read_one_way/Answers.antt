use Rattle.lps_batches.proofs.Read.{one_reading}
use Rattle.lps_batches.proofs.laws.lines_are_read_one_way.Goals as goal

pub returns : goal.returns
returns c = one_reading

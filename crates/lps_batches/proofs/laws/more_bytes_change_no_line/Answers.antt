use Rattle.lps_batches.proofs.MoreBytes.{keeps_lines}
use Rattle.lps_batches.proofs.laws.more_bytes_change_no_line.Goals as goal

pub returns : goal.returns
returns c = keeps_lines

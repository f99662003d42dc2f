use Rattle.lps_batches.proofs.Few.{batch_few}
use Rattle.lps_batches.proofs.laws.batches_have_few_events.Goals as goal

pub returns : goal.returns
returns c = batch_few

use Rattle.lps_seq.proofs.Staying.{rests_until_touched}
use Rattle.lps_seq.proofs.resting.rest_law.Goals as goal

pub returns : goal.returns
returns c = rests_until_touched

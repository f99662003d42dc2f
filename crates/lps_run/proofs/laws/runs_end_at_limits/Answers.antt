use Rattle.lps_run.proofs.Fullness.{full_or_whole}
use Rattle.lps_run.proofs.laws.runs_end_at_limits.Goals as goal

pub returns : goal.returns
returns c = full_or_whole c.plain_law.ensures.unique

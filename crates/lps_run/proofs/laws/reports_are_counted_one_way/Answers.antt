use Rattle.lps_run.proofs.Counting.{counted_one}
use Rattle.lps_run.proofs.laws.reports_are_counted_one_way.Goals as goal

pub returns : goal.returns
returns c = record { same = counted_one c.plain_law.ensures.unique }

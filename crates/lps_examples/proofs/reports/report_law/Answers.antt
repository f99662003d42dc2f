use Rattle.lps_examples.proofs.ConflictReports.{report}
use Rattle.lps_examples.proofs.reports.report_law.Goals as goal

pub returns : goal.returns
returns c = report

-- The bytes that are reported of a run of an accepted and well-formed text tell it.
use Rattle.lps_telling.specs.Laws.{AllBytesTellRuns, ReportsAreGround, ReportsTellRuns}
use Rattle.lps_telling.proofs.GroundReports.{report_ground}
use Rattle.lps_telling.proofs.WholeReports.{run_of_blocks, run_of_report}

pub small_run_ground : ReportsAreGround
small_run_ground text level depth trace h = report_ground text level depth h.accepted h.formed trace h.run h.small

pub small_run_of_blocks : AllBytesTellRuns
small_run_of_blocks text level depth trace other g h = run_of_blocks text level depth trace other g.run h.run (small_run_ground text level depth trace g) (small_run_ground text level depth other h)

pub small_run_of_report : ReportsTellRuns
small_run_of_report text level depth trace other g h = run_of_report text level depth trace other g.run h.run (small_run_ground text level depth trace g) (small_run_ground text level depth other h)

use Rattle.lps_telling.proofs.AtomTexts.{same_atom_text}
use Rattle.lps_telling.proofs.BlockLines.{block_told}
use Rattle.lps_telling.proofs.BlockTexts.{trace_of_bytes}
use Rattle.lps_telling.proofs.GroundRuns.{run_ground}
use Rattle.lps_telling.proofs.SmallRuns.{small_run_ground, small_run_of_blocks, small_run_of_report}
use Rattle.lps_telling.proofs.laws.telling_law.Goals as goal

pub returns-clause-atoms : goal.returns-clause-atoms
returns-clause-atoms c = same_atom_text

pub returns-clause-bytes : goal.returns-clause-bytes
returns-clause-bytes c = trace_of_bytes

pub returns-clause-block_bytes : goal.returns-clause-block_bytes
returns-clause-block_bytes c = block_told

pub returns-clause-ground : goal.returns-clause-ground
returns-clause-ground c = run_ground

pub returns-clause-report_bytes : goal.returns-clause-report_bytes
returns-clause-report_bytes c = small_run_of_blocks

pub returns-clause-whole_report : goal.returns-clause-whole_report
returns-clause-whole_report c = small_run_of_report

pub returns-clause-ground_report : goal.returns-clause-ground_report
returns-clause-ground_report c = small_run_ground

use Rattle.lps_batches.proofs.Cutting.{early_bad, end_bad, end_none}
use Rattle.lps_batches.proofs.laws.cutting_changes_nothing.Goals as goal

pub returns-clause-early : goal.returns-clause-early
returns-clause-early c = early_bad

pub returns-clause-bad : goal.returns-clause-bad
returns-clause-bad c = end_bad

pub returns-clause-end : goal.returns-clause-end
returns-clause-end c = end_none

use Rattle.lps_windows.proofs.Deciding.{none_come_true, windows_decide, windows_decide_begins}
use Rattle.lps_windows.proofs.laws.window_law.Goals as goal

pub returns : goal.returns
returns c = record { decide = windows_decide; none = none_come_true; begins = windows_decide_begins }

use Rattle.lps_residual.proofs.OneWake.{wakes_are_one}
use Rattle.lps_residual.proofs.waking.wake_law.Goals as goal

pub returns : goal.returns
returns c = wakes_are_one

use Rattle.std.proofs.Common.{take}
use Rattle.std.specs.List.{AllByRecursion}
use Rattle.lps_windows.specs.Windows.{IsTime}
use Rattle.lps_tests_sequences.proofs.residuals.are_times.Given as goal

-- those so far are
abbrev pub invariant-loop-time : goal.invariant-loop-time
invariant-loop-time l = AllByRecursion (IsTime 2) (take l.time-index l.times)

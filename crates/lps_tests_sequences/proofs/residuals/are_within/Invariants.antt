use Rattle.std.proofs.Common.{take}
use Rattle.std.specs.List.{AllByRecursion}
use Rattle.lps_windows.specs.Windows.{IsWithin}
use Rattle.lps_tests_sequences.proofs.residuals.are_within.Given as goal

-- those so far are
abbrev pub invariant-loop-limit : goal.invariant-loop-limit
invariant-loop-limit l = AllByRecursion (IsWithin 2) (take l.limit-index l.limits)

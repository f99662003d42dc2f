use Rattle.std.proofs.Common.{take}
use Rattle.std.specs.Prelude.{All}
use Rattle.lps_windows.specs.Windows.{IsWithin}
use Rattle.lps_tests_sequences.proofs.windows.are_within.Given as goal

-- the conditions so far are within the limits
abbrev pub invariant-loop-condition : goal.invariant-loop-condition
invariant-loop-condition l = All (IsWithin 2) (take l.condition-index l.conditions)

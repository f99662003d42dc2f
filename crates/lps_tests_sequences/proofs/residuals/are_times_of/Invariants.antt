use Rattle.std.proofs.Common.{take}
use Rattle.std.specs.List.{AllByRecursion}
use Rattle.lps_residual.specs.Moments.{IsTimeOf}
use Rattle.lps_tests_sequences.proofs.residuals.are_times_of.Given as goal

-- those so far are
abbrev pub invariant-loop-left : goal.invariant-loop-left
invariant-loop-left l = AllByRecursion (λ left. IsTimeOf 2 left.item) (take l.left-index l.rest)

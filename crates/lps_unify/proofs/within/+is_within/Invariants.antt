use Rattle.std.proofs.Common.{◌≡◌, sum_by, take}
use Rattle.lps_unify.specs.Weights.{outside, weigh}
use Rattle.lps_unify.proofs.within.+is_within.Given as goal

-- the arguments so far are within
abbrev pub invariant-loop-arg : goal.invariant-loop-arg
invariant-loop-arg l = sum_by (weigh (outside l.count)) (take l.arg-index l.arg-items) ≡ 0

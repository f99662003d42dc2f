use Rattle.std.proofs.Common.{◌≡◌, ◌+◌, drop}
use Rattle.lps_precond.specs.Cut.{count_early}
use Rattle.lps_precond.proofs.cutting.early_items.Given as goal

-- the items so far are early, and the count goes on from there
abbrev pub invariant-loop-count : goal.invariant-loop-count
invariant-loop-count l = l.count + count_early l.second (drop l.count l.items) ≡ count_early l.second l.items

use Rattle.std.proofs.Common.{◌≡◌, ◌++◌}
use Rattle.lps_watch.proofs.watch.in_order.Given as goal

-- the wakes so far, and those that are left
abbrev pub invariant-loop-wake : goal.invariant-loop-wake
invariant-loop-wake l = l.wakes.items ++ l.wake-iterator ≡ l.fn.found.keys
